-- Windows that are answered one after another, over plain values.
use Rattle.std.proofs.Common.{◌≡◌, ℕ, suc, ◌+◌, List, [], ◌∷◌, ◌++◌, None, Some, Result, Ok, Err, map, length, ap, sym, ◌∙◌, subst, append_assoc, append-nil, length-append}
use Rattle.std.specs.List.{AllByRecursion, flat_map}
use Rattle.sn_command.proofs.StageLemmas.{MayCome, gives_as, runs_chance, text_stops, text_then}
use Rattle.sn_command.specs.declared.fault.Fault.{Fault}
use Rattle.sn_command.specs.declared.refusal.Refusal.{Refusal}
use Rattle.sn_command.specs.declared.refusal.Refusal.TheVariants.{Memory}
use Rattle.sn_command.specs.Outcomes.{Outcome, Stage, silent}
use Rattle.sn_command.specs.Refusals.{refusing}
use Rattle.sn_command.specs.Runs.{Leads, Runs}
use Rattle.sn_command.specs.Stages.{Adds, Does}
use Rattle.sn_command.specs.Worlds.{World}
use Rattle.sn_command_captures.specs.Answered.{JointWording, Shared, damage_from, damage_or, rest_outcome, windows_in}
use Rattle.sn_command_captures.specs.Counted.{left_of}
use Rattle.sn_command_captures.specs.declared.share.Share.{Share}
use Rattle.sn_command_captures.specs.Shares.{IsSound}
use Rattle.sn_pcap.specs.declared.packet.Ending.{Ending}
use Rattle.sn_pcap.specs.declared.packet.Ending.TheVariants as endings
use Rattle.sn_windows.proofs.RunLemmas.{Rises}
use Rattle.sn_windows.specs.Windows.{in_window}
use Rattle.sn_windows_together.proofs.MergeLemmas.{windows_end, windows_step}
use Rattle.sn_windows_together.specs.Merging.{after_window, next_in}
use Rattle.sn_windows_together.specs.Together.{windows_of}

-- ---- what is left rises

pub left_rises : (s : Share) → IsSound s → Rises (left_of s)
left_rises s sound = sound

pub all_rise : (shares : List Share) → AllByRecursion IsSound shares → AllByRecursion Rises (map left_of shares)
all_rise [] sound = tt
all_rise (s ∷ shares) sound = (left_rises s sound.0, all_rise shares sound.1)

-- ---- one window more

-- the windows that are left, of which the first is answered
pub windows_next : (shares now : List Share) (w : ℕ) → AllByRecursion IsSound shares → next_in (map left_of shares) ≡ Some w → map left_of now ≡ map (after_window w) (map left_of shares)
    → windows_in shares ≡ (w, map (in_window w) (map left_of shares)) ∷ windows_in now
windows_next shares now w sound next left =
    windows_step (map left_of shares) w (all_rise shares sound) next
    ∙ ap (λ ls. (w, map (in_window w) (map left_of shares)) ∷ windows_of ls) (sym left)

pub windows_none : (shares : List Share) → next_in (map left_of shares) ≡ None → windows_in shares ≡ []
windows_none shares none = windows_end (map left_of shares) none

-- of all windows these were answered, and these are left
pub record IsBetween (P : List Shared → Type 0) (all left : List Shared) (count : ℕ) : Type 0 where
  pub done : List Shared
  pub answered : P done
  pub parts : all ≡ done ++ left
  pub count_is : count ≡ length done

-- all of them, where none is left
pub all_done : (P : List Shared → Type 0) (all left : List Shared) (count : ℕ) → IsBetween P all left count → left ≡ [] → P all × (count ≡ length all)
all_done P all left count b none =
    let whole : all ≡ b.done = b.parts ∙ ap (λ (ws : List Shared). b.done ++ ws) none ∙ append-nil b.done in
    (subst P (sym whole) b.answered, b.count_is ∙ sym (ap length whole))

-- one more
pub one_done : (P Q : List Shared → Type 0) (all left next : List Shared) (count more : ℕ) (x : Shared) → (b : IsBetween P all left count) → left ≡ x ∷ next → Q (b.done ++ x ∷ []) → more ≡ count + 1 → IsBetween Q all next more
one_done P Q all left next count more x b parts answered is = record {
  done = b.done ++ x ∷ [];
  answered = answered;
  parts = b.parts ∙ ap (λ (ws : List Shared). b.done ++ ws) parts ∙ sym (append_assoc b.done (x ∷ []) next);
  count_is = is ∙ ap (λ n. n + 1) b.count_is ∙ sym (length-append b.done (x ∷ []));
}

-- ---- memory

pub memory_alone : {whole : Stage (Unit {0})} {before now : World} {refusal : Refusal} → ◌≡◌ {A = Result ℕ Refusal} (Err refusal) (Err Memory) → Runs [] whole before (Err Memory) now → Runs [] whole before (Err refusal) now
memory_alone {whole} {before} {now} {refusal} e r = let same : refusal ≡ Memory = cc in subst (λ (x : Refusal). Runs [] whole before (Err x) now) (sym same) r

-- ---- the damage

or_may : (number : ℕ) (e : Ending) (others : Result (Unit {0}) Fault) → MayCome 0 others → MayCome 0 (damage_or number e others)
or_may number endings.Clean others may = may
or_may number (endings.Cut at) others may = tt
or_may number (endings.Bad at) others may = tt

pub damage_may : (number : ℕ) (ends : List Ending) → MayCome 0 (damage_from number ends)
damage_may number [] = tt
damage_may number (e ∷ es) = or_may number e (damage_from (suc number) es) (damage_may (suc number) es)

-- ---- the text

module _ (wording : JointWording) (all : List Shared) (ends : List Ending) where
  first_text : (x : Shared) (ws : List Shared) → rest_outcome wording all ends (x ∷ ws)
      ≡ record { text = wording.block all x ++ (rest_outcome wording all ends ws).text; end = (rest_outcome wording all ends ws).end }
  first_text x ws = ap (λ (t : List ℕ). record { text = t; end = refusing (damage_from 1 ends) }) (append_assoc (wording.block all x) (flat_map (wording.block all) ws) (wording.last all ends))

  last_text : rest_outcome wording all ends [] ≡ record { text = wording.last all ends ++ []; end = refusing (damage_from 1 ends) }
  last_text = ap (λ (t : List ℕ). record { text = t; end = refusing (damage_from 1 ends) }) (sym (append-nil (wording.last all ends)))

  -- what is left of the stage, with these windows
  abbrev pub Left : List Shared → Stage (Unit {0})
  Left ws = Does (rest_outcome wording all ends ws)

  module _ {whole : Stage (Unit {0})} {before now : World} where
    module _ (x : Shared) (ws : List Shared) (leads : Leads [] (Left (x ∷ ws)) whole before now) where
      block_then : {after : World} → Runs [] (Adds (wording.block all x)) now (Ok tt) after → Leads [] (Left ws) whole before after
      block_then r = λ answer later left. leads answer later
          (subst (λ (o : Outcome (Unit {0})). Runs [] (Does o) now answer later) (sym (first_text x ws)) (text_then (wording.block all x) (rest_outcome wording all ends ws) r left))

      block_stops : {after : World} {refusal : Refusal} → Runs [] (Adds (wording.block all x)) now (Err refusal) after → Runs [] whole before (Err refusal) after
      block_stops {after} {refusal} r = leads (Err refusal) after
          (subst (λ (o : Outcome (Unit {0})). Runs [] (Does o) now (Err refusal) after) (sym (first_text x ws)) (text_stops (wording.block all x) (rest_outcome wording all ends ws) r))

    -- the windows that are left begin with one whose block is this text
    module _ (left : List Shared) (x : Shared) (ws : List Shared) (text : List ℕ) (leads : Leads [] (Left left) whole before now) (parts : left ≡ x ∷ ws) (is : text ≡ wording.block all x) where
      begins : Leads [] (Left (x ∷ ws)) whole before now
      begins = subst (λ (vs : List Shared). Leads [] (Left vs) whole before now) parts leads

      pub text_goes : {after : World} → Runs [] (Adds text) now (Ok tt) after → Leads [] (Left ws) whole before after
      text_goes {after} r = block_then x ws begins (subst (λ (t : List ℕ). Runs [] (Adds t) now (Ok tt) after) is r)

      pub text_fails : {after : World} {refusal : Refusal} → Runs [] (Adds text) now (Err refusal) after → Runs [] whole before (Err refusal) after
      text_fails {after} {refusal} r = block_stops x ws begins (subst (λ (t : List ℕ). Runs [] (Adds t) now (Err refusal) after) is r)

    pub memory_stops : (ws : List Shared) → Leads [] (Left ws) whole before now → Runs [] whole before (Err Memory) now
    memory_stops ws leads = leads (Err Memory) now (runs_chance (Left ws) now)

    -- no window is left, and this text stands after all of them
    module _ (left : List Shared) (text : List ℕ) (leads : Leads [] (Left left) whole before now) (none : left ≡ []) (is : text ≡ wording.last all ends) where
      lines : Leads [] (Left []) whole before now
      lines = subst (λ (ws : List Shared). Leads [] (Left ws) whole before now) none leads

      pub lines_fail : {after : World} {refusal : Refusal} → Runs [] (Adds text) now (Err refusal) after → Runs [] whole before (Err refusal) after
      lines_fail {after} {refusal} r = lines (Err refusal) after
          (subst (λ (o : Outcome (Unit {0})). Runs [] (Does o) now (Err refusal) after) (sym last_text)
          (text_stops (wording.last all ends) (silent (refusing (damage_from 1 ends))) (subst (λ (t : List ℕ). Runs [] (Adds t) now (Err refusal) after) is r)))

      pub lines_end : {after : World} {answer : Result (Unit {0}) Refusal} → Runs [] (Adds text) now (Ok tt) after → answer ≡ refusing (damage_from 1 ends) → Runs [] whole before answer after
      lines_end {after} {answer} r reported = lines answer after
          (subst (λ (o : Outcome (Unit {0})). Runs [] (Does o) now answer after) (sym last_text)
          (text_then (wording.last all ends) (silent (refusing (damage_from 1 ends))) (subst (λ (t : List ℕ). Runs [] (Adds t) now (Ok tt) after) is r) (gives_as (damage_from 1 ends) (damage_may 1 ends) reported)))
