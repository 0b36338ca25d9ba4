-- What a pipe gives packet by packet, where also the packets that it doesn't admit have a number.
use Rattle.std.proofs.Common.{◌≡◌, ℕ, suc, ◌+◌, ◌<◌, List, [], ◌∷◌, ◌++◌, map, filter, length, Bool, true, false, cond, nat_eq, Option, Some, None, refl, ap, ◌∙◌, append-nil, arith}
use Rattle.std.specs.List.{AllByRecursion}
use Rattle.std.proofs.lemmas.Bool.{ne_eqb}
use Rattle.sn_base.specs.Groups.{Row}
use Rattle.sn_base.proofs.Lists.{nat_self}
use Rattle.sn_pipe_items.specs.Items.{at_packet, numbered, rows_of}
use Rattle.sn_pipe.specs.AnyStage.{Stage}
use Rattle.sn_pipe.specs.Pipes.{PipeState, after_packets, item_of, admits, row_in}
use Rattle.sn_pipe.specs.Stages.{item_from, stages_after, stages_after_all}
use Rattle.std.specs.Option.{option_to_list}
use Rattle.sn_pipe.proofs.Flows.{Above, Flow, Rising, at_first, give, run}
use Rattle.sn_report.specs.Items.{Item}
use Rattle.sn_types.specs.Typed.{HasWidths}
use Rattle.sn_pipe.proofs.WindowLaw.{give_other, give_here}

-- ---- what stands at a packet

none_above : (level n : ℕ) (flow : Flow) (ss : List Stage) → Above n flow → at_packet (run level 0 ss flow) n ≡ []
none_above level n [] ss h = refl
none_above level n (x ∷ flow) ss h =
    give_other n x.0 (item_from level 0 ss x.1) (run level 0 (stages_after level ss x.1) flow) (ne_eqb n x.0 (λ e. omega (arith, h.0, e)))
    ∙ none_above level n flow (stages_after level ss x.1) h.1

-- ---- the rows that a pipe admits

abbrev pub with_stages : PipeState → List Stage → PipeState
with_stages p ss = record p { prefix = record p.prefix { stages = ss } }

module _ (p : PipeState) where
  abbrev beside : ℕ × List ℕ → ℕ × Row
  beside z = (z.0, row_in p z.1)

  abbrev admits_numbered : ℕ × List ℕ → Bool
  admits_numbered z = admits p z.1

  -- those of tuples of which the first has this number
  abbrev pub flow : ℕ → List (List ℕ) → Flow
  flow n tuples = map beside (filter admits_numbered (numbered n tuples))

  abbrev level : ℕ
  level = p.prefix.level

  pub above_flow : (k n : ℕ) (tuples : List (List ℕ)) → k < n → Above k (flow n tuples)
  above_flow k n [] lt = tt
  above_flow k n (tuple ∷ tuples) lt =
      let rest : List (ℕ × List ℕ) = filter admits_numbered (numbered (suc n) tuples) in
      elim (admits p tuple) as (λ b. Above k (map beside (cond b ((n, tuple) ∷ rest) rest))) [
        | true ↦ (lt, above_flow k (suc n) tuples (omega (arith, lt)))
        | false ↦ above_flow k (suc n) tuples (omega (arith, lt))
      ]

  pub rising_flow : (n : ℕ) (tuples : List (List ℕ)) → Rising (flow n tuples)
  rising_flow n [] = tt
  rising_flow n (tuple ∷ tuples) =
      let rest : List (ℕ × List ℕ) = filter admits_numbered (numbered (suc n) tuples) in
      elim (admits p tuple) as (λ b. Rising (map beside (cond b ((n, tuple) ∷ rest) rest))) [
        | true ↦ (above_flow n (suc n) tuples (omega arith), rising_flow (suc n) tuples)
        | false ↦ rising_flow (suc n) tuples
      ]

  pub all_flow : (P : Row → Type 0) → ((tuple : List ℕ) → HasWidths tuple → P (row_in p tuple)) → (n : ℕ) (tuples : List (List ℕ)) → AllByRecursion HasWidths tuples → AllByRecursion (λ x. P x.1) (flow n tuples)
  all_flow P h n [] widths = tt
  all_flow P h n (tuple ∷ tuples) widths =
      let rest : List (ℕ × List ℕ) = filter admits_numbered (numbered (suc n) tuples) in
      elim (admits p tuple) as (λ b. AllByRecursion (λ x. P x.1) (map beside (cond b ((n, tuple) ∷ rest) rest))) [
        | true ↦ (h tuple widths.0, all_flow P h (suc n) tuples widths.1)
        | false ↦ all_flow P h (suc n) tuples widths.1
      ]

  -- ---- packet by packet

  -- the tuple of a packet gives what stands at it
  pub run_at : (n : ℕ) (before later : List (List ℕ)) (tuple : List ℕ) (ss : List Stage)
      → at_packet (run level 0 ss (flow n (before ++ tuple ∷ later))) (n + length before) ≡ option_to_list (item_of (after_packets (with_stages p ss) before) tuple)
  run_at n [] later tuple ss =
      let rest : List (ℕ × List ℕ) = filter admits_numbered (numbered (suc n) later) in
      let here : n + 0 ≡ n = omega arith in
      let item : Option Item = item_from level 0 ss (row_in p tuple) in
      let above : Above n (flow (suc n) later) = above_flow n (suc n) later (omega arith) in
      ap (at_packet (run level 0 ss (flow n (tuple ∷ later)))) here
      ∙ elim (admits p tuple) as (λ b. at_packet (run level 0 ss (map beside (cond b ((n, tuple) ∷ rest) rest))) n ≡ option_to_list (cond b item None)) [
        | true ↦ give_here n item (run level 0 (stages_after level ss (row_in p tuple)) (flow (suc n) later))
            ∙ ap (λ xs. option_to_list item ++ xs) (none_above level n (flow (suc n) later) (stages_after level ss (row_in p tuple)) above) ∙ append-nil (option_to_list item)
        | false ↦ none_above level n (flow (suc n) later) ss above
      ]
  run_at n (first ∷ before) later tuple ss =
      let following : List (List ℕ) = before ++ tuple ∷ later in
      let rest : List (ℕ × List ℕ) = filter admits_numbered (numbered (suc n) following) in
      let next : List Stage = stages_after level ss (row_in p first) in
      let there : n + suc (length before) ≡ suc n + length before = omega arith in
      let other : nat_eq (suc n + length before) n ≡ false = ne_eqb (suc n + length before) n (λ e. omega (arith, e)) in
      ap (at_packet (run level 0 ss (flow n (first ∷ following)))) there
      ∙ elim (admits p first) as (λ b. at_packet (run level 0 ss (map beside (cond b ((n, first) ∷ rest) rest))) (suc n + length before) ≡ option_to_list (item_of (after_packets (with_stages p (cond b next ss)) before) tuple)) [
        | true ↦ give_other (suc n + length before) n (item_from level 0 ss (row_in p first)) (run level 0 next (flow (suc n) following)) other ∙ run_at (suc n) before later tuple next
        | false ↦ run_at (suc n) before later tuple ss
      ]

  -- the stages after all of them
  pub after_run : (n : ℕ) (tuples : List (List ℕ)) (ss : List Stage) → after_packets (with_stages p ss) tuples ≡ with_stages p (stages_after_all level ss (rows_of (flow n tuples)))
  after_run n [] ss = refl
  after_run n (tuple ∷ tuples) ss =
      let rest : List (ℕ × List ℕ) = filter admits_numbered (numbered (suc n) tuples) in
      let next : List Stage = stages_after level ss (row_in p tuple) in
      elim (admits p tuple) as (λ b. after_packets (with_stages p (cond b next ss)) tuples ≡ with_stages p (stages_after_all level ss (rows_of (map beside (cond b ((n, tuple) ∷ rest) rest))))) [
        | true ↦ after_run (suc n) tuples next
        | false ↦ after_run (suc n) tuples ss
      ]
