-- A file that is read as a stream and judged, over plain values.
use Rattle.std.proofs.Common.{◌≡◌, ℕ, ◌≤◌, ◌^◌, List, [], ◌∷◌, Bool, true, false, if◌then◌else◌, Option, None, Some, Result, Ok, Err, IfSome, IsErrOf, is_some, length, ◌⊎◌, inl, inr, refl, ap, sym, subst, ◌∙◌, arith}
use Rattle.std.specs.FinMap.{get}
use Rattle.std.proofs.lemmas.Bool.{le-ltb}
use Rattle.sn_base.proofs.Lists.{by_test}
use Rattle.sn_io.specs.Counts.{ByName, OnlyRises, RoseAt}
use Rattle.sn_io.specs.Inputs.{Reads, stated_file}
use Rattle.sn_io.specs.declared.inputs.ReadError.{ReadError}
use Rattle.sn_command.specs.declared.fault.Fault.{Fault}
use Rattle.sn_command.specs.declared.fault.Fault.TheVariants as faults
use Rattle.sn_command.specs.declared.refusal.Refusal.{Refusal}
use Rattle.sn_command.specs.declared.refusal.Refusal.TheVariants.{Memory, Missing, ReadFault, Refused, Usage, WriteFault}
use Rattle.sn_command.specs.Outcomes.{Keeps, Outcome, Stage, silent}
use Rattle.sn_command.specs.Refusals.{by_chance, is_chance, refusing}
use Rattle.sn_command.specs.Runs.{Answers, Works}
use Rattle.sn_command.specs.Stages.{GoesOn, Judges, Text, most_text, within_limit}
use Rattle.sn_command.specs.Worlds.{Sunk, World}
use Rattle.sn_command.proofs.FileLemmas.{known_file, none_other, some_if}
use Rattle.sn_command.proofs.OutcomeLemmas.{chance_keeps, silent_keeps}
use Rattle.sn_command.proofs.StageLemmas.{MayCome}
use Rattle.sn_pcap.proofs.ReportedLemmas.{at_reported}
use Rattle.sn_command_capture.proofs.StreamLemmas.{read_follows}
use Rattle.sn_cost_training.specs.Trained.{Training}
use Rattle.sn_command_training.specs.Taking.{IsOfTraining}

-- ---- what a text that is judged comes to

module _ {A : Type 0} (name : List ℕ) (judgement : List ℕ → Result A Fault → Type 0) (files : ByName (List ℕ)) (outcome : Outcome A) (is : Text name judgement files outcome) where
  begun_is : (found : Option (List ℕ)) → get files name ≡ found → is.begun ≡ silent (within_limit most_text found)
  begun_is found e = is.begins ∙ ap (λ (o : Option (List ℕ)). silent (within_limit most_text o)) e

  begun_goes : (end : Result (List ℕ) Refusal) → is.begun ≡ silent end → GoesOn (λ (bytes : List ℕ). Judges (judgement bytes)) files [] end outcome
  begun_goes end e = subst (λ (o : Outcome (List ℕ)). GoesOn (λ (bytes : List ℕ). Judges (judgement bytes)) files o.text o.end outcome) e is.goes_on

  -- a file that has no more bytes than may be is judged
  pub text_due : (file : List ℕ) (verdict : Result A Fault) → get files name ≡ Some file → length file ≤ 2 ^ 30 → ((first second : Result A Fault) → judgement file first → judgement file second → first ≡ second)
      → judgement file verdict → outcome ≡ silent (refusing verdict)
  text_due file verdict e few once here =
      let goes : GoesOn (λ (bytes : List ℕ). Judges (judgement bytes)) files [] (Ok file) outcome =
      begun_goes (Ok file) (begun_is (Some file) e ∙ ap (λ (b : Bool). silent (if b then Err (Refused faults.TooLarge) else Ok file)) (le-ltb most_text (length file) few)) in
      let judged : goes.0 ≡ silent (refusing verdict) = goes.1.same ∙ ap (λ (v : Result A Fault). silent (refusing v)) (once goes.1.verdict verdict goes.1.is here) in
      goes.2 ∙ judged

-- an answer that isn't by chance is the verdict
answer_due : {A : Type 0} (judgement : Result A Fault → Type 0) (answer : Result A Refusal) (outcome : Outcome A) → ((verdict : Result A Fault) → judgement verdict → outcome ≡ silent (refusing verdict)) → Answers judgement answer → by_chance answer ≡ false
    → outcome ≡ silent answer
answer_due judgement (Ok value) outcome due a sure = due (Ok value) a
answer_due judgement (Err Memory) outcome due a sure = absurd cc
answer_due judgement (Err (Refused fault)) outcome due a sure = due (Err fault) a
answer_due judgement (Err Usage) outcome due a sure = absurd a
answer_due judgement (Err Missing) outcome due a sure = absurd a
answer_due judgement (Err ReadFault) outcome due a sure = absurd a
answer_due judgement (Err WriteFault) outcome due a sure = absurd a

-- ---- one file was read, and nothing was written

keeps_as : {A : Type 0} (answer : Result A Refusal) (outcome : Outcome A) (written : Option (List ℕ)) → (by_chance answer ≡ false → outcome ≡ silent answer) → Keeps outcome answer written written
keeps_as (Ok value) outcome written due = subst (λ (o : Outcome _). Keeps o (Ok value) written written) (sym (due refl)) (silent_keeps (Ok value) written)
keeps_as (Err refusal) outcome written due =
    by_test (is_chance refusal) (λ chance. chance_keeps outcome refusal written chance)
    (λ sure. subst (λ (o : Outcome _). Keeps o (Err refusal) written written) (sym (due sure)) (silent_keeps (Err refusal) written))

module _ {A : Type 0} (name : List ℕ) (stage : Stage A) (answer : Result A Refusal) (before now : World) (reported : now.files.reported ≡ before.files.reported) (rises : OnlyRises name before.files.faults now.files.faults)
    (out : now.out ≡ before.out) (places : now.places ≡ before.places) (unknown : get before.files.faults name ≡ None → answer ≡ Err Missing) (missing : answer ≡ Err Missing → get before.files.faults name ≡ None)
    (fault : answer ≡ Err ReadFault → RoseAt name before.files.faults now.files.faults) (no_usage : answer ≡ Err Usage → ⊥) (no_write : answer ≡ Err WriteFault → ⊥)
    (late : (fault : Fault) → answer ≡ Err (Refused fault) → MayCome {A = A} 0 (Err fault)) where
  pub works_streamed : ((files : ByName (List ℕ)) → before.files.reported ≡ Some files → (outcome : Outcome A) → stage files outcome → by_chance answer ≡ false → outcome ≡ silent answer) → Works (name ∷ []) stage before answer now
  works_streamed due = record {
    runs = record {
      keeps = λ files same outcome is. subst (λ (o : Sunk). Keeps outcome answer before.out.written o.written) (sym out) (keeps_as answer outcome before.out.written (due files same outcome is));
      missing = λ e. inl (missing e);
      read_fault = λ e. inl (fault e);
      write_fault = λ e. absurd (no_write e);
      words = no_usage;
      others = none_other name before.files.faults now.files.faults rises;
      queries = λ fault e. absurd (let wrong : 0 ≡ 2 = late (faults.Queries fault) e in omega arith);
      switch = λ fault e. absurd (let wrong : 1 ≤ 0 = late (faults.Switch fault) e in omega arith);
      follows = read_follows name before now reported rises out places;
    };
    unknown = unknown;
  }

-- ---- a training capture

-- what it may be answered
pub training_late : (answer : Result Training Refusal) → IsOfTraining answer → (fault : Fault) → answer ≡ Err (Refused fault) → MayCome {A = Training} 0 (Err fault)
training_late answer of fault e = of_fault fault (subst IsOfTraining e of)
  where
    of_fault : (f : Fault) → IsOfTraining (Err (Refused f)) → MayCome {A = Training} 0 (Err f)
    of_fault (faults.Queries f) h = absurd h
    of_fault (faults.Switch f) h = absurd h
    of_fault f h = tt

pub never_so : (answer : Result Training Refusal) (refusal : Refusal) → IsOfTraining answer → (IsOfTraining (Err refusal) → ⊥) → answer ≡ Err refusal → ⊥
never_so answer refusal of never e = never (subst IsOfTraining e of)

-- over a known file that has no more bytes than may be, the answer is what it is judged to be
pub judged_due : {A : Type 0} (reported : Option (ByName (List ℕ))) (counts : ByName ℕ) (name : List ℕ) (judgement : List ℕ → Result A Fault → Type 0) (answer : Result A Refusal) → (get counts name ≡ None → ⊥)
    → ((held : ByName (List ℕ)) (other : List ℕ) → reported ≡ Some held → is_some (get held other) ≡ is_some (get counts other)) → ((file : List ℕ) (first second : Result A Fault) → judgement file first → judgement file second → first ≡ second)
    → IfSome (stated_file reported name) (λ file. length file ≤ 2 ^ 30) → IfSome (stated_file reported name) (λ file. Answers (judgement file) answer)
    → (files : ByName (List ℕ)) → reported ≡ Some files → (outcome : Outcome A) → Text name judgement files outcome → by_chance answer ≡ false → outcome ≡ silent answer
judged_due reported counts name judgement answer known law once few judged files same outcome is sure =
    let stands : is_some (get files name) ≡ true = law files name same ∙ some_if (get counts name) known in
    let found = known_file files reported name (λ (file : List ℕ). length file ≤ 2 ^ 30) same stands few in
    let also = known_file files reported name (λ (file : List ℕ). Answers (judgement file) answer) same stands judged in
    let one : also.0 ≡ found.0 = let e : ◌≡◌ {A = Option (List ℕ)} (Some also.0) (Some found.0) = sym also.1 ∙ found.1 in cc in
    answer_due (judgement found.0) answer outcome (λ verdict here. text_due name judgement files outcome is found.0 verdict found.1 found.2 (once found.0) here)
    (subst (λ (file : List ℕ). Answers (judgement file) answer) one also.2) sure

-- a read that gives nothing gives nothing of any type
pub same_error : {A B : Type 0} {error other : ReadError} → IsErrOf {T = A} (Err error) other → IsErrOf {T = B} (Err error) other
same_error {error = error} {other = other} e = let same : error ≡ other = cc in ap (λ (x : ReadError). Err x) same

-- at the end of a file all of it was taken
pub all_taken : (reported now : Option (List ℕ)) (P : List ℕ → ℕ → Type 0) (place count : ℕ) (piece new : List ℕ) → now ≡ reported → count ≡ 0 → (length piece ≡ 0 → ⊥) → IfSome reported (λ file. P file place × (place ≤ length file))
    → IfSome now (λ file. Reads file place count piece new) → IfSome reported (λ file. P file (length file))
all_taken None now P place count piece new same none some taken reads = tt
all_taken (Some file) now P place count piece new same none some taken reads =
    let read : Reads file place count piece new = at_reported (λ (f : List ℕ). Reads f place count piece new) now file same reads in
    let ended : length file ≤ place = either (length file ≤ place) (length piece ≡ 0) some (read.none.0 none) in
    let end : place ≡ length file = let within = taken.1 in omega (arith, ended, within) in
    subst (λ (n : ℕ). P file n) end taken.0
  where
    either : (A B : Type 0) → (B → ⊥) → A ⊎ B → A
    either A B never (inl a) = a
    either A B never (inr b) = absurd (never b)

pub if_some_map : {A : Type 0} (o : Option A) {P Q : A → Type 0} → IfSome o P → ((a : A) → P a → Q a) → IfSome o Q
if_some_map None p f = tt
if_some_map (Some a) p f = f a p
