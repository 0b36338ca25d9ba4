-- The stages of a command, taken apart one by one.
use Rattle.std.proofs.Common.{◌≡◌, ℕ, List, [], ◌++◌, nat_lt, length, Bool, true, false, cond, Option, None, Some, Result, Ok, Err, refl, ap, sym, ◌∙◌, subst, inl, inr}
use Rattle.std.specs.FinMap.{get}
use Rattle.sn_command_finish.specs.Taken.{followed}
use Rattle.sn_plan_fit.specs.declared.misfit.Misfit.{Misfit}
use Rattle.sn_io.specs.Counts.{ByName}
use Rattle.sn_plan.specs.declared.fault.PlanFault.{PlanFault}
use Rattle.sn_plan.specs.declared.fault.PlanFault.TheVariants as plan_faults
use Rattle.sn_command_texts.specs.Fitting.{misfit_verdict}
use Rattle.sn_command_texts.specs.Queries.{QueriesIn}
use Rattle.sn_command_texts.specs.Texts.{PlanIn, SwitchIn, plan_fault, switch_fault}
use Rattle.sn_command.specs.declared.fault.Fault.{Fault}
use Rattle.sn_command.specs.declared.fault.Fault.TheVariants as faults
use Rattle.sn_command.specs.declared.refusal.Refusal.{Refusal}
use Rattle.sn_command.specs.declared.refusal.Refusal.TheVariants.{Refused}
use Rattle.sn_command.specs.Ends.{end_status}
use Rattle.sn_command.specs.Faults.{fault_status}
use Rattle.sn_command.specs.Outcomes.{Outcome, Stage, silent}
use Rattle.sn_command.specs.Refusals.{refusing, status_of}
use Rattle.sn_command.specs.Stages.{Gives, GoesOn, Judges, ReadAs, Text, Then, most_text, named, within_limit}
use Rattle.sn_switch.specs.declared.fault.SwitchFault.{SwitchFault}
use Rattle.sn_switch.specs.declared.fault.SwitchFault.TheVariants as switch_faults
use Rattle.sn_top_laws.specs.Replayed.{IsWritten}

-- ---- one stage and then another

module _ {A B : Type 0} {first : Stage A} {second : A → Stage B} {files : ByName (List ℕ)} {whole : Outcome B} where
  -- the first adds a text and gives a value: the second goes on from it
  pub goes_after : (text : List ℕ) (value : A) → ((begun : Outcome A) → first files begun → begun ≡ record { text = text; end = Ok value }) → Then first second files whole
      → (rest : Outcome B) × second value files rest × (whole ≡ record { text = text ++ rest.text; end = rest.end })
  goes_after text value is both = subst (λ (o : Outcome A). GoesOn second files o.text o.end whole) (is both.begun both.begins) both.goes_on

  -- the first refuses
  pub stops_after : (text : List ℕ) (refusal : Refusal) → ((begun : Outcome A) → first files begun → begun ≡ record { text = text; end = Err refusal }) → Then first second files whole
      → whole ≡ record { text = text; end = Err refusal }
  stops_after text refusal is both = subst (λ (o : Outcome A). GoesOn second files o.text o.end whole) (is both.begun both.begins) both.goes_on

  -- the first gives a value and adds nothing
  pub goes_silent : (value : A) → ((begun : Outcome A) → first files begun → begun ≡ silent (Ok value)) → Then first second files whole → second value files whole
  goes_silent value is both = let after = goes_after [] value is both in subst (second value files) (sym after.2) after.1

  -- the first has one outcome, and what follows each value too
  pub followed_is : (due : Outcome A) (next : A → Outcome B) → ((begun : Outcome A) → first files begun → begun ≡ due) → ((value : A) (rest : Outcome B) → second value files rest → rest ≡ next value)
      → Then first second files whole → whole ≡ followed due next
  followed_is due next is same both = by_end due.text due.end (subst (λ (o : Outcome A). GoesOn second files o.text o.end whole) (is both.begun both.begins) both.goes_on)
    where
      by_end : (text : List ℕ) (end : Result A Refusal) → GoesOn second files text end whole → whole ≡ followed (record { text = text; end = end }) next
      by_end text (Err refusal) e = e
      by_end text (Ok value) goes = goes.2 ∙ ap (λ (rest : Outcome B). record { text = text ++ rest.text; end = rest.end }) (same value goes.0 goes.1)

-- ---- endings with which nothing is written whole

abbrev pub IsUnwritten : Refusal → Type 0
IsUnwritten refusal = IsWritten (status_of refusal) → ⊥

-- a result is no such refusal
abbrev NoneWritten : {A : Type 0} → Result A Refusal → Type 0
NoneWritten (Ok value) = Unit {0}
NoneWritten (Err refusal) = IsUnwritten refusal

abbrev Harmless : {A : Type 0} → Result A Fault → Type 0
Harmless (Ok value) = Unit {0}
Harmless (Err fault) = IsWritten (fault_status fault) → ⊥

not_three : IsWritten 3 → ⊥
not_three (inl e) = cc
not_three (inr e) = cc

not_four : IsWritten 4 → ⊥
not_four (inl e) = cc
not_four (inr e) = cc

not_six : IsWritten 6 → ⊥
not_six (inl e) = cc
not_six (inr e) = cc

pub not_nine : IsWritten 9 → ⊥
not_nine (inl e) = cc
not_nine (inr e) = cc

pub not_twelve : IsWritten 12 → ⊥
not_twelve (inl e) = cc
not_twelve (inr e) = cc

limited : (few : Bool) (bytes : List ℕ) → NoneWritten {A = List ℕ} (cond few (Err (Refused faults.TooLarge)) (Ok bytes))
limited true bytes = not_twelve
limited false bytes = tt

limit_refuses : (held : Option (List ℕ)) → NoneWritten (within_limit most_text held)
limit_refuses None = not_nine
limit_refuses (Some bytes) = limited (nat_lt most_text (length bytes)) bytes

-- ---- texts

-- no fault of such a text ends with a status with which something is written whole
abbrev pub IsHarmless : {A : Type 0} → (List ℕ → Result A Fault → Type 0) → Type 0
IsHarmless {A = A} judgement = (bytes : List ℕ) (verdict : Result A Fault) → judgement bytes verdict → Harmless verdict

-- a text is judged in one way
abbrev pub IsOnce : {A : Type 0} → (List ℕ → Result A Fault → Type 0) → Type 0
IsOnce {A = A} judgement = (bytes : List ℕ) (first second : Result A Fault) → judgement bytes first → judgement bytes second → first ≡ second

-- a file's text is judged to be this
pub record Reads {A : Type 0} (name : List ℕ) (judgement : List ℕ → Result A Fault → Type 0) (files : ByName (List ℕ)) (value : A) : Type 0 where
  pub bytes : List ℕ
  pub held : within_limit most_text (get files name) ≡ Ok bytes
  pub is : judgement bytes (Ok value)

abbrev EndsSo : {A : Type 0} → List ℕ → (List ℕ → Result A Fault → Type 0) → ByName (List ℕ) → Result A Refusal → Type 0
EndsSo name judgement files (Ok value) = Reads name judgement files value
EndsSo name judgement files (Err refusal) = IsUnwritten refusal

module _ {A : Type 0} {name : List ℕ} {judgement : List ℕ → Result A Fault → Type 0} {files : ByName (List ℕ)} where
  -- what comes of a text
  text_ends : IsHarmless judgement → (begun : Outcome A) → Text name judgement files begun → (end : Result A Refusal) × (begun ≡ silent end) × EndsSo name judgement files end
  text_ends harmless begun text = by_limit (within_limit most_text (get files name)) refl (subst (λ (o : Outcome (List ℕ)). GoesOn (λ bytes. Judges (judgement bytes)) files o.text o.end begun) text.begins text.goes_on)
    where
      by_verdict : (bytes : List ℕ) → within_limit most_text (get files name) ≡ Ok bytes → (verdict : Result A Fault) → judgement bytes verdict → begun ≡ silent (refusing verdict) → (end : Result A Refusal) × (begun ≡ silent end) × EndsSo name judgement files end
      by_verdict bytes e (Ok value) is same = (Ok value, same, record { bytes = bytes; held = e; is = is })
      by_verdict bytes e (Err fault) is same = (Err (Refused fault), same, harmless bytes (Err fault) is)

      by_limit : (r : Result (List ℕ) Refusal) → within_limit most_text (get files name) ≡ r → GoesOn (λ bytes. Judges (judgement bytes)) files [] r begun → (end : Result A Refusal) × (begun ≡ silent end) × EndsSo name judgement files end
      by_limit (Err refusal) e goes = (Err refusal, goes, subst NoneWritten e (limit_refuses (get files name)))
      by_limit (Ok bytes) e goes = by_verdict bytes e goes.1.verdict goes.1.is (goes.2 ∙ goes.1.same)

  -- where all is written in the end, the text was read
  pub text_read : IsHarmless judgement → {second : A → Stage (Unit {0})} {whole : Outcome (Unit {0})} → Then (Text name judgement) second files whole → IsWritten (end_status whole.end)
      → (value : A) × Reads name judgement files value × second value files whole
  text_read harmless {second} {whole} both written = let ends = text_ends harmless both.begun both.begins in by_end ends.0 ends.1 ends.2
    where
      by_end : (end : Result A Refusal) → both.begun ≡ silent end → EndsSo name judgement files end → (value : A) × Reads name judgement files value × second value files whole
      by_end (Err refusal) same none =
          let stops : whole ≡ silent (Err refusal) = subst (λ (o : Outcome A). GoesOn second files o.text o.end whole) same both.goes_on in
          absurd (none (subst (λ (o : Outcome (Unit {0})). IsWritten (end_status o.end)) stops written))
      by_end (Ok value) same reads =
          let goes : GoesOn second files [] (Ok value) whole = subst (λ (o : Outcome A). GoesOn second files o.text o.end whole) same both.goes_on in
          (value, reads, subst (second value files) (sym goes.2) goes.1)

  -- a text that was read is followed by what goes on from it
  pub read_goes : IsOnce judgement → (value : A) → Reads name judgement files value → {B : Type 0} {second : A → Stage B} {whole : Outcome B} → Then (Text name judgement) second files whole → second value files whole
  read_goes once value reads both = goes_silent value begun_is both
    where
      begun_is : (begun : Outcome A) → Text name judgement files begun → begun ≡ silent (Ok value)
      begun_is begun text =
          let judged : Judges (judgement reads.bytes) files begun = goes_silent reads.bytes (λ first is. is ∙ ap (λ (r : Result (List ℕ) Refusal). silent r) reads.held) text in
          judged.same ∙ ap (λ (v : Result A Fault). silent (refusing v)) (once reads.bytes judged.verdict (Ok value) judged.is reads.is)

-- the same text stands in other files
pub reads_there : {A : Type 0} (name : List ℕ) (judgement : List ℕ → Result A Fault → Type 0) (files later : ByName (List ℕ)) (value : A) → get later name ≡ get files name → Reads name judgement files value → Reads name judgement later value
reads_there name judgement files later value same reads = record { bytes = reads.bytes; held = ap (within_limit most_text) same ∙ reads.held; is = reads.is }

-- ---- the faults of queries, switches and plans

named_harmless : {A F : Type 0} (name : F → Fault) → ((fault : F) → IsWritten (fault_status (name fault)) → ⊥) → (found : Result A F) → Harmless (named name found)
named_harmless name none (Ok value) = tt
named_harmless name none (Err fault) = none fault

read_harmless : {A F : Type 0} (name : F → Fault) (reading : Result A F → Type 0) → ((fault : F) → IsWritten (fault_status (name fault)) → ⊥) → (verdict : Result A Fault) → ReadAs name reading verdict → Harmless verdict
read_harmless name reading none verdict r = subst Harmless (sym r.same) (named_harmless name none r.found)

pub queries_harmless : IsHarmless QueriesIn
queries_harmless bytes verdict r = read_harmless faults.Queries _ (λ fault. not_three) verdict r

switch_none : (fault : SwitchFault) → IsWritten (fault_status (switch_fault fault)) → ⊥
switch_none (switch_faults.Lex line) = not_four
switch_none (switch_faults.Expected line) = not_four
switch_none (switch_faults.Range line) = not_four
switch_none (switch_faults.Twice line) = not_four
switch_none (switch_faults.Missing line) = not_four
switch_none switch_faults.Memory = not_twelve

pub switch_harmless : IsHarmless SwitchIn
switch_harmless bytes verdict r = read_harmless switch_fault _ switch_none verdict r

plan_none : (fault : PlanFault) → IsWritten (fault_status (plan_fault fault)) → ⊥
plan_none (plan_faults.Lex line) = not_six
plan_none (plan_faults.Expected line) = not_six
plan_none plan_faults.Memory = not_twelve

pub plan_harmless : IsHarmless PlanIn
plan_harmless bytes verdict r = read_harmless plan_fault _ plan_none verdict r

-- ---- a plan's test

-- where all is written in the end, no check failed
pub test_passed : (misfit : Option Misfit) {second : Unit {0} → Stage (Unit {0})} {files : ByName (List ℕ)} {whole : Outcome (Unit {0})} → Then (Gives (misfit_verdict misfit)) second files whole → IsWritten (end_status whole.end)
    → (misfit ≡ None) × second tt files whole
test_passed None both written = (refl, goes_silent tt (λ begun is. is) both)
test_passed (Some misfit) both written =
    absurd (not_six (subst (λ (o : Outcome (Unit {0})). IsWritten (end_status o.end)) (stops_after [] (Refused (faults.Misfit misfit)) (λ begun is. is) both) written))

pub passed_goes : (misfit : Option Misfit) → misfit ≡ None → {second : Unit {0} → Stage (Unit {0})} {files : ByName (List ℕ)} {whole : Outcome (Unit {0})} → Then (Gives (misfit_verdict misfit)) second files whole → second tt files whole
passed_goes misfit none both = goes_silent tt (λ begun is. is ∙ ap (λ m. silent (refusing (misfit_verdict m))) none) both
