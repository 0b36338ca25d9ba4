-- What went before where stages come to their end.
use Rattle.std.proofs.Common.{◌≡◌, ℕ, List, [], ◌++◌, Bool, true, false, Option, None, Some, Result, Ok, Err, refl, ap, sym, ◌∙◌, subst}
use Rattle.std.specs.Prelude.{length, nat_lt, if◌then◌else◌}
use Rattle.std.specs.FinMap.{get}
use Rattle.sn_io.specs.Counts.{ByName}
use Rattle.sn_command.specs.declared.fault.Fault.{Fault}
use Rattle.sn_command.specs.declared.fault.Fault.TheVariants.{TooLarge}
use Rattle.sn_command.specs.declared.refusal.Refusal.{Refusal}
use Rattle.sn_command.specs.declared.refusal.Refusal.TheVariants.{Refused}
use Rattle.sn_command.specs.Outcomes.{Outcome, Stage, silent}
use Rattle.sn_command.specs.Refusals.{refusing}
use Rattle.sn_command.specs.Stages.{Bytes, Gives, GoesOn, Judges, Text, Then, most_text, within_limit}

ok_is : {A : Type 0} (x y : A) → ◌≡◌ {A = Result A Refusal} (Ok x) (Ok y) → x ≡ y
ok_is x y e = cc

ok_err : {A : Type 0} {x : A} {r : Refusal} {G : Type 0} → ◌≡◌ {A = Result A Refusal} (Ok x) (Err r) → G
ok_err e = absurd cc

-- a stage that gave this value, and the stages after it, which came to their end
pub record Passed {A B : Type 0} (first : Stage A) (second : A → Stage B) (files : ByName (List ℕ)) (whole : Outcome B) (last : B) : Type 0 where
  pub value : A
  pub text : List ℕ
  pub is : first files (record { text = text; end = Ok value })
  pub rest : Outcome B
  pub rest_is : second value files rest
  pub ends : rest.end ≡ Ok last
  pub texts : whole.text ≡ text ++ rest.text

module _ {A B : Type 0} (first : Stage A) (second : A → Stage B) (files : ByName (List ℕ)) (whole : Outcome B) (last : B) (ended : whole.end ≡ Ok last) where
  passed_by : (text : List ℕ) (end : Result A Refusal) → first files (record { text = text; end = end }) → GoesOn second files text end whole → Passed first second files whole last
  passed_by text (Err refusal) is same = ok_err (sym ended ∙ ap (λ (o : Outcome B). o.end) same)
  passed_by text (Ok value) is goes = record {
    value = value;
    text = text;
    is = is;
    rest = goes.0;
    rest_is = goes.1;
    ends = sym (ap (λ (o : Outcome B). o.end) goes.2) ∙ ended;
    texts = ap (λ (o : Outcome B). o.text) goes.2;
  }

  pub passed : Then first second files whole → Passed first second files whole last
  passed t = passed_by t.begun.text t.begun.end t.begins t.goes_on

-- what was judged so adds nothing
module _ {A : Type 0} (judgement : Result A Fault → Type 0) (files : ByName (List ℕ)) (text : List ℕ) (value : A) where
  judged_by : (verdict : Result A Fault) → judgement verdict → record { text = text; end = Ok value } ≡ silent (refusing verdict) → judgement (Ok value) × (text ≡ [])
  judged_by (Ok found) is same = (subst (λ (v : A). judgement (Ok v)) (sym (ok_is value found (ap (λ (o : Outcome A). o.end) same))) is, ap (λ (o : Outcome A). o.text) same)
  judged_by (Err fault) is same = ok_err (ap (λ (o : Outcome A). o.end) same)

  pub judged : Judges judgement files (record { text = text; end = Ok value }) → judgement (Ok value) × (text ≡ [])
  judged j = judged_by j.verdict j.is j.same

-- what was given so adds nothing
pub given_so : {A : Type 0} (verdict : Result A Fault) (files : ByName (List ℕ)) (text : List ℕ) (value : A) → Gives verdict files (record { text = text; end = Ok value }) → (verdict ≡ Ok value) × (text ≡ [])
given_so {A = A} (Ok found) files text value same = (ap Ok (sym (ok_is value found (ap (λ (o : Outcome A). o.end) same))), ap (λ (o : Outcome A). o.text) same)
given_so {A = A} (Err fault) files text value same = ok_err (ap (λ (o : Outcome A). o.end) same)

-- the bytes of a file that were read
module _ (most : ℕ) (name : List ℕ) (files : ByName (List ℕ)) (text bytes : List ℕ) where
  within_by : (t : Bool) (found : List ℕ) → record { text = text; end = Ok bytes } ≡ silent (if t then Err (Refused TooLarge) else Ok found) → (bytes ≡ found) × (text ≡ [])
  within_by true found same = ok_err (ap (λ (o : Outcome (List ℕ)). o.end) same)
  within_by false found same = (ok_is bytes found (ap (λ (o : Outcome (List ℕ)). o.end) same), ap (λ (o : Outcome (List ℕ)). o.text) same)

  held_by : (held : Option (List ℕ)) → record { text = text; end = Ok bytes } ≡ silent (within_limit most held) → (held ≡ Some bytes) × (text ≡ [])
  held_by None same = ok_err (ap (λ (o : Outcome (List ℕ)). o.end) same)
  held_by (Some found) same = let k = within_by (nat_lt most (length found)) found same in (ap Some (sym k.0), k.1)

  pub held : Bytes most name files (record { text = text; end = Ok bytes }) → (get files name ≡ Some bytes) × (text ≡ [])
  held same = held_by (get files name) same

-- a text that was read and judged so
pub record WasRead {A : Type 0} (name : List ℕ) (judgement : List ℕ → Result A Fault → Type 0) (files : ByName (List ℕ)) (text : List ℕ) (value : A) : Type 0 where
  pub bytes : List ℕ
  pub held : get files name ≡ Some bytes
  pub judged : judgement bytes (Ok value)
  pub silent : text ≡ []

pub was_read : {A : Type 0} (name : List ℕ) (judgement : List ℕ → Result A Fault → Type 0) (files : ByName (List ℕ)) (text : List ℕ) (value : A) → Text name judgement files (record { text = text; end = Ok value })
    → WasRead name judgement files text value
was_read {A = A} name judgement files text value t =
    let whole : Outcome A = record { text = text; end = Ok value } in
    let p = passed (Bytes most_text name) (λ bytes. Judges (judgement bytes)) files whole value refl t in
    let file = held most_text name files p.text p.value p.is in
    by_rest p file p.rest.end p.ends refl
  where
    by_rest : (p : Passed (Bytes most_text name) (λ bytes. Judges (judgement bytes)) files (record { text = text; end = Ok value }) value) → (get files name ≡ Some p.value) × (p.text ≡ [])
        → (end : Result A Refusal) → end ≡ Ok value → p.rest.end ≡ end → WasRead name judgement files text value
    by_rest p file end is same =
        let rest : Judges (judgement p.value) files (record { text = p.rest.text; end = Ok value }) =
        subst (λ (e : Result A Refusal). Judges (judgement p.value) files (record { text = p.rest.text; end = e })) (same ∙ is) p.rest_is in
        let k = judged (judgement p.value) files p.rest.text value rest in
        record { bytes = p.value; held = file.0; judged = k.0; silent = p.texts ∙ ap (λ t. t ++ p.rest.text) file.1 ∙ k.1 }
