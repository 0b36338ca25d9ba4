-- Each stage has exactly one outcome over each set of files.
use Rattle.std.proofs.Common.{◌≡◌, ℕ, List, ◌++◌, Result, Ok, Err, refl, ap, sym, ◌∙◌, subst}
use Rattle.sn_io.specs.Counts.{ByName}
use Rattle.sn_command.specs.declared.fault.Fault.{Fault}
use Rattle.sn_command.specs.declared.refusal.Refusal.{Refusal}
use Rattle.sn_command.specs.Refusals.{refusing}
use Rattle.sn_command.specs.Outcomes.{Outcome, silent, Stage, Has, HasOne}
use Rattle.sn_command.specs.Stages.{Does, Judges, HasVerdict, named, ReadAs, Bytes, most_text, GoesOn, Then, Text}

pub one_does : {A : Type 0} (due : Outcome A) → HasOne (Does due)
one_does due = record { some = λ files. record { outcome = due; is = refl }; once = λ files first second a b. a ∙ sym b }

pub one_judges : {A : Type 0} {judgement : Result A Fault → Type 0} → HasVerdict judgement → HasOne (Judges judgement)
one_judges {A = A} h = record {
  some = λ files. record { outcome = silent (refusing h.verdict); is = record { verdict = h.verdict; is = h.is; same = refl } };
  once = λ files first second a b. a.same ∙ ap (λ (v : Result A Fault). silent (refusing v)) (h.once a.verdict b.verdict a.is b.is) ∙ sym b.same;
}

pub one_bytes : (most : ℕ) (name : List ℕ) → HasOne (Bytes most name)
one_bytes most name = record { some = λ files. record { outcome = _; is = refl }; once = λ files first second a b. a ∙ sym b }

module _ {A B : Type 0} {first : Stage A} {second : A → Stage B} (one : HasOne first) (ones : (value : A) → HasOne (second value)) where
  some_after : (files : ByName (List ℕ)) (text : List ℕ) (end : Result A Refusal) → (whole : Outcome B) × GoesOn second files text end whole
  some_after files text (Err refusal) = (record { text = text; end = Err refusal }, refl)
  some_after files text (Ok value) =
      let rest : Has (second value) files = (ones value).some files in
      (record { text = text ++ rest.outcome.text; end = rest.outcome.end }, (rest.outcome, rest.is, refl))

  once_after : (files : ByName (List ℕ)) (text : List ℕ) (end : Result A Refusal) (p q : Outcome B) → GoesOn second files text end p → GoesOn second files text end q → p ≡ q
  once_after files text (Err refusal) p q a b = a ∙ sym b
  once_after files text (Ok value) p q (r, r_is, a) (s, s_is, b) =
      a ∙ ap (λ (rest : Outcome B). record { text = text ++ rest.text; end = rest.end }) ((ones value).once files r s r_is s_is) ∙ sym b

  pub one_then : HasOne (Then first second)
  one_then = record {
    some = λ files.
        let begun = one.some files in
        let whole = some_after files begun.outcome.text begun.outcome.end in
        record { outcome = whole.0; is = record { begun = begun.outcome; begins = begun.is; goes_on = whole.1 } };
    once = λ files p q a b.
        let same = one.once files b.begun a.begun b.begins a.begins in
        let other : GoesOn second files a.begun.text a.begun.end q = subst (λ (o : Outcome A). GoesOn second files o.text o.end q) same b.goes_on in
        once_after files a.begun.text a.begun.end p q a.goes_on other;
  }

pub one_text : {A : Type 0} (name : List ℕ) (judgement : List ℕ → Result A Fault → Type 0) → ((bytes : List ℕ) → HasVerdict (judgement bytes)) → HasOne (Text name judgement)
one_text name judgement h = one_then (one_bytes most_text name) (λ bytes. one_judges (h bytes))

-- a text that has one reading has one judgement
module _ {A F : Type 0} (name : F → Fault) (reading : Result A F → Type 0) (once : (first second : Result A F) → reading first → reading second → first ≡ second) where
  pub read_once : (first second : Result A Fault) → ReadAs name reading first → ReadAs name reading second → first ≡ second
  read_once first second a b = a.same ∙ ap (named name) (once a.found b.found a.is b.is) ∙ sym b.same

  pub one_reading : (found : Result A F) → reading found → HasVerdict (ReadAs name reading)
  one_reading found is = record { verdict = named name found; is = record { found = found; is = is; same = refl }; once = read_once }
