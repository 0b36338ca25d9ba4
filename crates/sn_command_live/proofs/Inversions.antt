-- What is known of work that ends as the records of a capture end.
use Rattle.std.proofs.Common.{◌≡◌, ℕ, ◌≤◌, List, [], ◌++◌, Bool, true, false, cond, Option, Some, None, Result, Ok, Err, length, inl, inr, refl, ap, sym, ◌∙◌, subst}
use Rattle.std.specs.Prelude.{◌⊎◌, nat_lt}
use Rattle.std.specs.FinMap.{get}
use Rattle.std.proofs.lemmas.Bool.{false≢true, ltb-false}
use Rattle.sn_base.proofs.Lists.{by_test}
use Rattle.sn_io.specs.Counts.{ByName}
use Rattle.sn_command.specs.declared.fault.Fault.{Fault}
use Rattle.sn_command.specs.declared.fault.Fault.TheVariants as faults
use Rattle.sn_command.specs.declared.refusal.Refusal.{Refusal}
use Rattle.sn_command.specs.declared.refusal.Refusal.TheVariants.{Missing, Refused}
use Rattle.sn_command.specs.Outcomes.{Outcome, Stage}
use Rattle.sn_command.specs.Refusals.{refusing}
use Rattle.sn_command_live.specs.Captures.{IsHeld}
use Rattle.sn_command.specs.Stages.{Bytes, Does, GoesOn, Judges, Text, Then, most_text, within_limit}
use Rattle.sn_command.proofs.StageLemmas.{err_err}

-- whether a fault is that of a damaged record
abbrev pub is_damage : Fault → Bool
is_damage (faults.Cut at) = true
is_damage (faults.Bad at) = true
is_damage fault = false

abbrev pub is_ending : Refusal → Bool
is_ending (Refused fault) = is_damage fault
is_ending refusal = false

-- where the end is a refusal, it is that of a damaged record
abbrev pub EndsSo : {A : Type 0} → Result A Refusal → Type 0
EndsSo {A} end = (r : Refusal) → ◌≡◌ {A = Result A Refusal} end (Err r) → is_ending r ≡ true

-- a stage that is never refused so
abbrev pub NeverSo : {A : Type 0} → Stage A → ByName (List ℕ) → Type 0
NeverSo {A} stage files = (o : Outcome A) (r : Refusal) → stage files o → ◌≡◌ {A = Result A Refusal} o.end (Err r) → is_ending r ≡ false

err_is : {A : Type 0} {r s : Refusal} → ◌≡◌ {A = Result A Refusal} (Err r) (Err s) → r ≡ s
err_is e = cc

ok_is : {A : Type 0} {x y : A} → ◌≡◌ {A = Result A Refusal} (Ok x) (Ok y) → x ≡ y
ok_is e = cc

-- ---- one stage after another

module _ {A B : Type 0} (first : Stage A) (second : A → Stage B) (files : ByName (List ℕ)) where
  -- the first stage gave a value, and the second went on from it
  pub record Passed (whole : Outcome B) : Type 0 where
    pub begun : Outcome A
    pub begins : first files begun
    pub value : A
    pub ok : begun.end ≡ Ok value
    pub rest : Outcome B
    pub goes_on : second value files rest
    pub text : whole.text ≡ begun.text ++ rest.text
    pub end : whole.end ≡ rest.end

  pub passed : NeverSo first files → (whole : Outcome B) → Then first second files whole → EndsSo whole.end → Passed whole
  passed never whole t ends = by_end t.begun.end refl t.goes_on
    where
      by_end : (end : Result A Refusal) → t.begun.end ≡ end → GoesOn second files t.begun.text end whole → Passed whole
      by_end (Ok value) e (rest, goes, same) = record {
        begun = t.begun;
        begins = t.begins;
        value = value;
        ok = e;
        rest = rest;
        goes_on = goes;
        text = ap (λ (o : Outcome B). o.text) same;
        end = ap (λ (o : Outcome B). o.end) same;
      }
      by_end (Err r) e same = absurd (false≢true (sym (never t.begun r t.begins e) ∙ ends r (ap (λ (o : Outcome B). o.end) same)))

  pub never_then : NeverSo first files → ((value : A) → NeverSo (second value) files) → NeverSo (Then first second) files
  never_then one two whole r t e = by_end t.begun.end refl t.goes_on
    where
      by_end : (end : Result A Refusal) → t.begun.end ≡ end → GoesOn second files t.begun.text end whole → is_ending r ≡ false
      by_end (Ok value) same (rest, goes, is) = two value rest r goes (sym (ap (λ (o : Outcome B). o.end) is) ∙ e)
      by_end (Err s) same is = one t.begun r t.begins (same ∙ err_err (sym (ap (λ (o : Outcome B). o.end) is) ∙ e))

-- ---- stages that add nothing

module _ {A : Type 0} where
  pub never_does : (value : A) (text : List ℕ) (files : ByName (List ℕ)) → NeverSo (Does (record { text = text; end = Ok value })) files
  never_does value text files o r is e = absurd (let no = sym (ap (λ (o : Outcome A). o.end) is) ∙ e in cc)

  refused_is : (verdict : Result A Fault) (r : Refusal) → refusing verdict ≡ Err r → (fault : Fault) × (verdict ≡ Err fault) × (r ≡ Refused fault)
  refused_is (Ok value) r e = absurd (let no = e in cc)
  refused_is (Err fault) r e = (fault, refl, sym (err_is e))

  pub given_is : (verdict : Result A Fault) (value : A) → refusing verdict ≡ Ok value → verdict ≡ Ok value
  given_is (Ok v) value e = ap Ok (ok_is e)
  given_is (Err fault) value e = absurd (let no = e in cc)

  module _ (judgement : Result A Fault → Type 0) (files : ByName (List ℕ)) where
    pub never_judges : ((fault : Fault) → judgement (Err fault) → is_damage fault ≡ false) → NeverSo (Judges judgement) files
    never_judges harmless o r j e =
        let f = refused_is j.verdict r (sym (ap (λ (o : Outcome A). o.end) j.same) ∙ e) in
        ap is_ending f.2 ∙ harmless f.0 (subst judgement f.1 j.is)

    -- what was judged, and nothing added
    pub judged_so : (o : Outcome A) (value : A) → Judges judgement files o → o.end ≡ Ok value → judgement (Ok value) × (o.text ≡ [])
    judged_so o value j e = (subst judgement (given_is j.verdict value (sym (ap (λ (o : Outcome A). o.end) j.same) ∙ e)) j.is, ap (λ (o : Outcome A). o.text) j.same)

-- ---- texts of files

limits : (most : ℕ) (file : Option (List ℕ)) → ((bytes : List ℕ) × (file ≡ Some bytes) × (length bytes ≤ most) × (within_limit most file ≡ Ok bytes)) ⊎ ((r : Refusal) × (within_limit most file ≡ Err r) × (is_ending r ≡ false))
limits most None = inr (Missing, refl, refl)
limits most (Some bytes) =
    by_test (nat_lt most (length bytes))
    (λ is. inr (Refused faults.TooLarge, ap (λ b. cond b (Err (Refused faults.TooLarge)) (Ok bytes)) is, refl))
    (λ isnt. inl (bytes, refl, ltb-false most (length bytes) isnt, ap (λ b. cond b (Err (Refused faults.TooLarge)) (Ok bytes)) isnt))

module _ (most : ℕ) (name : List ℕ) (files : ByName (List ℕ)) where
  pub never_bytes : NeverSo (Bytes most name) files
  never_bytes o r is e = elim (limits most (get files name)) [
    | inl h ↦ absurd (let no = sym h.3 ∙ sym (ap (λ (o : Outcome (List ℕ)). o.end) is) ∙ e in cc)
    | inr h ↦ ap is_ending (sym (err_is (sym h.1 ∙ sym (ap (λ (o : Outcome (List ℕ)). o.end) is) ∙ e))) ∙ h.2
  ]

  pub bytes_so : (o : Outcome (List ℕ)) (bytes : List ℕ) → Bytes most name files o → o.end ≡ Ok bytes → IsHeld files name most bytes × (o.text ≡ [])
  bytes_so o bytes is e = (
    elim (limits most (get files name)) [
      | inl h ↦ let same : h.0 ≡ bytes = ok_is (sym h.3 ∙ sym (ap (λ (o : Outcome (List ℕ)). o.end) is) ∙ e) in record { is = h.1 ∙ ap Some same; few = subst (λ (l : List ℕ). length l ≤ most) same h.2 }
      | inr h ↦ absurd (let no = sym h.1 ∙ sym (ap (λ (o : Outcome (List ℕ)). o.end) is) ∙ e in cc)
    ],
    ap (λ (o : Outcome (List ℕ)). o.text) is,
  )

module _ {A : Type 0} (name : List ℕ) (judgement : List ℕ → Result A Fault → Type 0) (files : ByName (List ℕ)) where
  pub never_text : ((bytes : List ℕ) (fault : Fault) → judgement bytes (Err fault) → is_damage fault ≡ false) → NeverSo (Text name judgement) files
  never_text harmless = never_then (Bytes most_text name) (λ bytes. Judges (judgement bytes)) files (never_bytes most_text name files) (λ bytes. never_judges (judgement bytes) files (harmless bytes))

  -- a text was read, and judged to be this
  pub record ReadSo (value : A) : Type 0 where
    pub bytes : List ℕ
    pub has : IsHeld files name most_text bytes
    pub is : judgement bytes (Ok value)

  pub read_so : (o : Outcome A) (value : A) → Text name judgement files o → o.end ≡ Ok value → ReadSo value × (o.text ≡ [])
  read_so o value t e =
      let p = passed (Bytes most_text name) (λ bytes. Judges (judgement bytes)) files (never_bytes most_text name files) o t (λ r no. absurd (let k = sym e ∙ no in cc)) in
      let b = bytes_so most_text name files p.begun p.value p.begins p.ok in
      let j = judged_so (judgement p.value) files p.rest value p.goes_on (sym p.end ∙ e) in
      (record { bytes = p.value; has = b.0; is = j.0 }, p.text ∙ ap (λ (l : List ℕ). l ++ p.rest.text) b.1 ∙ j.1)
