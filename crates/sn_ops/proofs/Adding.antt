-- A row is added to those of its key.
use Rattle.std.proofs.Common.{◌≡◌, List, [], ◌∷◌, ◌++◌, Bool, true, false, cond, Option, Some, None, unwrap_or, refl, ap, sym, ◌∙◌, append-nil}
use Rattle.std.specs.Map.{lookup}
use Rattle.std.proofs.lemmas.Bool.{false≢true}
use Rattle.indexmap.specs.IndexMap.{insert_entry}
use Rattle.sn_base.specs.Groups.{Row, same_row}
use Rattle.sn_base.proofs.Lists.{by_test, not_true}
use Rattle.sn_base.proofs.FoldedLemmas.{same_row_exact}

first_held : (b : Bool) (x : Row) → unwrap_or (cond b (Some (x ∷ [])) None) [] ≡ cond b (x ∷ []) []
first_held true x = refl
first_held false x = refl

more_held : (b : Bool) (old : List Row) (rest : Option (List Row)) (x : Row) → unwrap_or (cond b (Some (old ++ x ∷ [])) rest) [] ≡ unwrap_or (cond b (Some old) rest) [] ++ cond b (x ∷ []) []
more_held true old rest x = refl
more_held false old rest x = sym (append-nil (unwrap_or rest []))

-- keys are equal where their columns are
module _ {K : Type 0} (eq : K → K → Bool) (f : K → Row) (same : (a b : K) → eq a b ≡ same_row (f a) (f b)) where
  are_one : (a b : K) → eq a b ≡ true → f a ≡ f b
  are_one a b is = same_row_exact (f a) (f b) (sym (same a b) ∙ is)

  alike : (q a b : K) → eq a b ≡ true → eq q a ≡ eq q b
  alike q a b is = same q a ∙ ap (same_row (f q)) (are_one a b is) ∙ sym (same q b)

  both_are : (q a b : K) → eq q a ≡ true → eq q b ≡ true → eq a b ≡ true
  both_are q a b is is' = same a b ∙ ap (λ r. same_row r (f b)) (sym (are_one q a is)) ∙ sym (same q b) ∙ is'

  -- what a key has after a row of a key was added
  pub one_added : (es : List (K × List Row)) (k q : K) (x : Row)
      → unwrap_or (lookup (eq q) (insert_entry eq es k (unwrap_or (lookup (eq k) es) [] ++ x ∷ []))) [] ≡ unwrap_or (lookup (eq q) es) [] ++ cond (eq q k) (x ∷ []) []
  one_added [] k q x = first_held (eq q k) x
  one_added (e ∷ es) k q x =
      let step : Bool → List Row = λ b.
      unwrap_or (lookup (eq q) (cond b ((e.0, unwrap_or (cond b (Some e.1) (lookup (eq k) es)) [] ++ x ∷ []) ∷ es) (e ∷ insert_entry eq es k (unwrap_or (cond b (Some e.1) (lookup (eq k) es)) [] ++ x ∷ [])))) [] in
      let had : List Row = unwrap_or (cond (eq q e.0) (Some e.1) (lookup (eq q) es)) [] in
      by_test (eq k e.0)
      (λ is. ap step is ∙ more_held (eq q e.0) e.1 (lookup (eq q) es) x ∙ ap (λ b. had ++ cond b (x ∷ []) []) (sym (alike q k e.0 is)))
      (λ isnt. ap step isnt ∙ by_test (eq q e.0)
      (λ here.
      let other : eq q k ≡ false = not_true (eq q k) (λ is. false≢true (sym isnt ∙ both_are q k e.0 is here)) in
      ap (λ b. unwrap_or (cond b (Some e.1) (lookup (eq q) (insert_entry eq es k (unwrap_or (lookup (eq k) es) [] ++ x ∷ [])))) []) here
      ∙ sym (ap (λ b. unwrap_or (cond b (Some e.1) (lookup (eq q) es)) [] ++ cond (eq q k) (x ∷ []) []) here ∙ ap (λ b. e.1 ++ cond b (x ∷ []) []) other ∙ append-nil e.1))
      (λ there.
      ap (λ b. unwrap_or (cond b (Some e.1) (lookup (eq q) (insert_entry eq es k (unwrap_or (lookup (eq k) es) [] ++ x ∷ [])))) []) there ∙ one_added es k q x
      ∙ sym (ap (λ b. unwrap_or (cond b (Some e.1) (lookup (eq q) es)) [] ++ cond (eq q k) (x ∷ []) []) there)))
