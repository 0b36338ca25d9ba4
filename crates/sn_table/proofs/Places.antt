-- The place of a key that is inserted into a set.
use Rattle.std.proofs.Common.{◌≡◌, ℕ, suc, ◌+◌, List, [], ◌∷◌, ◌++◌, length, map, slice_get, Bool, true, false, ◌||◌, not, cond, Option, Some, IfSome, is_some, refl, ap, sym, subst, ◌∙◌, arith}
use Rattle.std.specs.List.{list_any, position_or_len}
use Rattle.indexmap.specs.IndexSet.{insert_key}
use Rattle.sn_base.specs.Groups.{Row, same_row}
use Rattle.sn_base.proofs.Lists.{by_test}
use Rattle.sn_base.proofs.FoldedLemmas.{same_row_exact}
use Rattle.sn_table.proofs.Decoded.{Agree}

-- held keys have their places where what they stand for has
pub place_decoded : {A B : Type 0} (here : A → A → Bool) (there : B → B → Bool) (decoded : A → B) (a : A) (b : B) (ks : List A) → Agree here there decoded a b ks
    → position_or_len (there b) (map decoded ks) ≡ position_or_len (here a) ks
place_decoded here there decoded a b [] h = refl
place_decoded here there decoded a b (k ∷ ks) h =
    ap (λ t. cond (not t) (1 + position_or_len (there b) (map decoded ks)) 0) h.0
    ∙ ap (λ n. cond (not (here a k)) (1 + n) 0) (place_decoded here there decoded a b ks h.1)

-- a list has at its end what is appended
after_all : {A : Type 0} (xs : List A) (x : A) → slice_get (xs ++ x ∷ []) (length xs) ≡ Some x
after_all [] x = refl
after_all (y ∷ xs) x = after_all xs x

one_more : (n : ℕ) → suc n ≡ 1 + n
one_more n = omega arith

-- the key stands where it was found, or after all others where it wasn't
module _ {A : Type 0} (same : A → A → Bool) (exact : (a b : A) → same a b ≡ true → a ≡ b) (key : A) where
  found_at : (ks : List A) → list_any (same key) ks ≡ true → slice_get ks (position_or_len (same key) ks) ≡ Some key
  found_at [] any = cc
  found_at (k ∷ ks) any =
      elim (same key k) as (λ t. same key k ≡ t → slice_get (k ∷ ks) (cond (not t) (1 + position_or_len (same key) ks) 0) ≡ Some key) [
        | true ↦ λ yes. ap Some (sym (exact key k yes))
        | false ↦ λ no. subst (λ i. slice_get (k ∷ ks) i ≡ Some key) (one_more (position_or_len (same key) ks)) (found_at ks (sym (ap (λ t. t || list_any (same key) ks) no) ∙ any))
      ] refl

  last_of_none : (ks : List A) → list_any (same key) ks ≡ false → position_or_len (same key) ks ≡ length ks
  last_of_none [] none = refl
  last_of_none (k ∷ ks) none =
      elim (same key k) as (λ t. same key k ≡ t → cond (not t) (1 + position_or_len (same key) ks) 0 ≡ suc (length ks)) [
        | true ↦ λ yes. cc
        | false ↦ λ no. sym (one_more (position_or_len (same key) ks)) ∙ ap suc (last_of_none ks (sym (ap (λ t. t || list_any (same key) ks) no) ∙ none))
      ] refl

  inserted_at : (ks : List A) → slice_get (insert_key same ks key) (position_or_len (same key) ks) ≡ Some key
  inserted_at ks =
      by_test (list_any (same key) ks)
      (λ any. ap (λ t. slice_get (cond t ks (ks ++ key ∷ [])) (position_or_len (same key) ks)) any ∙ found_at ks any)
      (λ none. ap (λ t. slice_get (cond t ks (ks ++ key ∷ [])) (position_or_len (same key) ks)) none
      ∙ ap (slice_get (ks ++ key ∷ [])) (last_of_none ks none) ∙ after_all ks key)

-- a row stands at the place that was reported of it
pub stands_at : (rows new : List Row) (row : Row) (reported : Option (ℕ × Bool)) (place : ℕ) (fresh : Bool) → reported ≡ Some (place, fresh)
    → new ≡ cond (is_some reported) (insert_key same_row rows row) rows → IfSome reported (λ p. p.0 ≡ position_or_len (same_row row) rows) → slice_get new place ≡ Some row
stands_at rows new row reported place fresh is keys at =
    let here : place ≡ position_or_len (same_row row) rows = subst (λ (o : Option (ℕ × Bool)). IfSome o (λ p. p.0 ≡ position_or_len (same_row row) rows)) is at in
    let added : new ≡ insert_key same_row rows row = keys ∙ ap (λ (o : Option (ℕ × Bool)). cond (is_some o) (insert_key same_row rows row) rows) is in
    ap (λ ks. slice_get ks place) added ∙ ap (slice_get (insert_key same_row rows row)) here ∙ inserted_at same_row same_row_exact row rows
