-- The choices of a partial plan follow one another.
use Rattle.std.proofs.Common.{◌≡◌, ℕ, zero, suc, ◌+◌, ◌≤◌, ◌<◌, List, [], ◌∷◌, ◌++◌, map, drop, length, get_or, refl, ap, sym, ◌∙◌, subst, arith, inl, inr, append_assoc, append-nil, add-one}
use Rattle.std.specs.Prelude.{fold}
use Rattle.std.specs.List.{range_with_len}
use Rattle.std.proofs.Math.Seq.{drop-cons}
use Rattle.std.proofs.lemmas.List.Sums.{fold_push}
use Rattle.sn_tree_space.specs.declared.follow.Follow.{Follow}
use Rattle.sn_tree_space.specs.declared.follow.Follow.TheVariants.{Complete, Choices}
use Rattle.sn_tree_space.specs.Space.{IsOneOf, with_choice, choices_in, GoesOnTo, itself, through, IsPartial}
use Rattle.sn_tree_space.specs.Readers.{Reader, read, space_of, MayFollow}
use Rattle.sn_plan_space.specs.Reading.{Follows}
use Rattle.sn_tree_space.proofs.Reading.{choice_of, child_follows}

module _ {S : Type 0} (r : Reader S) (depth : ℕ) where
  follows_from : (q t : List ℕ) → GoesOnTo (space_of r depth) q t → (more : List ℕ) × (t ≡ q ++ more) × Follows r (read r q) more
  follows_from _ _ (itself q) = ([], sym (append-nil q), tt)
  follows_from _ _ (through q child t i g) =
      let x = child_follows (r.next (read r q)) q child i in
      let rest = follows_from child t g in
      let here : read r child ≡ r.step (read r q) x.0 = ap (read r) x.1 ∙ fold_push r.step r.start q x.0 in
      (x.0 ∷ rest.0, rest.1 ∙ ap (λ l. l ++ rest.0) x.1 ∙ append_assoc q (x.0 ∷ []) rest.0, (x.2, subst (λ a. Follows r a rest.0) here rest.2))

  pub partial_follows : (t : List ℕ) → IsPartial (space_of r depth) t → Follows r r.start t
  partial_follows t part = let k = follows_from [] t part in subst (Follows r r.start) (sym k.1) k.2

  -- what each choice keeps holds after all of them
  pub kept_along : (Holds : S → Type 0) → ((a : S) (x : ℕ) → Holds a → MayFollow (r.next a) x → Holds (r.step a x)) → (a : S) (xs : List ℕ) → Holds a → Follows r a xs
      → Holds (fold r.step a xs)
  kept_along Holds keeps a [] h f = h
  kept_along Holds keeps a (x ∷ xs) h f = kept_along Holds keeps (r.step a x) xs (keeps a x h f.0) f.1

-- ---- a list from a place on

pub from_place : (xs : List ℕ) (i : ℕ) → i < length xs → drop i xs ≡ get_or xs i 0 ∷ drop (i + 1) xs
from_place xs i h = drop-cons xs i 0 h ∙ ap (λ j. get_or xs i 0 ∷ drop j xs) (sym (add-one i))
