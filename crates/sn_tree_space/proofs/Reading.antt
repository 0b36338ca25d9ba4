-- The laws of a space, from those of the steps of its reader.
use Rattle.std.proofs.Common.{◌≡◌, ℕ, zero, suc, ◌+◌, ◌≤◌, ◌<◌, List, [], ◌∷◌, map, length, true, refl, ap, sym, ◌∙◌, subst, arith, inl, inr, length-append}
use Rattle.std.specs.List.{range_with_len}
use Rattle.std.proofs.lemmas.List.Sums.{fold_push}
use Rattle.sn_tree_space.specs.declared.follow.Follow.{Follow}
use Rattle.sn_tree_space.specs.declared.follow.Follow.TheVariants.{Complete, Choices}
use Rattle.sn_tree_space.specs.Space.{SpaceLaws, IsOneOf, with_choice, choices_in, children, GoesOnTo, itself, through, IsPartial, IsPlan}
use Rattle.sn_tree_space.specs.Readers.{Reader, read, space_of, MayFollow, ReaderLaws}

pub of_range : (first count x : ℕ) → IsOneOf x (range_with_len first count) → (first ≤ x) × (x < first + count)
of_range first zero x i = absurd i
of_range first (suc count) x (inl e) = (omega arith, omega arith)
of_range first (suc count) x (inr i) = let k = of_range (first + 1) count x i in (let h = k.0 in omega arith, let h = k.1 in omega arith)

pub choice_of : (q child : List ℕ) (xs : List ℕ) → IsOneOf child (map (with_choice q) xs) → (x : ℕ) × (child ≡ with_choice q x) × IsOneOf x xs
choice_of q child [] i = absurd i
choice_of q child (x ∷ xs) (inl e) = (x, e, inl refl)
choice_of q child (x ∷ xs) (inr i) = let k = choice_of q child xs i in (k.0, k.1, inr k.2)

-- a child has one more choice, which may follow
pub child_follows : (f : Follow) (q child : List ℕ) → IsOneOf child (map (with_choice q) (choices_in f)) → (x : ℕ) × (child ≡ with_choice q x) × MayFollow f x
child_follows Complete q child i = absurd i
child_follows (Choices first count) q child i = let k = choice_of q child (range_with_len first count) i in (k.0, k.1, of_range first count k.0 k.2)

module _ {S : Type 0} (r : Reader S) (depth : ℕ) (Holds : S → ℕ → Type 0) (L : ReaderLaws r depth Holds) where
  read_child : (q child : List ℕ) (x : ℕ) → child ≡ with_choice q x → read r child ≡ r.step (read r q) x
  read_child q child x e = ap (read r) e ∙ fold_push r.step r.start q x

  kept_child : (q child : List ℕ) → Holds (read r q) (length q) → IsOneOf child (children (space_of r depth) q) → Holds (read r child) (length child)
  kept_child q child h i =
      let x = child_follows (r.next (read r q)) q child i in
      let long : length q + 1 ≡ length child = sym (ap length x.1 ∙ length-append q (x.0 ∷ [])) in
      subst (λ a. Holds a (length child)) (sym (read_child q child x.0 x.1)) (subst (Holds (r.step (read r q) x.0)) long (L.keeps (read r q) (length q) x.0 h x.2))

  kept_along : (q t : List ℕ) → GoesOnTo (space_of r depth) q t → Holds (read r q) (length q) → Holds (read r t) (length t)
  kept_along _ _ (itself q) h = h
  kept_along _ _ (through q child t i g) h = kept_along child t g (kept_child q child h i)

  kept : (q : List ℕ) → IsPartial (space_of r depth) q → Holds (read r q) (length q)
  kept q part = kept_along [] q part L.begins

  pub space_laws : (t : List ℕ) → IsPlan (space_of r depth) t → SpaceLaws (space_of r depth)
  space_laws t plan = record {
    ends = λ q part h. L.ends (read r q) (length q) (kept q part) h;
    rises = λ q child part i. let x = child_follows (r.next (read r q)) q child i in
        subst (λ a. r.low (read r q) ≤ r.low a) (sym (read_child q child x.0 x.1)) (L.rises (read r q) (length q) x.0 (kept q part) x.2);
    stays_broken = λ q child part i b. let x = child_follows (r.next (read r q)) q child i in
        subst (λ a. r.bad a ≡ true) (sym (read_child q child x.0 x.1)) (L.stays_bad (read r q) (length q) x.0 (kept q part) x.2 b);
    some_plan = (t, plan);
  }
