-- What follows from the laws of a space along the lists of choices.
use Rattle.std.proofs.Common.{◌≡◌, ℕ, ◌≤◌, List, [], ◌∷◌, ◌++◌, map, true, refl, ap, sym, ◌∙◌, arith, inl, inr, append_assoc, append-nil}
use Rattle.sn_tree_space.specs.declared.follow.Follow.TheVariants.{Complete}
use Rattle.sn_tree_space.specs.Space.{Space, SpaceLaws, IsOneOf, with_choice, children, choices_in, GoesOnTo, itself, through, IsPartial}

pub goes_on : (s : Space) (a b : List ℕ) (c : List ℕ) → GoesOnTo s a b → GoesOnTo s b c → GoesOnTo s a c
goes_on s _ _ c (itself q) h = h
goes_on s _ _ c (through q child r i g) h = through q child c i (goes_on s child r c g h)

pub child_partial : (s : Space) (q child : List ℕ) → IsPartial s q → IsOneOf child (children s q) → IsPartial s child
child_partial s q child h i = goes_on s [] q child h (through q child child i (itself child))

pub lower_along : (s : Space) → SpaceLaws s → (q r : List ℕ) → GoesOnTo s q r → IsPartial s q → s.lower q ≤ s.lower r
lower_along s L _ _ (itself q) h = omega arith
lower_along s L _ _ (through q child r i g) h =
    let step : s.lower q ≤ s.lower child = L.rises q child h i in
    let more : s.lower child ≤ s.lower r = lower_along s L child r g (child_partial s q child h i) in omega arith

pub broken_along : (s : Space) → SpaceLaws s → (q r : List ℕ) → GoesOnTo s q r → IsPartial s q → s.broken q ≡ true → s.broken r ≡ true
broken_along s L _ _ (itself q) h b = b
broken_along s L _ _ (through q child r i g) h b = broken_along s L child r g (child_partial s q child h i) (L.stays_broken q child h i b)

pub children_complete : (s : Space) (q : List ℕ) → s.follow q ≡ Complete → children s q ≡ []
children_complete s q e = ap (λ f. map (with_choice q) (choices_in f)) e

pub none_among : {A : Type 0} (x : A) (xs : List A) → xs ≡ [] → IsOneOf x xs → ⊥
none_among x [] e i = i
none_among x (y ∷ ys) e i = cc

-- a complete list goes on to itself alone
pub complete_stays : (s : Space) (q r : List ℕ) → GoesOnTo s q r → s.follow q ≡ Complete → q ≡ r
complete_stays s _ _ (itself q) e = refl
complete_stays s _ _ (through q child r i g) e = absurd (none_among child (children s q) (children_complete s q e) i)

pub is_child : (q child : List ℕ) (xs : List ℕ) → IsOneOf child (map (with_choice q) xs) → (x : ℕ) × (child ≡ with_choice q x)
is_child q child [] i = absurd i
is_child q child (x ∷ xs) (inl e) = (x, e)
is_child q child (x ∷ xs) (inr i) = is_child q child xs i

-- a list goes on to longer ones that begin with it
pub begins : (s : Space) (q r : List ℕ) → GoesOnTo s q r → (more : List ℕ) × (r ≡ q ++ more)
begins s _ _ (itself q) = ([], sym (append-nil q))
begins s _ _ (through q child r i g) =
    let x = is_child q child (choices_in (s.follow q)) i in
    let rest = begins s child r g in
    (x.0 ∷ rest.0, rest.1 ∙ ap (λ l. l ++ rest.0) x.1 ∙ append_assoc q (x.0 ∷ []) rest.0)
