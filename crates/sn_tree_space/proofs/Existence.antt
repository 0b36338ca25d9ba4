-- Every space has a first least plan.
use Rattle.std.proofs.Common.{◌≡◌, ℕ, zero, suc, ◌+◌, ◌≤◌, List, [], ◌∷◌, map, length, Bool, true, false, refl, ap, ◌∙◌, subst, arith, inl, inr, length-append}
use Rattle.std.specs.Prelude.{◌⊎◌, ◌||◌, ◌&&◌, ◌==◌, nat_lt}
use Rattle.std.specs.Ordering.{is_gt, is_lt, nat_cmp}
use Rattle.std.specs.Cmp.Lexicographic.{slice_cmp}
use Rattle.std.specs.declared.cmp.Ordering.{Ordering}
use Rattle.std.specs.declared.cmp.Ordering.TheVariants.{Less, Equal, Greater}
use Rattle.std.proofs.lemmas.Bool.Decides.{nat_tests}
use Rattle.sn_tree_space.specs.declared.follow.Follow.{Follow}
use Rattle.sn_tree_space.specs.declared.follow.Follow.TheVariants.{Complete, Choices}
use Rattle.sn_tree_space.specs.Space.{Space, SpaceLaws, IsOneOf, with_choice, choices_in, children, GoesOnTo, itself, through, IsPartial, IsPlan, IsFirstLeast, stands_before, taken_before}
use Rattle.sn_tree_space.proofs.Partials.{child_partial, broken_along, complete_stays}
use Rattle.sn_tree_space.proofs.Order.{not_after, not_before, not_after_along, taken_later}

-- ---- the order in which lists are taken is an order

not_taken : (a b : ℕ) (t : Bool) → b ≤ a → (a ≡ b → t ≡ false) → (nat_lt a b || ((a == b) && t)) ≡ false
not_taken a b t h k = grind (arith, nat_tests)

was_taken : (a b : ℕ) (t : Bool) → (nat_lt a b || ((a == b) && t)) ≡ true → (a ≤ b) × (b ≡ a → t ≡ true)
was_taken a b t h = (grind (arith, nat_tests), λ e. grind (arith, nat_tests))

less_not_more : (o : Ordering) → is_lt o ≡ true → is_gt o ≡ false
less_not_more Less h = refl
less_not_more Equal h = cc
less_not_more Greater h = cc

-- a isn't after b, and b isn't after r
taken_along : (s : Space) (a b r : List ℕ) → taken_before s b a ≡ false → taken_before s r b ≡ false → taken_before s r a ≡ false
taken_along s a b r h k =
    let one = taken_later s b a h in
    let two = taken_later s r b k in
    not_taken (s.lower r) (s.lower a) (stands_before r a) (let low = one.0 in let up = two.0 in omega arith)
    (λ e. let low = one.0 in
    let up = two.0 in
    let first : s.lower b ≡ s.lower a = omega arith in
    let second : s.lower r ≡ s.lower b = omega arith in
    not_before a r (not_after_along a b r (not_after a b (one.1 first)) (not_after b r (two.1 second))))

taken_once : (s : Space) (a b : List ℕ) → taken_before s b a ≡ true → taken_before s a b ≡ false
taken_once s a b h =
    let k = was_taken (s.lower b) (s.lower a) (stands_before b a) h in
    not_taken (s.lower a) (s.lower b) (stands_before a b) k.0 (λ e. not_before b a (less_not_more (slice_cmp nat_cmp b a) (k.1 e)))

-- ---- the first least plan of those to which a list goes on

pub record IsFirstOf (s : Space) (leads : List ℕ → Type 0) (p : List ℕ) : Type 0 where
  pub plan : IsPlan s p
  pub led : leads p
  pub first : (r : List ℕ) → IsPlan s r → leads r → taken_before s r p ≡ false

-- there is no such plan, or a first one
abbrev Settled : Space → (List ℕ → Type 0) → Type 0
Settled s leads = ((r : List ℕ) → IsPlan s r → leads r → ⊥) ⊎ ((p : List ℕ) × IsFirstOf s leads p)

abbrev LedByOne : Space → List (List ℕ) → List ℕ → Type 0
LedByOne s qs r = (q : List ℕ) × IsOneOf q qs × GoesOnTo s q r

module _ (s : Space) (L : SpaceLaws s) where
  earlier : (q : List ℕ) (qs : List (List ℕ)) (a b : List ℕ) (t : Bool) → taken_before s b a ≡ t → IsFirstOf s (GoesOnTo s q) a → IsFirstOf s (LedByOne s qs) b
      → (p : List ℕ) × IsFirstOf s (LedByOne s (q ∷ qs)) p
  earlier q qs a b true t A B = (b, record { plan = B.plan; led = (B.led.0, inr B.led.1, B.led.2); first = first })
    where
      first : (r : List ℕ) → IsPlan s r → LedByOne s (q ∷ qs) r → taken_before s r b ≡ false
      first r plan (l, inl e, g) = taken_along s b a r (taken_once s a b t) (A.first r plan (subst (λ m. GoesOnTo s m r) e g))
      first r plan (l, inr i, g) = B.first r plan (l, i, g)
  earlier q qs a b false t A B = (a, record { plan = A.plan; led = (q, inl refl, A.led); first = first })
    where
      first : (r : List ℕ) → IsPlan s r → LedByOne s (q ∷ qs) r → taken_before s r a ≡ false
      first r plan (l, inl e, g) = A.first r plan (subst (λ m. GoesOnTo s m r) e g)
      first r plan (l, inr i, g) = taken_along s a b r t (B.first r plan (l, i, g))

  both : (q : List ℕ) (qs : List (List ℕ)) → Settled s (GoesOnTo s q) → Settled s (LedByOne s qs) → Settled s (LedByOne s (q ∷ qs))
  both q qs (inl none) (inl others) = inl nothing
    where
      nothing : (r : List ℕ) → IsPlan s r → LedByOne s (q ∷ qs) r → ⊥
      nothing r plan (l, inl e, g) = none r plan (subst (λ m. GoesOnTo s m r) e g)
      nothing r plan (l, inr i, g) = others r plan (l, i, g)
  both q qs (inl none) (inr (b, B)) = inr (b, record { plan = B.plan; led = (B.led.0, inr B.led.1, B.led.2); first = first })
    where
      first : (r : List ℕ) → IsPlan s r → LedByOne s (q ∷ qs) r → taken_before s r b ≡ false
      first r plan (l, inl e, g) = absurd (none r plan (subst (λ m. GoesOnTo s m r) e g))
      first r plan (l, inr i, g) = B.first r plan (l, i, g)
  both q qs (inr (a, A)) (inl others) = inr (a, record { plan = A.plan; led = (q, inl refl, A.led); first = first })
    where
      first : (r : List ℕ) → IsPlan s r → LedByOne s (q ∷ qs) r → taken_before s r a ≡ false
      first r plan (l, inl e, g) = A.first r plan (subst (λ m. GoesOnTo s m r) e g)
      first r plan (l, inr i, g) = absurd (others r plan (l, i, g))
  both q qs (inr (a, A)) (inr (b, B)) = inr (earlier q qs a b (taken_before s b a) refl A B)

  -- where each of these lists is settled, all of them are
  settled_each : (qs : List (List ℕ)) → ((q : List ℕ) → IsOneOf q qs → Settled s (GoesOnTo s q)) → Settled s (LedByOne s qs)
  settled_each [] h = inl (λ r plan led. led.1)
  settled_each (q ∷ qs) h = both q qs (h q (inl refl)) (settled_each qs (λ l i. h l (inr i)))

  itself_first : (q r : List ℕ) → q ≡ r → taken_before s r q ≡ false
  itself_first q r e = subst (λ l. taken_before s l q ≡ false) e (by_test (taken_before s q q) refl)
    where
      by_test : (t : Bool) → taken_before s q q ≡ t → taken_before s q q ≡ false
      by_test true h = taken_once s q q h
      by_test false h = h

  complete_settled : (q : List ℕ) (b : Bool) → s.broken q ≡ b → IsPartial s q → s.follow q ≡ Complete → Settled s (GoesOnTo s q)
  complete_settled q true b part e = inl (λ r plan g. let k = broken_along s L q r g part b in let n = plan.unbroken in absurd (true_not_false k n))
    where
      true_not_false : {t : Bool} → t ≡ true → t ≡ false → ⊥
      true_not_false h k = cc
  complete_settled q false b part e =
      inr (q, record { plan = record { partial = part; complete = e; unbroken = b }; led = itself q; first = λ r plan g. itself_first q r (complete_stays s q r g e) })

  through_one : (q r : List ℕ) (first count : ℕ) → GoesOnTo s q r → s.follow q ≡ Choices first count → s.follow r ≡ Complete → LedByOne s (children s q) r
  through_one _ _ first count (itself q) e f = cc
  through_one _ _ first count (through q child r i g) e f = (child, i, g)

  open_settled : (q : List ℕ) (first count : ℕ) → s.follow q ≡ Choices first count → Settled s (LedByOne s (children s q)) → Settled s (GoesOnTo s q)
  open_settled q first count e (inl none) = inl (λ r plan g. none r plan (through_one q r first count g e plan.complete))
  open_settled q first count e (inr (p, P)) =
      inr (p, record { plan = P.plan; led = through q P.led.0 p P.led.1 P.led.2; first = λ r plan g. P.first r plan (through_one q r first count g e plan.complete) })

  settled_by : (q : List ℕ) (f : Follow) → s.follow q ≡ f → IsPartial s q → Settled s (LedByOne s (children s q)) → Settled s (GoesOnTo s q)
  settled_by q Complete e part h = complete_settled q (s.broken q) refl part e
  settled_by q (Choices first count) e part h = open_settled q first count e h

  longer : (q child : List ℕ) (xs : List ℕ) → IsOneOf child (map (with_choice q) xs) → length child ≡ length q + 1
  longer q child [] i = absurd i
  longer q child (x ∷ xs) (inl e) = ap length e ∙ length-append q (x ∷ [])
  longer q child (x ∷ xs) (inr i) = longer q child xs i

  settled : (n : ℕ) (q : List ℕ) → IsPartial s q → s.depth ≤ n + length q → Settled s (GoesOnTo s q)
  settled zero q part h = complete_settled q (s.broken q) refl part (L.ends q part (omega arith))
  settled (suc n) q part h =
      settled_by q (s.follow q) refl part
      (settled_each (children s q) (λ child i. let more = longer q child (choices_in (s.follow q)) i in settled n child (child_partial s q child part i) (omega arith)))

  pub some_first_least : (p : List ℕ) × IsFirstLeast s p
  some_first_least = from_settled (settled s.depth [] (itself []) (omega arith))
    where
      from_settled : Settled s (GoesOnTo s []) → (p : List ℕ) × IsFirstLeast s p
      from_settled (inl none) = absurd (none L.some_plan.0 L.some_plan.1 L.some_plan.1.partial)
      from_settled (inr (p, P)) =
          (p, record { plan = P.plan; least = λ r plan. (taken_later s r p (P.first r plan plan.partial)).0; first = λ r plan e. (taken_later s r p (P.first r plan plan.partial)).1 e })
