-- The bits of a word that are 1.
use Rattle.std.proofs.Common.{◌≡◌, ℕ, zero, suc, ◌+◌, ◌-◌, ◌*◌, ◌/◌, ◌%◌, ◌^◌, ◌<◌, ◌≤◌, ◌==◌, List, [], ◌∷◌, filter, length, drop, get_or, slice_get, Bool, true, false, cond, Some, inl, inr, refl, ap, ap₂, sym, subst, ◌∙◌, arith, w64, count_ones, pow-suc}
use Rattle.std.specs.Int.{bit_at, trailing_zeros}
use Rattle.std.specs.Int.Count.{ones_step}
use Rattle.std.specs.List.{range_with_len}
use Rattle.std.proofs.lemmas.Bool.{cases_eq, cases_lt, eqb-true, eqb-false}
use Rattle.std.proofs.lemmas.Nat.{ones_le_self}
use Rattle.std.proofs.lemmas.Nat.Bits.{bit_at-suc, bit_at_lowest}
use Rattle.sn_chain.specs.Marks.{IsFirst, mark_at}
use Rattle.sn_chain.proofs.MarkLemmas.{NoneBefore, bit_within, first_in_word, none_in_word}
use Rattle.sn_core_drive.specs.Picking.{marked, marked_from}

-- ---- numbers that pass

module _ (t : ℕ → Bool) where
  -- none of these passes
  none_from : (a n : ℕ) → ((k : ℕ) → a ≤ k → t k ≡ false) → filter t (range_with_len a n) ≡ []
  none_from a zero none = refl
  none_from a (suc n) none =
      ap (λ b. cond b (a ∷ filter t (range_with_len (a + 1) n)) (filter t (range_with_len (a + 1) n))) (none a (omega arith))
      ∙ none_from (a + 1) n (λ k low. none k (omega (arith, low)))

  -- where the first m don't pass, those that do are among the rest
  passed_over : (m a n : ℕ) → ((k : ℕ) → a ≤ k → k < a + m → t k ≡ false) → filter t (range_with_len a (m + n)) ≡ filter t (range_with_len (a + m) n)
  passed_over zero a n none =
      let here : a ≡ a + 0 = omega arith in
      let all : 0 + n ≡ n = omega arith in
      ap₂ (λ x y. filter t (range_with_len x y)) here all
  passed_over (suc m) a n none =
      let more : suc m + n ≡ suc (m + n) = omega arith in
      let at : a + 1 + m ≡ a + suc m = omega arith in
      ap (λ y. filter t (range_with_len a y)) more
      ∙ ap (λ b. cond b (a ∷ filter t (range_with_len (a + 1) (m + n))) (filter t (range_with_len (a + 1) (m + n)))) (none a (omega arith) (omega arith))
      ∙ passed_over m (a + 1) n (λ k low high. none k (omega (arith, low)) (omega (arith, high)))
      ∙ ap (λ x. filter t (range_with_len x n)) at

  -- where none passes after the first n, these are all
  cut_off : (a n m : ℕ) → ((k : ℕ) → a + n ≤ k → t k ≡ false) → filter t (range_with_len a (n + m)) ≡ filter t (range_with_len a n)
  cut_off a zero m none =
      let all : 0 + m ≡ m = omega arith in
      ap (λ y. filter t (range_with_len a y)) all ∙ none_from a m (λ k low. none k (omega (arith, low)))
  cut_off a (suc n) m none =
      let more : suc n + m ≡ suc (n + m) = omega arith in
      ap (λ y. filter t (range_with_len a y)) more
      ∙ ap (λ xs. cond (t a) (a ∷ xs) xs) (cut_off (a + 1) n m (λ k low. none k (omega (arith, low))))

  -- so where none passes from n on, and none from m on, the first n have as many as the first m
  pub same_passing : (n m : ℕ) → ((k : ℕ) → n ≤ k → t k ≡ false) → ((k : ℕ) → m ≤ k → t k ≡ false) → filter t (range_with_len 0 n) ≡ filter t (range_with_len 0 m)
  same_passing n m after_n after_m =
      let turned : n + m ≡ m + n = omega arith in
      sym (cut_off 0 n m (λ k low. after_n k (omega (arith, low)))) ∙ ap (λ y. filter t (range_with_len 0 y)) turned ∙ cut_off 0 m n (λ k low. after_m k (omega (arith, low)))

-- ---- the places of a word

abbrev pub is_marked : ℕ → ℕ → Bool
is_marked word place = bit_at word place == 1

bit_fails : (word i : ℕ) → bit_at word i ≡ 0 → is_marked word i ≡ false
bit_fails word i none = ap (λ n. n == 1) none

pub marked_past : (word from place : ℕ) → from ≤ place → place ≤ 64 → ((i : ℕ) → from ≤ i → i < place → bit_at word i ≡ 0) → marked_from word from ≡ marked_from word place
unfolding marked_from
marked_past word from place low high none =
    let long : 64 - from ≡ (place - from) + (64 - place) = omega arith in
    let at : from + (place - from) ≡ place = omega arith in
    ap (λ n. filter (is_marked word) (range_with_len from n)) long
    ∙ passed_over (is_marked word) (place - from) from (64 - place) (λ i above below. bit_fails word i (none i above (omega (arith, below, at))))
    ∙ ap (λ n. filter (is_marked word) (range_with_len n (64 - place))) at

pub marked_head : (word place : ℕ) → place < 64 → bit_at word place ≡ 1 → marked_from word place ≡ place ∷ marked_from word (place + 1)
unfolding marked_from
marked_head word place within one =
    let long : 64 - place ≡ suc (64 - (place + 1)) = omega arith in
    ap (λ n. filter (is_marked word) (range_with_len place n)) long
    ∙ ap (λ b. cond b (place ∷ marked_from word (place + 1)) (marked_from word (place + 1))) (ap (λ n. n == 1) one)

-- of the marks of one word
bit_alone : (word place : ℕ) → place < 64 → mark_at (word ∷ []) place ≡ bit_at word place
bit_alone word place within =
    let first : place / 64 ≡ 0 = omega (arith, within) in
    let own : place % 64 ≡ place = omega (arith, within) in
    ap (λ n. bit_at (get_or (word ∷ []) n 0) (place % 64)) first ∙ ap (bit_at word) own

-- where there is one from a place on
module _ (word from : ℕ) (some : 0 < length (marked_from word from)) where
  pub from_within : from < 64
  unfolding marked_from
  from_within = elim (cases_lt from 64) [
    | inl small ↦ small
    | inr large ↦ absurd (
        let none : 64 - from ≡ 0 = omega (arith, large) in
        let empty : length (marked_from word from) ≡ 0 = ap (λ n. length (filter (is_marked word) (range_with_len from n))) none in
        omega (arith, some, empty))
  ]

  none_before : NoneBefore (word ∷ []) from (0 * 64 + from)
  none_before place low high = absurd (omega (arith, low, high))

  pub some_left : 0 < word / 2 ^ from
  unfolding marked_from
  some_left = elim (cases_lt 0 (word / 2 ^ from)) [
    | inl left ↦ left
    | inr gone ↦ absurd (
        let none = none_in_word (word ∷ []) from 0 from (omega arith) from_within none_before (omega (arith, gone)) in
        let over : marked_from word from ≡ marked_from word 64 = marked_past word from 64 (omega (arith, from_within)) (omega arith) (λ place low high. sym (bit_alone word place high) ∙ none place low (omega (arith, high))) in
        let empty : length (marked_from word from) ≡ 0 = ap (λ (xs : List ℕ). length xs) over in
        omega (arith, some, empty))
  ]

  module _ (whole : word < 2 ^ 64) (left : word / 2 ^ from < 2 ^ 64) where
    abbrev next : ℕ
    next = from + trailing_zeros w64 (word / 2 ^ from)

    pub next_within : next < 64
    next_within = bit_within (word ∷ []) from 0 from (omega arith) from_within none_before whole left some_left

    lowest : IsFirst (word ∷ []) from next
    lowest =
        let same : 0 * 64 + from + trailing_zeros w64 (word / 2 ^ from) ≡ next = omega arith in
        subst (IsFirst (word ∷ []) from) same (first_in_word (word ∷ []) from 0 from (omega arith) from_within none_before whole left some_left)

    pub next_is : bit_at word next ≡ 1
    next_is = sym (bit_alone word next next_within) ∙ lowest.marked

    pub next_same : marked_from word from ≡ marked_from word next
    next_same = marked_past word from next (omega arith) (omega (arith, next_within)) (λ place low high. sym (bit_alone word place (omega (arith, high, next_within))) ∙ lowest.first place low high)

-- ---- the one of a number

got_after : {X : Type 0} (n : ℕ) (xs ys : List X) (x : X) → drop n xs ≡ x ∷ ys → slice_get xs n ≡ Some x
got_after zero xs ys x e = ap (λ zs. slice_get zs 0) e
got_after (suc n) [] ys x e = cc
got_after (suc n) (z ∷ xs) ys x e = got_after n xs ys x e

one_less : {X : Type 0} (n : ℕ) (xs ys : List X) (x : X) → drop n xs ≡ x ∷ ys → drop (suc n) xs ≡ ys
one_less zero [] ys x e = cc
one_less zero (z ∷ xs) ys x e = ap (λ zs. drop 1 zs) e
one_less (suc n) [] ys x e = cc
one_less (suc n) (z ∷ xs) ys x e = one_less n xs ys x e

-- after n places comes this one
pub record IsAfter (word n place : ℕ) : Type 0 where
  pub within : place < 64
  pub is : bit_at word place ≡ 1
  pub rest : drop n (marked word) ≡ marked_from word place

pub place_got : (word n place : ℕ) → IsAfter word n place → slice_get (marked word) n ≡ Some place
place_got word n place h = got_after n (marked word) (marked_from word (place + 1)) place (h.rest ∙ marked_head word place h.within h.is)

pub rest_after : (word n place : ℕ) → IsAfter word n place → drop (n + 1) (marked word) ≡ marked_from word (place + 1)
rest_after word n place h = let next : n + 1 ≡ suc n = omega arith in ap (λ m. drop m (marked word)) next ∙ one_less n (marked word) (marked_from word (place + 1)) place (h.rest ∙ marked_head word place h.within h.is)

-- ---- how many there are

one_more : (b : Bool) (digit a : ℕ) (xs : List ℕ) → digit < 2 → (digit == 1) ≡ b → length (cond b (a ∷ xs) xs) ≡ digit + length xs
one_more true digit a xs small is = let one = eqb-true digit 1 is in omega (arith, one)
one_more false digit a xs small is = elim (cases_eq digit 1) [
  | inl one ↦ absurd (eqb-false digit 1 is one)
  | inr other ↦ elim (cases_lt digit 1) [
    | inl none ↦ omega (arith, none)
    | inr some ↦ absurd (other (omega (arith, small, some)))
  ]
]

count_from : (k a n : ℕ) (t : ℕ → Bool) → n < 2 ^ k → ((i : ℕ) → is_marked n i ≡ t (a + i)) → count_ones n ≡ length (filter t (range_with_len a k))
count_from zero a n t small is = let most = ones_le_self n in omega (arith, small, most)
count_from (suc k) a n t small is =
    let first : a + 0 ≡ a = omega arith in
    let lowest : (n % 2 == 1) ≡ t a = ap (λ d. d == 1) (sym (bit_at_lowest n)) ∙ is 0 ∙ ap t first in
    let more = count_from k (a + 1) (n / 2) t (omega (arith, small, pow-suc 2 k)) (λ i.
    let next : a + suc i ≡ a + 1 + i = omega arith in
    ap (λ d. d == 1) (sym (bit_at-suc n i)) ∙ is (suc i) ∙ ap t next) in
    ones_step n ∙ ap (λ c. n % 2 + c) more ∙ sym (one_more (t a) (n % 2) a (filter t (range_with_len (a + 1) k)) (omega arith) lowest)

pub many_marked : (word : ℕ) → word < 2 ^ 64 → count_ones word ≡ length (marked word)
unfolding marked_from
many_marked word whole = count_from 64 0 word (is_marked word) whole (λ i. let same : i ≡ 0 + i = omega arith in ap (is_marked word) same)
