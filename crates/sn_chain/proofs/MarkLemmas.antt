-- The marks of the cells that are in use.
use Rattle.std.proofs.Common.{◌≡◌, ◌≢◌, ℕ, ◌+◌, ◌-◌, ◌*◌, ◌/◌, ◌%◌, ◌^◌, ◌<◌, ◌≤◌, List, length, true, false, nat_eq, Option, Some, None, is_none, get_or, set, length-set, replicate, inl, inr, ap, sym, ◌∙◌, arith, w64, refl, zero, suc, bit_or}
use Rattle.std.specs.Int.{bit_at, div_ceil, trailing_zeros}
use Rattle.std.proofs.lemmas.Bool.{cases_eq, cases_lt, false≢true, true≢false}
use Rattle.std.proofs.lemmas.Grind.{div_ceil_times, get_or-set_at}
use Rattle.std.proofs.lemmas.List.{get_or-set_same, get_or-set_other, get_or_past, get_or-replicate, length-replicate}
use Rattle.std.proofs.lemmas.Nat.{mul-le, shr-shr}
use Rattle.std.proofs.lemmas.Nat.Bits.{bit_at-trailing_zeros, bit_at-zero, bit_at_above, bit_at_set_same, bit_at_set_other}
use Rattle.sn_chain.specs.Registers.{cell}
use Rattle.sn_chain.specs.Marks.{mark_at, mark_of, AreMarks, IsFirst}

-- a bit of what is left of a word after a shift
bit_shifted : (word k b : ℕ) → bit_at (word / 2 ^ k) b ≡ bit_at word (k + b)
bit_shifted word k b = ap (λ x. x % 2) (shr-shr word k b)

-- nothing is left: no bit from k on
no_bit : (word k i : ℕ) → word / 2 ^ k ≡ 0 → k ≤ i → bit_at word i ≡ 0
no_bit word k i none low =
    let at : k + (i - k) ≡ i = omega arith in
    ap (bit_at word) (sym at) ∙ sym (bit_shifted word k (i - k)) ∙ ap (λ x. bit_at x (i - k)) none ∙ bit_at-zero (i - k)

-- the lowest bit from k on
first_bit : (word k : ℕ) → word < 2 ^ 64 → word / 2 ^ k < 2 ^ 64 → 0 < word / 2 ^ k → let t = trailing_zeros w64 (word / 2 ^ k) in
    (k + t < 64) × (bit_at word (k + t) ≡ 1) × ((i : ℕ) → k ≤ i → i < k + t → bit_at word i ≡ 0)
first_bit word k whole left some =
    let t : ℕ = trailing_zeros w64 (word / 2 ^ k) in
    let lowest = bit_at-trailing_zeros w64 (word / 2 ^ k) some left in
    let one : bit_at word (k + t) ≡ 1 = sym (bit_shifted word k t) ∙ lowest.1 in
    (within t one, one, below t lowest.2)
  where
    within : (t : ℕ) → bit_at word (k + t) ≡ 1 → k + t < 64
    within t one = elim (cases_lt (k + t) 64) [
      | inl small ↦ small
      | inr large ↦ absurd (let zero_there : bit_at word (k + t) ≡ 0 = bit_at_above word 64 (k + t) whole large in omega (arith, one, zero_there))
    ]

    below : (t : ℕ) → ((i : ℕ) → i < t → bit_at (word / 2 ^ k) i ≡ 0) → (i : ℕ) → k ≤ i → i < k + t → bit_at word i ≡ 0
    below t zeros i low high =
        let at : k + (i - k) ≡ i = omega arith in
        ap (bit_at word) (sym at) ∙ sym (bit_shifted word k (i - k)) ∙ zeros (i - k) (omega arith)

-- ---- a place is marked

module _ (words : List ℕ) (place : ℕ) (within : place / 64 < length words) where
  abbrev word : ℕ
  word = bit_or (get_or words (place / 64) 0) (1 * 2 ^ (place % 64) % 2 ^ 64)

  pub marked_here : mark_at (set words (place / 64) word) place ≡ 1
  marked_here =
      ap (λ w. bit_at w (place % 64)) (get_or-set_same words (place / 64) word 0 within)
      ∙ bit_at_set_same w64 (get_or words (place / 64) 0) (place % 64) (omega arith)

  pub marked_others : (p : ℕ) → p ≢ place → mark_at (set words (place / 64) word) p ≡ mark_at words p
  marked_others p other = elim (cases_eq (p / 64) (place / 64)) [
    | inl same ↦
        ap (λ w. bit_at w (p % 64)) (get_or-set_at words (place / 64) (p / 64) word 0 same within)
        ∙ bit_at_set_other w64 (get_or words (place / 64) 0) (place % 64) (omega arith) (p % 64) (λ e. other (omega (arith, e, same)))
        ∙ ap (λ n. bit_at (get_or words n 0) (p % 64)) (sym same)
    | inr apart ↦ ap (λ w. bit_at w (p % 64)) (get_or-set_other words (place / 64) (p / 64) word 0 apart)
  ]

-- ---- the search

-- no place is marked so far
abbrev pub NoneBefore : List ℕ → ℕ → ℕ → Type 0
NoneBefore words from end = (p : ℕ) → from ≤ p → p < end → mark_at words p ≡ 0

-- a place in a word
mark_in : (words : List ℕ) (at p : ℕ) → at * 64 ≤ p → p < at * 64 + 64 → mark_at words p ≡ bit_at (get_or words at 0) (p - at * 64)
mark_in words at p low high =
    let there : p / 64 ≡ at = omega arith in
    let bit : p % 64 ≡ p - at * 64 = omega arith in
    ap (λ n. bit_at (get_or words n 0) (p % 64)) there ∙ ap (bit_at (get_or words at 0)) bit

module _ (words : List ℕ) (from at bit : ℕ) (low : from ≤ at * 64 + bit) (small : bit < 64) (before : NoneBefore words from (at * 64 + bit)) where
  abbrev left : ℕ
  left = get_or words at 0 / 2 ^ bit

  -- a word in which nothing is left
  pub none_in_word : left ≡ 0 → NoneBefore words from ((at + 1) * 64 + 0)
  none_in_word none p above below = elim (cases_lt p (at * 64 + bit)) [
    | inl early ↦ before p above early
    | inr late ↦ mark_in words at p (omega arith) (omega arith) ∙ no_bit (get_or words at 0) bit (p - at * 64) none (omega arith)
  ]

  pub bit_within : get_or words at 0 < 2 ^ 64 → left < 2 ^ 64 → 0 < left → bit + trailing_zeros w64 left < 64
  bit_within whole rest some = (first_bit (get_or words at 0) bit whole rest some).0

  -- a word in which a bit is left
  pub first_in_word : get_or words at 0 < 2 ^ 64 → left < 2 ^ 64 → 0 < left → IsFirst words from (at * 64 + bit + trailing_zeros w64 left)
  first_in_word whole rest some =
      let t : ℕ = trailing_zeros w64 left in
      let found = first_bit (get_or words at 0) bit whole rest some in
      let inside : bit + t < 64 = found.0 in
      let place : at * 64 + bit + t - at * 64 ≡ bit + t = omega arith in
      record {
        no_less = omega (arith, low);
        marked = mark_in words at (at * 64 + bit + t) (omega arith) (omega (arith, inside)) ∙ ap (bit_at (get_or words at 0)) place ∙ found.1;
        first = λ p above below. elim (cases_lt p (at * 64 + bit)) [
          | inl early ↦ before p above early
          | inr late ↦ mark_in words at p (omega arith) (omega (arith, inside, below)) ∙ found.2 (p - at * 64) (omega arith) (omega (arith, below))
        ];
      }

-- ---- the marks of cells

none_set : (n i : ℕ) → let none : ℕ = 0 in get_or (replicate n none) i none ≡ none
none_set n i = elim (cases_lt i n) [
  | inl within ↦ get_or-replicate n i 0 0 within
  | inr past ↦ get_or_past (replicate n 0) i 0 (omega (arith, length-replicate {A = ℕ} n 0))
]

pub none_marked : (n p : ℕ) → mark_at (replicate n 0) p ≡ 0
none_marked n p = ap (λ w. bit_at w (p % 64)) (none_set n (p / 64)) ∙ bit_at-zero (p % 64)

none_held : {X : Type 0} (n p : ℕ) → let none : List (Option X) = replicate n None in cell none p ≡ None
none_held zero p = refl
none_held (suc n) zero = refl
none_held (suc n) (suc p) = none_held n p

-- cells that hold nothing
pub marks_bare : {X : Type 0} (n : ℕ) (words : List ℕ) (cells : List (Option X)) → words ≡ replicate (div_ceil n 64) 0 → cells ≡ replicate n None → AreMarks words cells
marks_bare {X = X} n words cells is bare =
    record {
      level = ap length is ∙ length-replicate (div_ceil n 64) 0 ∙ ap (λ m. div_ceil m 64) (sym (ap length bare ∙ length-replicate n None));
      each = λ p.
          ap (λ (ws : List ℕ). mark_at ws p) is ∙ none_marked (div_ceil n 64) p
          ∙ sym (ap mark_of (ap (λ (cs : List (Option X)). cell cs p) bare ∙ none_held n p));
    }

module _ {X : Type 0} (words : List ℕ) (cells : List (Option X)) (are : AreMarks words cells) (at : ℕ) (within : at < length cells) where
  -- the word of a place
  pub word_within : at / 64 < length words
  word_within = omega (arith, within, are.level, div_ceil_times (length cells) 64 (omega arith))

  -- a cell holds something new
  pub marks_taken : (new : List ℕ) (x : X) → length new ≡ length words → mark_at new at ≡ 1 → ((p : ℕ) → p ≢ at → mark_at new p ≡ mark_at words p) → AreMarks new (set cells at (Some x))
  marks_taken new x long here others =
      record {
        level = long ∙ are.level ∙ ap (λ n. div_ceil n 64) (sym (length-set cells at (Some x)));
        each = λ p. elim (cases_eq p at) [
          | inl same ↦ ap (mark_at new) same ∙ here ∙ sym (ap mark_of (get_or-set_at cells at p (Some x) None same within))
          | inr apart ↦ others p apart ∙ are.each p ∙ sym (ap mark_of (get_or-set_other cells at p (Some x) None apart))
        ];
      }

  -- a cell holds something else in place of what it holds
  pub marks_stay : (o : Option X) → mark_of o ≡ mark_of (cell cells at) → AreMarks words (set cells at o)
  marks_stay o alike =
      record {
        level = are.level ∙ ap (λ n. div_ceil n 64) (sym (length-set cells at o));
        each = λ p. elim (cases_eq p at) [
          | inl same ↦ are.each p ∙ ap (λ n. mark_of (cell cells n)) same ∙ sym alike ∙ sym (ap mark_of (get_or-set_at cells at p o None same within))
          | inr apart ↦ are.each p ∙ sym (ap mark_of (get_or-set_other cells at p o None apart))
        ];
      }

-- ---- what the marks say of cells

no_mark : {X : Type 0} (o : Option X) → mark_of o ≡ 0 → o ≡ None
no_mark None is = refl
no_mark (Some x) is = absurd (omega (arith, is))

module _ {X : Type 0} (words : List ℕ) (cells : List (Option X)) (are : AreMarks words cells) where
  pub empty_where : (p : ℕ) → mark_at words p ≡ 0 → cell cells p ≡ None
  empty_where p is = no_mark (cell cells p) (sym (are.each p) ∙ is)

  pub within_where : (p : ℕ) → mark_at words p ≡ 1 → p < length cells
  within_where p is = elim (cases_lt p (length cells)) [
    | inl within ↦ within
    | inr past ↦ absurd (let none : mark_of (cell cells p) ≡ 0 = ap mark_of (get_or_past cells p None past) in omega (arith, none, is, are.each p))
  ]

  pub few_words : (depth slots : ℕ) → length cells ≡ depth * slots → depth ≤ 4 → slots ≤ 65536 → length words * 64 < 2 ^ 32
  few_words depth slots long deep wide = omega (arith, are.level, div_ceil_times (length cells) 64 (omega arith), long, mul-le depth slots 4 65536 deep wide)

  -- a cell that isn't marked is empty, and one that is marked isn't
  pub empty_unmarked : (p : ℕ) → nat_eq (mark_at words p) 1 ≡ false → is_none (cell cells p) ≡ true
  empty_unmarked p isnt = by_cell (cell cells p) refl
    where
      by_cell : (o : Option X) → cell cells p ≡ o → is_none o ≡ true
      by_cell None at = refl
      by_cell (Some x) at = absurd (true≢false (sym (ap (λ n. nat_eq n 1) (are.each p ∙ ap mark_of at)) ∙ isnt))

  pub held_marked : (p : ℕ) → nat_eq (mark_at words p) 1 ≡ true → is_none (cell cells p) ≡ false
  held_marked p is = by_cell (cell cells p) refl
    where
      by_cell : (o : Option X) → cell cells p ≡ o → is_none o ≡ false
      by_cell (Some x) at = refl
      by_cell None at = absurd (false≢true (sym (ap (λ n. nat_eq n 1) (are.each p ∙ ap mark_of at)) ∙ is))
