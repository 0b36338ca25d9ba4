-- Marks as bits.
use Rattle.std.proofs.Common.{◌≡◌, ◌≢◌, ℕ, zero, suc, set, ◌+◌, ◌*◌, ◌/◌, ◌%◌, ◌^◌, ◌≤◌, ◌<◌, List, ◌∷◌, ◌++◌, map, take, drop, replicate, length, get_or, Bool, true, false, if◌then◌else◌, nat_eq, refl, ap, sym, ◌∙◌, arith}
use mir.Val.{bool_byte}
use Rattle.std.specs.Prelude.{bit_and, bit_or}
use Rattle.std.specs.List.{range_with_len}
use Rattle.std.specs.Int.{bit_at, w64}
use Rattle.std.specs.Int.Bits.{or_zero_r}
use Rattle.std.proofs.lemmas.Nat.Bits.{bit_at-zero, bit_at_set_same, bit_at_set_other, shr_and_one}
use Rattle.std.proofs.lemmas.List.{append-nil, drop_all, set-get_or, get_or_default, get_or-set_same, get_or-set_other, length-append, length-drop, length-replicate, take_all}
use Rattle.std.proofs.lemmas.List.FromFn.{get_or-map-range_with_len, length-map-range_with_len}
use Rattle.std.proofs.lemmas.Bool.{false≢true}
use Rattle.sn_base.proofs.Lists.{by_test, nat_same, nat_self}
use Rattle.sn_cost_tally.specs.Marks.{mark_at, marks_of}

-- ---- no mark is set

free_range : (f : ℕ → Bool) (a n : ℕ) → ((p : ℕ) → p < a + n → f p ≡ false) → map f (range_with_len a n) ≡ replicate n false
free_range f a zero h = refl
free_range f a (suc n) h = ap (λ b. b ∷ map f (range_with_len (a + 1) n)) (h a (omega arith)) ∙ ap (λ bs. false ∷ bs) (free_range f (a + 1) n (λ p lt. h p (omega (arith, lt))))

-- where the first words are 0, the marks in them aren't set
pub none_set : (count n : ℕ) (words : List ℕ) → count ≤ 64 * n → ((i : ℕ) → i < n → get_or words i 0 ≡ 0) → marks_of count words ≡ replicate count false
none_set count n words le zeros =
    free_range (mark_at words) 0 count
    (λ p lt. ap (λ w. nat_eq (bit_at w (p % 64)) 1) (zeros (p / 64) (omega (arith, lt, le))) ∙ ap (λ b. nat_eq b 1) (bit_at-zero (p % 64)))

pub zero_there : (n i : ℕ) → get_or {A = ℕ} (replicate n 0) i 0 ≡ 0
zero_there zero i = refl
zero_there (suc n) zero = refl
zero_there (suc n) (suc i) = zero_there n i

-- ---- one more is set

abbrev with_bit : List ℕ → ℕ → List ℕ
with_bit words p = set words (p / 64) (bit_or (get_or words (p / 64) 0) (1 * 2 ^ (p % 64) % 2 ^ 64))

set_here : (words : List ℕ) (p : ℕ) → p < 64 * length words → mark_at (with_bit words p) p ≡ true
set_here words p lt =
    let w : ℕ = get_or words (p / 64) 0 in
    ap (λ x. nat_eq (bit_at x (p % 64)) 1) (get_or-set_same words (p / 64) (bit_or w (1 * 2 ^ (p % 64) % 2 ^ 64)) 0 (omega (arith, lt)))
    ∙ ap (λ b. nat_eq b 1) (bit_at_set_same w64 w (p % 64) (omega arith))

set_elsewhere : (words : List ℕ) (p q : ℕ) → p < 64 * length words → q ≢ p → mark_at (with_bit words p) q ≡ mark_at words q
set_elsewhere words p q lt other =
    let w : ℕ = get_or words (p / 64) 0 in
    by_test (nat_eq (q / 64) (p / 64))
    (λ is.
    let e : q / 64 ≡ p / 64 = nat_same (q / 64) (p / 64) is in
    ap (λ n. nat_eq (bit_at (get_or (with_bit words p) n 0) (q % 64)) 1) e
    ∙ ap (λ x. nat_eq (bit_at x (q % 64)) 1) (get_or-set_same words (p / 64) (bit_or w (1 * 2 ^ (p % 64) % 2 ^ 64)) 0 (omega (arith, lt)))
    ∙ ap (λ b. nat_eq b 1) (bit_at_set_other w64 w (p % 64) (omega arith) (q % 64) (λ same. other (omega (arith, e, same))))
    ∙ ap (λ n. nat_eq (bit_at (get_or words n 0) (q % 64)) 1) (sym e))
    (λ isnt. ap (λ x. nat_eq (bit_at x (q % 64)) 1) (get_or-set_other words (p / 64) (q / 64) (bit_or w (1 * 2 ^ (p % 64) % 2 ^ 64)) 0 (λ e. false≢true (sym isnt ∙ ap (nat_eq (q / 64)) (sym e) ∙ nat_self (q / 64)))))

set_range : (f g : ℕ → Bool) (a n i : ℕ) → i < n → g (a + i) ≡ true → ((q : ℕ) → q ≢ a + i → g q ≡ f q) → map g (range_with_len a n) ≡ set (map f (range_with_len a n)) i true
set_range f g a zero i lt here there = absurd (omega (arith, lt))
set_range f g a (suc n) zero lt here there =
    let e : a + 0 ≡ a = omega arith in
    ap (λ b. b ∷ map g (range_with_len (a + 1) n)) (ap g (sym e) ∙ here)
    ∙ ap (λ bs. true ∷ bs) (same_range (a + 1) n (λ q le. there q (λ is. absurd (omega (arith, is, le)))))
  where
    same_range : (b m : ℕ) → ((q : ℕ) → b ≤ q → g q ≡ f q) → map g (range_with_len b m) ≡ map f (range_with_len b m)
    same_range b zero h = refl
    same_range b (suc m) h = ap (λ x. x ∷ map g (range_with_len (b + 1) m)) (h b (omega arith)) ∙ ap (λ xs. f b ∷ xs) (same_range (b + 1) m (λ q le. h q (omega (arith, le))))
set_range f g a (suc n) (suc i) lt here there =
    let e : a + suc i ≡ a + 1 + i = omega arith in
    ap (λ b. b ∷ map g (range_with_len (a + 1) n)) (there a (λ is. absurd (omega (arith, is))))
    ∙ ap (λ bs. f a ∷ bs) (set_range f g (a + 1) n i (omega (arith, lt)) (ap g (sym e) ∙ here) (λ q other. there q (λ is. other (is ∙ e))))

pub one_set : (count : ℕ) (words : List ℕ) (p : ℕ) → p < count → count ≤ 64 * length words → marks_of count (with_bit words p) ≡ set (marks_of count words) p true
one_set count words p lt le =
    let within : p < 64 * length words = omega (arith, lt, le) in
    set_range (mark_at words) (mark_at (with_bit words p)) 0 count p lt
    (ap (mark_at (with_bit words p)) first ∙ set_here words p within) (λ q other. set_elsewhere words p q within (λ is. other (is ∙ sym first)))
  where
    first : 0 + p ≡ p
    first = omega arith

-- ---- the list of marks

pub marks_long : (count : ℕ) (words : List ℕ) → length (marks_of count words) ≡ count
marks_long count words = length-map-range_with_len (mark_at words) 0 count

pub mark_there : (count : ℕ) (words : List ℕ) (p : ℕ) → p < count → get_or (marks_of count words) p false ≡ mark_at words p
mark_there count words p lt = get_or-map-range_with_len (mark_at words) 0 count p p false lt (omega arith)

-- the mark of a place is that of its list
pub mark_seen : (count : ℕ) (words : List ℕ) (marks : List Bool) (p w : ℕ) → marks_of count words ≡ marks → p < length marks → p / 64 < length words → w ≡ get_or words (p / 64) w → nat_eq (bit_and (w / 2 ^ (p % 64)) 1) 1 ≡ get_or marks p false
mark_seen count words marks p w seen lt word is =
    ap (λ b. nat_eq b 1) (shr_and_one w (p % 64)) ∙ ap (λ x. nat_eq (bit_at x (p % 64)) 1) (is ∙ get_or_default words (p / 64) w 0 word) ∙ sym (mark_there count words p (omega (arith, lt, marks_long count words, ap length seen))) ∙ ap (λ ms. get_or ms p false) seen

pub word_there : (count : ℕ) (words : List ℕ) (marks : List Bool) (p : ℕ) → count ≤ 64 * length words → marks_of count words ≡ marks → p < length marks → p / 64 < length words
word_there count words marks p le seen lt = omega (arith, le, lt, marks_long count words, ap length seen)

pub mark_set : (count : ℕ) (words : List ℕ) (marks : List Bool) (p w : ℕ) → count ≤ 64 * length words → marks_of count words ≡ marks → p < length marks → w ≡ get_or words (p / 64) w
    → marks_of count (set words (p / 64) (bit_or w (1 * 2 ^ (p % 64) % 2 ^ 64))) ≡ set marks p true
mark_set count words marks p w le seen lt is =
    ap (λ x. marks_of count (set words (p / 64) (bit_or x (1 * 2 ^ (p % 64) % 2 ^ 64)))) (is ∙ get_or_default words (p / 64) w 0 (word_there count words marks p le seen lt))
    ∙ one_set count words p (omega (arith, lt, marks_long count words, ap length seen)) le
    ∙ ap (λ ms. set ms p true) seen

-- where no place is looked for a word stays as it was
pub none_looked_for : (words : List ℕ) (p w : ℕ) → w ≡ get_or words (p / 64) w → set words (p / 64) (bit_or w (0 * 2 ^ (p % 64) % 2 ^ 64)) ≡ words
none_looked_for words p w is = let none : 0 * 2 ^ (p % 64) % 2 ^ 64 ≡ 0 = omega arith in ap (λ n. set words (p / 64) (bit_or w n)) none ∙ ap (set words (p / 64)) (or_zero_r w ∙ is) ∙ set-get_or words (p / 64) w

-- the marks after a place, if one is looked for
pub mark_looked : (count : ℕ) (words : List ℕ) (marks : List Bool) (p w : ℕ) (looking : Bool) (n : ℕ) → n ≡ bool_byte looking → count ≤ 64 * length words → marks_of count words ≡ marks → p < length marks → w ≡ get_or words (p / 64) w
    → marks_of count (set words (p / 64) (bit_or w (n * 2 ^ (p % 64) % 2 ^ 64))) ≡ (if looking then set marks p true else marks)
mark_looked count words marks p w looking n byte le seen lt is = ap (λ m. marks_of count (set words (p / 64) (bit_or w (m * 2 ^ (p % 64) % 2 ^ 64)))) byte ∙ by_looking looking
  where
    by_looking : (looking : Bool) → marks_of count (set words (p / 64) (bit_or w (bool_byte looking * 2 ^ (p % 64) % 2 ^ 64))) ≡ (if looking then set marks p true else marks)
    by_looking true = mark_set count words marks p w le seen lt is
    by_looking false = ap (marks_of count) (none_looked_for words p w is) ∙ seen

pub zeros_front : (n i : ℕ) (rest : List ℕ) → i < n → get_or (replicate n 0 ++ rest) i 0 ≡ 0
zeros_front zero i rest lt = absurd (omega (arith, lt))
zeros_front (suc n) zero rest lt = refl
zeros_front (suc n) (suc i) rest lt = zeros_front n i rest (omega (arith, lt))

-- words whose front is erased, as they are written back
pub front_erased : (n len i : ℕ) (old new : List ℕ) → n ≤ length old → len ≡ length old → new ≡ replicate n 0 ++ drop n old → i < n → get_or (take len (new ++ drop (length new) old)) i 0 ≡ 0
front_erased n len i old new le is erased lt =
    let long : length new ≡ length old = omega (arith, ap length erased, length-append (replicate n 0) (drop n old), length-replicate {A = ℕ} n 0, length-drop n old, le) in
    ap (λ ws. get_or (take len (new ++ ws)) i 0) (drop_all (length new) old (omega (arith, long)))
    ∙ ap (λ ws. get_or (take len ws) i 0) (append-nil new)
    ∙ ap (λ ws. get_or ws i 0) (take_all len new (omega (arith, long, is)))
    ∙ ap (λ ws. get_or ws i 0) erased ∙ zeros_front n i (drop n old) lt
