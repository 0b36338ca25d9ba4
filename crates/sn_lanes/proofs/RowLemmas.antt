-- Rows whose hashes stand in lanes.
use Rattle.std.proofs.Common.{◌≡◌, ℕ, zero, suc, ◌+◌, ◌-◌, ◌^◌, ◌<◌, ◌≤◌, List, [], ◌∷◌, ◌++◌, length, map, fold, take, Bool, true, false, cond, min, bit_xor, replicate, get_or, nat_lt, refl, ap, sym, ◌∙◌, ◌&&◌, arith}
use Rattle.std.specs.Simd.Lanes.{zip2, sel_l, top}
use Rattle.std.specs.Int.{w64, w128, to_le_bytes}
use Rattle.std.specs.List.{AllByRecursion, list_all}
use Rattle.std.proofs.lemmas.Simd.{zip2_splat_left, splat_is_map, tops_compared}
use Rattle.std.proofs.lemmas.List.{take_more, take_all, append-nil}
use Rattle.std.proofs.lemmas.List.Folds.{list_all-append}
use Rattle.std.proofs.lemmas.List.Sums.{fold-append}
use Rattle.std.proofs.lemmas.Bool.{lt-ltb, le-ltb, ltb-true, ltb-false}
use Rattle.std.proofs.lemmas.Grind.{flat_map-append}
use mir.Val.{bits, hbits}
use Rattle.sn_base.specs.Slot.{column_bytes, fnv_step, row_bytes, row_hash}
use Rattle.sn_base.proofs.Lists.{by_test, and_parts}
use Rattle.sn_lanes.specs.Words.{is_word, are_words}

-- ---- whether all columns are below 2^64

pub words_next : (row : List ℕ) (place n : ℕ) → place < length row → n ≡ get_or row place 0 → n < 2 ^ 64 → are_words (take place row) ≡ true → are_words (take (place + 1) row) ≡ true
words_next row place n within is small so_far =
    ap are_words (take_more row place 0 within)
    ∙ list_all-append is_word (take place row) (get_or row place 0 ∷ [])
    ∙ ap (λ b. b && are_words (get_or row place 0 ∷ [])) so_far
    ∙ ap (λ m. is_word m && true) (sym is)
    ∙ ap (λ b. b && true) (below n small)
  where
    below : (n : ℕ) → n < 2 ^ 64 → is_word n ≡ true
    below n small = lt-ltb n (2 ^ 64) small

pub not_words : (row : List ℕ) (place n : ℕ) → place < length row → n ≡ get_or row place 0 → 2 ^ 64 ≤ n → are_words row ≡ false
not_words [] place n within is large = absurd (omega arith)
not_words (x ∷ row) zero n within is large = ap (λ b. b && are_words row) (ap is_word (sym is) ∙ le-ltb n (2 ^ 64) large)
not_words (x ∷ row) (suc place) n within is large = ap (λ b. is_word x && b) (not_words row place n (omega arith) is large) ∙ and_false (is_word x)
  where
    and_false : (b : Bool) → (b && false) ≡ false
    and_false true = refl
    and_false false = refl

word_at : (row : List ℕ) (place : ℕ) → are_words row ≡ true → place < length row → is_word (get_or row place 0) ≡ true
word_at [] place all within = absurd (omega arith)
word_at (x ∷ row) zero all within = (and_parts (is_word x) (are_words row) all).0
word_at (x ∷ row) (suc place) all within = word_at row place (and_parts (is_word x) (are_words row) all).1 (omega arith)

-- ---- one column more

-- a row's hash up to a column
abbrev pub hash_to : ℕ → ℕ → List ℕ → ℕ
hash_to index place row = row_hash index (take place row)

abbrev pub mixed : ℕ → ℕ → ℕ
mixed h x = fold fnv_step h (to_le_bytes w64 x)

-- a column in 64 bits
abbrev pub cell_at : ℕ → List ℕ → ℕ
cell_at place row = min (get_or row place 0) (2 ^ 64 - 1)

-- 64 bits hold such a column
held : (n : ℕ) → is_word n ≡ true → to_le_bytes w64 (min n (2 ^ 64 - 1)) ≡ column_bytes n
held n word =
    let small : n < 2 ^ 64 = ltb-true n (2 ^ 64) word in
    let e : min n (2 ^ 64 - 1) ≡ n = omega (arith, small) in
    ap (to_le_bytes w64) e ∙ sym (ap (λ b. cond b (to_le_bytes w64 n) (to_le_bytes w128 n)) word)

longer : (a b : ℕ) → b ≤ a → b ≤ a + 1
longer a b h = omega arith

hash_more : (index place : ℕ) (row : List ℕ) → are_words row ≡ true → cond (nat_lt place (length row)) (mixed (hash_to index place row) (cell_at place row)) (hash_to index place row) ≡ hash_to index (place + 1) row
hash_more index place row narrow =
    by_test (nat_lt place (length row))
    (λ is. let within : place < length row = ltb-true place (length row) is in
    let own = get_or row place 0 in
    let seed = bit_xor 14695981039346656037 index in
    ap (λ b. cond b (mixed (hash_to index place row) (cell_at place row)) (hash_to index place row)) is
    ∙ ap (fold fnv_step (hash_to index place row)) (held own (word_at row place narrow within))
    ∙ sym (ap (row_hash index) (take_more row place 0 within)
    ∙ ap (fold fnv_step seed) (flat_map-append column_bytes (take place row) (own ∷ []))
    ∙ fold-append fnv_step seed (row_bytes (take place row)) (column_bytes own ++ [])
    ∙ ap (fold fnv_step (hash_to index place row)) (append-nil (column_bytes own))))
    (λ isnt. let past = ltb-false place (length row) isnt in
    ap (λ b. cond b (mixed (hash_to index place row) (cell_at place row)) (hash_to index place row)) isnt
    ∙ ap (row_hash index) (take_all place row past ∙ sym (take_all (place + 1) row (longer place (length row) past))))

module _ {R : Type 0} (columns : R → List ℕ) where
  abbrev pub AllWords : List R → Type 0
  AllWords keys = list_all (λ key. are_words (columns key)) keys ≡ true

  -- one column more of each row that has it
  place_step : (index place : ℕ) (keys : List R) → AllWords keys →
      sel_l (map (λ n. nat_lt place n) (map (λ key. length (columns key)) keys)) (zip2 mixed (map (λ key. hash_to index place (columns key)) keys) (map (λ key. cell_at place (columns key)) keys)) (map (λ key. hash_to index place (columns key)) keys)
      ≡ map (λ key. hash_to index (place + 1) (columns key)) keys
  place_step index place [] narrow = refl
  place_step index place (key ∷ keys) narrow =
      let both = and_parts (are_words (columns key)) (list_all (λ k. are_words (columns k)) keys) narrow in
      ap (λ h. h ∷ sel_l (map (λ n. nat_lt place n) (map (λ k. length (columns k)) keys)) (zip2 mixed (map (λ k. hash_to index place (columns k)) keys) (map (λ k. cell_at place (columns k)) keys)) (map (λ k. hash_to index place (columns k)) keys)) (hash_more index place (columns key) both.0)
      ∙ ap (λ hs. hash_to index (place + 1) (columns key) ∷ hs) (place_step index place keys both.1)

  pub place_turn : (index place : ℕ) (keys : List R) (lengths column hash : List ℕ) → AllWords keys → lengths ≡ map (λ key. length (columns key)) keys → column ≡ map (λ key. cell_at place (columns key)) keys → hash ≡ map (λ key. hash_to index place (columns key)) keys →
      sel_l {A = ℕ} (map (λ n. nat_lt place n) lengths) (zip2 mixed hash column) hash ≡ map (λ key. hash_to index (place + 1) (columns key)) keys
  place_turn index place keys lengths column hash narrow a b c =
      ap (λ ns. sel_l {A = ℕ} (map (λ n. nat_lt place n) ns) (zip2 mixed hash column) hash) a
      ∙ ap (λ xs. sel_l {A = ℕ} (map (λ n. nat_lt place n) (map (λ key. length (columns key)) keys)) (zip2 mixed hash xs) hash) b
      ∙ ap (λ hs. sel_l {A = ℕ} (map (λ n. nat_lt place n) (map (λ key. length (columns key)) keys)) (zip2 mixed hs (map (λ key. cell_at place (columns key)) keys)) hs) c
      ∙ place_step index place keys narrow

  -- at the start each row has the register's number
  pub place_start : (index : ℕ) (keys : List R) (n : ℕ) → length keys ≡ n → replicate n (bit_xor 14695981039346656037 index) ≡ map (λ key. hash_to index 0 (columns key)) keys
  place_start index keys n e = splat_is_map keys n (bit_xor 14695981039346656037 index) e

  -- at the end, where no row is longer, each has its whole hash
  pub place_end : (index place : ℕ) (keys : List R) → AllByRecursion (λ n. n ≤ place) (map (λ key. length (columns key)) keys) → map (λ key. hash_to index place (columns key)) keys ≡ map (λ key. row_hash index (columns key)) keys
  place_end index place [] h = refl
  place_end index place (key ∷ keys) h =
      ap (λ n. n ∷ map (λ k. hash_to index place (columns k)) keys) (ap (row_hash index) (take_all place (columns key) h.0))
      ∙ ap (λ hs. row_hash index (columns key) ∷ hs) (place_end index place keys h.1)

-- each lane that has the place takes the new value
pub picked_is : (place : ℕ) (lengths new old : List ℕ) → length lengths ≡ 8 →
    sel_l {A = ℕ} (map (top (hbits w64)) (zip2 (λ a b. cond (nat_lt a b) (2 ^ bits w64 - 1) 0) (replicate 8 place) lengths)) new old ≡ sel_l {A = ℕ} (map (λ n. nat_lt place n) lengths) new old
picked_is place lengths new old eight = ap (λ ms. sel_l {A = ℕ} ms new old) (tops_compared w64 nat_lt (replicate 8 place) lengths ∙ zip2_splat_left nat_lt place 8 lengths eight)
