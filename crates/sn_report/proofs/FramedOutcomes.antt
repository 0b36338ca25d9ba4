-- Something stands at the front of all numbers, bytes or not.
use Rattle.std.proofs.Common.{◌≡◌, ℕ, zero, suc, ◌+◌, ◌/◌, ◌%◌, ◌^◌, ◌<◌, ◌≤◌, true, false, List, [], ◌∷◌, ◌++◌, length, get_or, take, ap, sym, ◌∙◌, subst, arith, inl, inr}
use Rattle.std.specs.Prelude.{◌⊎◌}
use Rattle.std.specs.Int.{w64, w128, to_be_bytes}
use Rattle.std.proofs.lemmas.Bool.{cases_lt}
use Rattle.std.proofs.lemmas.List.{length-take, take-take, take_all, get_or-take, get_or_append_left}
use Rattle.sn_base.proofs.Lists.{by_test}
use Rattle.sn_base.specs.declared.lane.Lane.{Lane}
use Rattle.sn_report.specs.declared.decode.Decoded.{Decoded}
use Rattle.sn_report.specs.declared.decode.Decoded.TheVariants.{Whole, More, Bad}
use Rattle.sn_report.specs.Items.{Frame}
use Rattle.sn_report.specs.declared.frame.Frame.TheVariants.{Row, End}
use Rattle.sn_report.specs.declared.frame.Tag.{Tag}
use Rattle.sn_report.specs.declared.frame.Tag.TheVariants.{At, Partial}
use Rattle.sn_report.specs.Decoding.{IsFront, IsProperFront, Stands}
use Rattle.sn_report.specs.Frames.{IsFrame, Spells, column_bytes, spelling}
use Rattle.sn_report.specs.Reading.{AllMayStand, frame_in, frame_length, may_stand}
use Rattle.sn_report.proofs.Columns.{AreBytes, bytes_before, bytes_joined, upper_first, wide_bytes, word_bytes}
use Rattle.sn_report.proofs.Frames.{whole_again}
use Rattle.sn_report.proofs.Headers.{bad_front, front_good, goes_on}

pub record HasOutcome (bytes : List ℕ) : Type 0 where
  pub outcome : Decoded
  pub stands : Stands bytes outcome

-- ---- of bytes

-- the first of this many places whose byte may not stand there
record IsFirstBad (bytes : List ℕ) (place : ℕ) : Type 0 where
  within : place < length bytes
  bad : may_stand bytes place ≡ false
  good : AllMayStand bytes place

abbrev AllGood : List ℕ → ℕ → Type 0
AllGood bytes count = (place : ℕ) → place < count → place < length bytes → may_stand bytes place ≡ true

abbrev Looked : List ℕ → ℕ → Type 0
Looked bytes count = ((place : ℕ) × (place < count) × IsFirstBad bytes place) ⊎ AllGood bytes count

good_then : (bytes : List ℕ) (n : ℕ) → AllGood bytes n → may_stand bytes n ≡ true → AllGood bytes (suc n)
good_then bytes n good here place lt within =
    elim (cases_lt place n) [
      | inl before ↦ good place before within
      | inr past ↦ (let same : n ≡ place = omega arith in subst (λ p. may_stand bytes p ≡ true) same here)
    ]

looked_next : (bytes : List ℕ) (n : ℕ) → AllGood bytes n → Looked bytes (suc n)
looked_next bytes n good =
    elim (cases_lt n (length bytes)) [
      | inl within ↦ by_test (may_stand bytes n)
          (λ is. inr (good_then bytes n good is))
          (λ isnt. inl (n, omega arith, record { within = within; bad = isnt; good = λ place lt. good place lt (omega arith) }))
      | inr past ↦ inr (λ place lt within. good place (omega arith) within)
    ]

looked : (bytes : List ℕ) (count : ℕ) → Looked bytes count
looked bytes zero = inr (λ place lt within. absurd (omega arith))
looked bytes (suc n) =
    elim (looked bytes n) [
      | inl found ↦ inl (found.0, (let lt = found.1 in omega arith), found.2)
      | inr good ↦ looked_next bytes n good
    ]

bad_outcome : (bytes : List ℕ) → AreBytes bytes → (place : ℕ) → place < 8 → IsFirstBad bytes place → HasOutcome bytes
bad_outcome bytes fits place few f = record {
  outcome = Bad place;
  stands = (f.within, goes_on (take place bytes) (bytes_before place bytes fits) (front_good bytes place f.good) (inl (omega (arith, few, length-take place bytes))), bad_front bytes place few f.within f.bad);
}

good_outcome : (bytes : List ℕ) → AreBytes bytes → AllGood bytes 8 → HasOutcome bytes
good_outcome bytes fits good =
    elim (cases_lt (length bytes) 8) [
      | inl few ↦ record { outcome = More; stands = goes_on bytes fits good (inl few) }
      | inr front ↦ elim (cases_lt (length bytes) (frame_length bytes)) [
        | inl fewer ↦ record { outcome = More; stands = goes_on bytes fits good (inr fewer) }
        | inr whole ↦ record { outcome = Whole (frame_in bytes) (frame_length bytes); stands = (whole, get_or bytes 0 0, whole_again bytes fits (λ place lt. good place lt (omega arith)) whole) }
      ]
    ]

byte_outcome : (bytes : List ℕ) → AreBytes bytes → HasOutcome bytes
byte_outcome bytes fits =
    elim (looked bytes 8) [
      | inl found ↦ bad_outcome bytes fits found.0 found.1 found.2
      | inr good ↦ good_outcome bytes fits good
    ]

-- ---- of any numbers

-- the bytes before the first number that is none
record HasBytesFront (numbers : List ℕ) : Type 0 where
  count : ℕ
  within : count ≤ length numbers
  fits : AreBytes (take count numbers)
  next : count < length numbers → 256 ≤ get_or numbers count 0

one_more : (x n : ℕ) (xs : List ℕ) → x < 256 → AreBytes (take n xs) → AreBytes (x ∷ take n xs)
one_more x n xs lt fits zero = lt
one_more x n xs lt fits (suc i) = fits i

no_bytes : (i : ℕ) → get_or {A = ℕ} [] i 0 < 256
no_bytes i = omega arith

bytes_front : (numbers : List ℕ) → HasBytesFront numbers
bytes_front [] = record { count = 0; within = omega arith; fits = no_bytes; next = λ lt. absurd (omega arith) }
bytes_front (x ∷ xs) =
    elim (cases_lt x 256) [
      | inl lt ↦ (let f = bytes_front xs in record { count = suc f.count; within = (let le = f.within in omega arith); fits = one_more x f.count xs lt f.fits; next = λ lt. f.next (omega arith) })
      | inr le ↦ record { count = 0; within = omega arith; fits = no_bytes; next = λ lt. le }
    ]

column_fits : (n : ℕ) → AreBytes (to_be_bytes w64 n)
column_fits n zero = omega arith
column_fits n (suc zero) = omega arith
column_fits n (suc (suc zero)) = omega arith
column_fits n (suc (suc (suc zero))) = omega arith
column_fits n (suc (suc (suc (suc zero)))) = omega arith
column_fits n (suc (suc (suc (suc (suc zero))))) = omega arith
column_fits n (suc (suc (suc (suc (suc (suc zero)))))) = omega arith
column_fits n (suc (suc (suc (suc (suc (suc (suc zero))))))) = omega arith
column_fits n (suc (suc (suc (suc (suc (suc (suc (suc i)))))))) = omega arith

words_fit : (columns : List ℕ) → AreBytes (word_bytes columns)
words_fit [] = no_bytes
words_fit (c ∷ columns) = bytes_joined (to_be_bytes w64 c) (word_bytes columns) (column_fits c) (words_fit columns)

wide_fits : (n : ℕ) → AreBytes (to_be_bytes w128 n)
wide_fits n =
    subst AreBytes (sym (upper_first n)) (bytes_joined (to_be_bytes w64 (n / 2 ^ 64)) (to_be_bytes w64 (n % 2 ^ 64)) (column_fits (n / 2 ^ 64)) (column_fits (n % 2 ^ 64)))

wides_fit : (columns : List ℕ) → AreBytes (wide_bytes columns)
wides_fit [] = no_bytes
wides_fit (c ∷ columns) = bytes_joined (to_be_bytes w128 c) (wide_bytes columns) (wide_fits c) (wides_fit columns)

columns_fit : (version : ℕ) (columns : List ℕ) → 1 ≤ version → version ≤ 2 → AreBytes (column_bytes version columns)
columns_fit zero columns some most = absurd (omega (arith, some))
columns_fit (suc zero) columns some most = words_fit columns
columns_fit (suc (suc zero)) columns some most = wides_fit columns
columns_fit (suc (suc (suc n))) columns some most = absurd (omega (arith, most))

eight_fit : (a b c d e f g : ℕ) (rest : List ℕ) → a < 256 → b < 256 → c < 256 → d < 256 → e < 256 → f < 256 → g < 256 → AreBytes rest → AreBytes (a ∷ b ∷ c ∷ d ∷ e ∷ f ∷ g ∷ 0 ∷ rest)
eight_fit a b c d e f g rest ka kb kc kd ke kf kg h zero = ka
eight_fit a b c d e f g rest ka kb kc kd ke kf kg h (suc zero) = kb
eight_fit a b c d e f g rest ka kb kc kd ke kf kg h (suc (suc zero)) = kc
eight_fit a b c d e f g rest ka kb kc kd ke kf kg h (suc (suc (suc zero))) = kd
eight_fit a b c d e f g rest ka kb kc kd ke kf kg h (suc (suc (suc (suc zero)))) = ke
eight_fit a b c d e f g rest ka kb kc kd ke kf kg h (suc (suc (suc (suc (suc zero))))) = kf
eight_fit a b c d e f g rest ka kb kc kd ke kf kg h (suc (suc (suc (suc (suc (suc zero)))))) = kg
eight_fit a b c d e f g rest ka kb kc kd ke kf kg h (suc (suc (suc (suc (suc (suc (suc zero))))))) = omega arith
eight_fit a b c d e f g rest ka kb kc kd ke kf kg h (suc (suc (suc (suc (suc (suc (suc (suc i)))))))) = h i

row_fits : (version : ℕ) (lane : Lane) (tag : Tag) (row : List ℕ) → IsFrame version (Row lane (record { tag = tag; row = row })) → AreBytes (spelling version (Row lane (record { tag = tag; row = row })))
row_fits version lane (At i) row h =
    let q = h.query in let l = h.level in let b = h.branch in let o = h.operator in let few = h.content.0 in let most = h.most_version in
    eight_fit version 0 lane.query lane.level lane.branch i (length row) (column_bytes version row)
    (omega (arith, most)) (omega arith) (omega (arith, q)) (omega (arith, l)) (omega (arith, b)) (omega (arith, o)) (omega (arith, few)) (columns_fit version row h.some_version most)
row_fits version lane (Partial i) row h =
    let q = h.query in let l = h.level in let b = h.branch in let o = h.operator in let few = h.content.0 in let most = h.most_version in
    eight_fit version 1 lane.query lane.level lane.branch i (length row) (column_bytes version row)
    (omega (arith, most)) (omega arith) (omega (arith, q)) (omega (arith, l)) (omega (arith, b)) (omega (arith, o)) (omega (arith, few)) (columns_fit version row h.some_version most)

-- a frame's numbers are bytes
frame_fits : (version : ℕ) (frame : Frame) → IsFrame version frame → AreBytes (spelling version frame)
frame_fits version (Row lane item) h = row_fits version lane item.tag item.row h
frame_fits version (End lane window) h =
    let q = h.query in let l = h.level in let b = h.branch in let most = h.most_version in
    eight_fit version 2 lane.query lane.level lane.branch 0 1 (to_be_bytes w64 window)
    (omega (arith, most)) (omega arith) (omega (arith, q)) (omega (arith, l)) (omega (arith, b)) (omega arith) (omega arith) (column_fits window)

-- no frame has a number that is no byte
none_past : (numbers : List ℕ) (n : ℕ) → n < length numbers → 256 ≤ get_or numbers n 0 → IsFront (take (n + 1) numbers) → ⊥
none_past numbers n within large (version, frame, rest, spells) =
    let there : get_or (take (n + 1) numbers ++ rest) n 0 ≡ get_or numbers n 0 =
    get_or_append_left (take (n + 1) numbers) rest 0 n (omega (arith, length-take (n + 1) numbers)) ∙ get_or-take (n + 1) numbers n 0 (omega arith) in
    let same : get_or (spelling version frame) n 0 ≡ get_or numbers n 0 = sym (ap (λ xs. get_or xs n 0) spells.spelled) ∙ there in
    let fits = frame_fits version frame spells.in_range n in
    omega (arith, same, fits, large)

-- what stands at the front of the first bytes stands at that of all numbers
front_outcome : (numbers : List ℕ) (n : ℕ) → n < length numbers → 256 ≤ get_or numbers n 0 → (d : Decoded) → Stands (take n numbers) d → HasOutcome numbers
front_outcome numbers n within large (Whole frame len) h =
    let long : len ≤ n = (let le = h.0 in omega (arith, le, length-take n numbers)) in
    record { outcome = Whole frame len; stands = (omega arith, h.1, subst (λ xs. Spells xs h.1 frame) (take-take len n numbers long) h.2) }
front_outcome numbers n within large More h = record { outcome = Bad n; stands = (within, h, none_past numbers n within large) }
front_outcome numbers n within large (Bad k) h =
    let lt : k < n = (let le = h.0 in omega (arith, le, length-take n numbers)) in
    record {
      outcome = Bad k;
      stands = (omega arith, subst IsProperFront (take-take k n numbers (omega arith)) h.1, λ front. h.2 (subst IsFront (sym (take-take (k + 1) n numbers (omega arith))) front));
    }

pub some_outcome : (numbers : List ℕ) → HasOutcome numbers
some_outcome numbers =
    let f = bytes_front numbers in
    elim (cases_lt f.count (length numbers)) [
      | inl within ↦ (let here = byte_outcome (take f.count numbers) f.fits in front_outcome numbers f.count within (f.next within) here.outcome here.stands)
      | inr all ↦ byte_outcome numbers (subst AreBytes (take_all f.count numbers all) f.fits)
    ]
