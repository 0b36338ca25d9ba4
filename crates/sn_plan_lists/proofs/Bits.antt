-- The numbers of paths, fronts and options, as loops find them.
use Rattle.std.proofs.Common.{◌≡◌, ℕ, suc, ◌+◌, ◌-◌, ◌*◌, ◌^◌, ◌<◌, ◌≤◌, List, [], ◌∷◌, take, drop, length, Bool, true, false, not, refl, ap, sym, ◌∙◌, arith, add-one}
use Rattle.std.specs.Prelude.{slice_index, cond, if◌then◌else◌}
use Rattle.std.specs.List.{position_or_len}
use Rattle.std.proofs.Math.Pow.{pow_mono}
use Rattle.std.proofs.Math.Seq.{drop-cons}
use Rattle.std.proofs.lemmas.Option.{unwrap_or-slice_get}
use Rattle.sn_plan_fit.specs.Paths.{is_among}
use Rattle.sn_switch.specs.declared.switch.Switch.{Switch}
use Rattle.sn_types.specs.declared.typed_query.TypedBranch.{TypedBranch}
use Rattle.sn_plan_choices.specs.declared.setting.Setting as code
use Rattle.sn_plan_choices.specs.Settings.{written}
use Rattle.sn_plan_choices.specs.Options.{Setting, options, option_at}
use Rattle.sn_plan_lists.specs.Numbers.{path_number, is_setting, option_number}
use Rattle.sn_plan_lists.specs.Costs.{bits_of}
use Rattle.sn_plan_lists.proofs.Seats.{next_power}
use Rattle.sn_plan_lists.proofs.NamedPieces.{drop_next, left_after, sizes_back}

abbrev bit_if : Bool → ℕ
bit_if b = if b then 1 else 0

-- one more bit, with those so far
more_bits : (b : Bool) (sum bit sum' rest : ℕ) → sum' ≡ sum + bit * bit_if b → sum' + bit * 2 * rest ≡ sum + bit * (bit_if b + 2 * rest)
more_bits b sum bit sum' rest e = ap (λ (n : ℕ). n + bit * 2 * rest) e ∙ spread sum bit (bit_if b) rest
  where
    spread : (sum bit one rest : ℕ) → sum + bit * one + bit * 2 * rest ≡ sum + bit * (one + 2 * rest)
    spread sum bit one rest = grind arith

small_next : (b : Bool) (sum bit sum' : ℕ) → sum + 1 ≤ bit → sum' ≡ sum + bit * bit_if b → sum' + 1 ≤ bit * 2
small_next true sum bit sum' h e = omega arith
small_next false sum bit sum' h e = omega arith

pub front_more : (f : ℕ → Bool) (ls : List ℕ) (i front bit front' all : ℕ) (b : Bool) → i < length ls → f (slice_index ls i) ≡ b → front' ≡ front + bit * (if b then 1 else 0)
    → front + bit * bits_of f (drop i ls) ≡ all → front + 1 ≤ bit → bit ≡ 2 ^ i
    → (front' + bit * 2 * bits_of f (drop (i + 1) ls) ≡ all) × (front' + 1 ≤ bit * 2) × (bit * 2 ≡ 2 ^ (i + 1))
front_more f ls i front bit front' all b lt e is whole small power = (
  more_bits b front bit front' (bits_of f (drop (i + 1) ls)) is
      ∙ ap (λ c. front + bit * (bit_if c + 2 * bits_of f (drop (i + 1) ls))) (sym e)
      ∙ ap (λ l. front + bit * bits_of f l) (sym (drop_next ls i lt)) ∙ whole,
  small_next b front bit front' small is,
  ap (λ (n : ℕ). n * 2) power ∙ sym (next_power i),
)

pub front_small : (front bit i count : ℕ) → front + 1 ≤ bit → bit ≡ 2 ^ i → i ≤ count → count ≤ 4 → front < 16
front_small front bit i count small power most few =
    let four : i ≤ 4 = omega arith in
    let p : 2 ^ i ≤ 2 ^ 4 = pow_mono four in omega arith

-- ---- a path

open_number : (path : List ℕ) (ls : List ℕ) (l : ℕ) → 1 ≤ length ls → path_number (l ∷ ls) path ≡ bit_if (is_among path l) + 2 * path_number ls path
open_number path [] l h = absurd (omega arith)
open_number path (k ∷ ls) l h = refl

last_number : (path ls : List ℕ) → length ls ≤ 1 → path_number ls path ≡ 0
last_number path [] h = refl
last_number path (l ∷ []) h = refl
last_number path (l ∷ k ∷ ls) h = absurd (omega arith)

pub number_more : (path ls : List ℕ) (i number bit number' all : ℕ) (b : Bool) → 1 ≤ i → i < length ls → is_among path (slice_index ls (i - 1)) ≡ b → number' ≡ number + bit * (if b then 1 else 0)
    → number + bit * path_number (drop (i - 1) ls) path ≡ all → number + 1 ≤ bit → bit ≡ 2 ^ (i - 1)
    → (number' + bit * 2 * path_number (drop (i + 1 - 1) ls) path ≡ all) × (number' + 1 ≤ bit * 2) × (bit * 2 ≡ 2 ^ (i + 1 - 1))
number_more path ls i number bit number' all b some lt e is whole small power =
    let j : i - 1 + 1 ≡ i = omega arith in
    let k : i + 1 - 1 ≡ i = omega arith in
    let before : drop (i - 1) ls ≡ slice_index ls (i - 1) ∷ drop i ls = drop_next ls (i - 1) (omega arith) ∙ ap (λ (n : ℕ). slice_index ls (i - 1) ∷ drop n ls) j in
    let long : 1 ≤ length (drop i ls) = let m = left_after ls i in omega arith in (
      more_bits b number bit number' (path_number (drop (i + 1 - 1) ls) path) is
          ∙ ap (λ (n : ℕ). number + bit * (bit_if b + 2 * path_number (drop n ls) path)) k
          ∙ ap (λ c. number + bit * (bit_if c + 2 * path_number (drop i ls) path)) (sym e)
          ∙ ap (λ (n : ℕ). number + bit * n) (sym (open_number path (drop i ls) (slice_index ls (i - 1)) long))
          ∙ ap (λ l. number + bit * path_number l path) (sym before) ∙ whole,
      small_next b number bit number' small is,
      ap (λ (n : ℕ). n * 2) power ∙ sym (next_power (i - 1)) ∙ ap (λ (n : ℕ). 2 ^ n) (j ∙ sym k),
    )

pub number_done : (path ls : List ℕ) (i number bit : ℕ) → length ls ≤ i → number + bit * path_number (drop (i - 1) ls) path ≡ path_number ls path → number ≡ path_number ls path
number_done path ls i number bit over whole =
    let none : path_number (drop (i - 1) ls) path ≡ 0 = last_number path (drop (i - 1) ls) (let m = left_after ls (i - 1) in omega (arith, over, m)) in
    let zero_times : number + bit * 0 ≡ number = omega arith in
    sym (ap (λ (n : ℕ). number + bit * n) none ∙ zero_times) ∙ whole

-- ---- an option

written_back : (o : Setting) (w : code.Setting) → w ≡ written o → w.used ≤ 2 → (w.cut, take w.used w.sizes) ≡ o
written_back o w e few =
    let used = ap (λ (x : code.Setting). x.used) e in
    ap (λ (x : code.Setting). (x.cut, take x.used x.sizes)) e ∙ ap (λ (l : List ℕ). (o.0, l)) (sizes_back o.1 (omega arith))

module _ (s : Switch) (b : TypedBranch) (o : Setting) (n : ℕ) (w : code.Setting) (result : Bool) (lt : n < length (options s b)) (is : w ≡ written (option_at s b n)) (few : w.used ≤ 2)
    (reported : result ≡ is_setting o (w.cut, take w.used w.sizes)) (so_far : n + position_or_len (is_setting o) (drop n (options s b)) ≡ option_number s b o) where
  tells : result ≡ is_setting o (option_at s b n)
  tells = reported ∙ ap (is_setting o) (written_back (option_at s b n) w is few)

  split_here : drop n (options s b) ≡ option_at s b n ∷ drop (suc n) (options s b)
  split_here = drop-cons (options s b) n (0, []) lt ∙ ap (λ x. x ∷ drop (suc n) (options s b)) (sym (unwrap_or-slice_get (options s b) n (0, [])))

  opened : (c : Bool) → result ≡ c → n + cond (not c) (1 + position_or_len (is_setting o) (drop (suc n) (options s b))) 0 ≡ option_number s b o
  opened c e =
      ap (λ d. n + cond (not d) (1 + position_or_len (is_setting o) (drop (suc n) (options s b))) 0) (sym (sym tells ∙ e))
      ∙ ap (λ l. n + position_or_len (is_setting o) l) (sym split_here) ∙ so_far

  pub option_found : result ≡ true → n ≡ option_number s b o
  option_found e = let k = opened true e in omega arith

  pub option_further : result ≡ false → n + 1 + position_or_len (is_setting o) (drop (n + 1) (options s b)) ≡ option_number s b o
  option_further e =
      let k = opened false e in
      let same : n + 1 + position_or_len (is_setting o) (drop (suc n) (options s b)) ≡ option_number s b o = omega arith in
      ap (λ (m : ℕ). n + 1 + position_or_len (is_setting o) (drop m (options s b))) (add-one n) ∙ same
