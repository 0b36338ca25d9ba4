-- The options of a piece, counted and found cut by cut.
use Rattle.std.proofs.Common.{◌≡◌, ◌≢◌, ℕ, zero, suc, ◌+◌, ◌-◌, ◌*◌, ◌/◌, ◌%◌, ◌≤◌, ◌<◌, List, [], ◌∷◌, ◌++◌, map, length, take, get_or, refl, ap, sym, ◌∙◌, arith, length-append}
use Rattle.std.specs.List.{flat_map, range_with_len}
use Rattle.std.specs.Prelude.{slice_get, unwrap_or}
use Rattle.std.proofs.Math.Nat.{div-lt_iff_lt-mul}
use Rattle.std.proofs.lemmas.List.{length-map, get_or_append_left, get_or-append-add}
use Rattle.std.proofs.lemmas.Option.{unwrap_or-slice_get}
use Rattle.sn_switch.specs.declared.switch.Switch.{Switch}
use Rattle.sn_types.specs.declared.typed_op.TOp.{TOp}
use Rattle.sn_types.specs.declared.typed_query.TypedBranch.{TypedBranch}
use Rattle.sn_types.specs.Cuts.{stateful}
use Rattle.sn_plan_choices.specs.Settings.{written}
use Rattle.sn_plan_choices.specs.Options.{Setting, size_lists, options, option_at}

-- ---- lists of sizes

length_each : {A B C : Type 0} (f : A → B → C) (ys : List B) (xs : List A) → length (flat_map (λ x. map (f x) ys) xs) ≡ length xs * length ys
length_each f ys [] = omega arith
length_each f ys (x ∷ xs) = length-append (map (f x) ys) (flat_map (λ x. map (f x) ys) xs) ∙ (let a = length-map ys (f x) in let b = length_each f ys xs in omega arith)

pub one_size : (sizes : List ℕ) → length (size_lists sizes 1) ≡ length sizes
one_size sizes = length_each (λ size rest. size ∷ rest) ([] ∷ []) sizes ∙ omega arith

pub two_sizes : (sizes : List ℕ) → length (size_lists sizes 2) ≡ length sizes * length sizes
two_sizes sizes = length_each (λ size rest. size ∷ rest) (size_lists sizes 1) sizes ∙ ap (λ n. length sizes * n) (one_size sizes)

-- the lists of one size, of two sizes
pub size_at_one : (sizes : List ℕ) (n : ℕ) → n < length sizes → get_or (size_lists sizes 1) n [] ≡ get_or sizes n 0 ∷ []
size_at_one [] n h = absurd (omega arith)
size_at_one (x ∷ xs) zero h = refl
size_at_one (x ∷ xs) (suc n) h = size_at_one xs n (omega arith)

size_at_each : (ys : List (List ℕ)) (xs : List ℕ) (i j : ℕ) → i < length xs → j < length ys
    → get_or (flat_map (λ x. map (λ rest. x ∷ rest) ys) xs) (i * length ys + j) [] ≡ get_or xs i 0 ∷ get_or ys j []
size_at_each ys [] i j h k = absurd (omega arith)
size_at_each ys (x ∷ xs) zero j h k =
    ap (λ n. get_or (map (λ rest. x ∷ rest) ys ++ flat_map (λ x. map (λ rest. x ∷ rest) ys) xs) n []) (let e : 0 * length ys + j ≡ j = omega arith in e)
    ∙ get_or_append_left (map (λ rest. x ∷ rest) ys) (flat_map (λ x. map (λ rest. x ∷ rest) ys) xs) [] j (let e = length-map ys (λ (rest : List ℕ). x ∷ rest) in omega arith)
    ∙ mapped ys j k
  where
    mapped : (ys : List (List ℕ)) (j : ℕ) → j < length ys → get_or (map (λ rest. x ∷ rest) ys) j [] ≡ x ∷ get_or ys j []
    mapped [] j k = absurd (omega arith)
    mapped (y ∷ ys) zero k = refl
    mapped (y ∷ ys) (suc j) k = mapped ys j (omega arith)
size_at_each ys (x ∷ xs) (suc i) j h k =
    let long = length-map ys (λ (rest : List ℕ). x ∷ rest) in
    let e : suc i * length ys + j ≡ length (map (λ (rest : List ℕ). x ∷ rest) ys) + (i * length ys + j) = omega arith in
    ap (λ n. get_or (map (λ rest. x ∷ rest) ys ++ flat_map (λ x. map (λ rest. x ∷ rest) ys) xs) n []) e
    ∙ get_or-append-add (map (λ rest. x ∷ rest) ys) (flat_map (λ x. map (λ rest. x ∷ rest) ys) xs) (i * length ys + j) [] ∙ size_at_each ys xs i j (omega arith) k

pub size_at_two : (sizes : List ℕ) (i j : ℕ) → i < length sizes → j < length sizes
    → get_or (size_lists sizes 2) (i * length sizes + j) [] ≡ get_or sizes i 0 ∷ get_or sizes j 0 ∷ []
size_at_two sizes i j h k =
    ap (λ n. get_or (size_lists sizes 2) (i * n + j) []) (sym (one_size sizes))
    ∙ size_at_each (size_lists sizes 1) sizes i j h (let e = one_size sizes in omega arith) ∙ ap (λ rest. get_or sizes i 0 ∷ rest) (size_at_one sizes j k)

-- ---- the options of cuts

abbrev pub pair : ℕ → List ℕ → Setting
pair cut sizes = (cut, sizes)

abbrev pub of_cut : Switch → TypedBranch → ℕ → List Setting
of_cut s b cut = map (pair cut) (size_lists s.slots (stateful (take cut b.ops)))

-- those from a cut on
abbrev pub from_cut : Switch → TypedBranch → ℕ → List Setting
from_cut s b cut = flat_map (of_cut s b) (range_with_len cut (b.max_cut + 1 - cut))

pub cut_more : (s : Switch) (b : TypedBranch) (cut : ℕ) → cut < b.max_cut + 1 → from_cut s b cut ≡ of_cut s b cut ++ from_cut s b (cut + 1)
cut_more s b cut h =
    let e : b.max_cut + 1 - cut ≡ suc (b.max_cut + 1 - (cut + 1)) = omega arith in
    ap (λ n. flat_map (of_cut s b) (range_with_len cut n)) e

of_cut_long : (s : Switch) (b : TypedBranch) (cut : ℕ) → length (of_cut s b cut) ≡ length (size_lists s.slots (stateful (take cut b.ops)))
of_cut_long s b cut = length-map (size_lists s.slots (stateful (take cut b.ops))) (pair cut)

pub cut_counts : (s : Switch) (b : TypedBranch) (cut : ℕ) → cut < b.max_cut + 1
    → length (size_lists s.slots (stateful (take cut b.ops))) + length (from_cut s b (cut + 1)) ≡ length (from_cut s b cut)
cut_counts s b cut h =
    let e = ap length (cut_more s b cut h) ∙ length-append (of_cut s b cut) (from_cut s b (cut + 1)) in
    let m = of_cut_long s b cut in omega arith

pub cut_hit : (s : Switch) (b : TypedBranch) (cut n : ℕ) → cut < b.max_cut + 1 → n < length (size_lists s.slots (stateful (take cut b.ops)))
    → get_or (from_cut s b cut) n (0, []) ≡ pair cut (get_or (size_lists s.slots (stateful (take cut b.ops))) n [])
cut_hit s b cut n h k =
    ap (λ l. get_or l n (0, [])) (cut_more s b cut h)
    ∙ get_or_append_left (of_cut s b cut) (from_cut s b (cut + 1)) (0, []) n (let m = of_cut_long s b cut in omega arith)
    ∙ mapped (size_lists s.slots (stateful (take cut b.ops))) n k
  where
    mapped : (ys : List (List ℕ)) (j : ℕ) → j < length ys → get_or (map (pair cut) ys) j (0, []) ≡ pair cut (get_or ys j [])
    mapped [] j k = absurd (omega arith)
    mapped (y ∷ ys) zero k = refl
    mapped (y ∷ ys) (suc j) k = mapped ys j (omega arith)

pub cut_miss : (s : Switch) (b : TypedBranch) (cut n : ℕ) → cut < b.max_cut + 1 → length (size_lists s.slots (stateful (take cut b.ops))) ≤ n
    → get_or (from_cut s b (cut + 1)) (n - length (size_lists s.slots (stateful (take cut b.ops)))) (0, []) ≡ get_or (from_cut s b cut) n (0, [])
cut_miss s b cut n h k =
    let m = of_cut_long s b cut in
    let w : ℕ = length (size_lists s.slots (stateful (take cut b.ops))) in
    let e : length (of_cut s b cut) + (n - w) ≡ n = omega arith in
    sym (get_or-append-add (of_cut s b cut) (from_cut s b (cut + 1)) (n - w) (0, []))
    ∙ ap (λ i. get_or (of_cut s b cut ++ from_cut s b (cut + 1)) i (0, [])) e ∙ ap (λ l. get_or l n (0, [])) (sym (cut_more s b cut h))

pub none_after : (s : Switch) (b : TypedBranch) (cut : ℕ) → b.max_cut + 1 ≤ cut → from_cut s b cut ≡ []
none_after s b cut h = let e : b.max_cut + 1 - cut ≡ 0 = omega arith in ap (λ n. flat_map (of_cut s b) (range_with_len cut n)) e

pub option_is : (s : Switch) (b : TypedBranch) (n : ℕ) → option_at s b n ≡ get_or (from_cut s b 0) n (0, [])
option_is s b n = unwrap_or-slice_get (options s b) n (0, []) ∙ ap (λ k. get_or (flat_map (of_cut s b) (range_with_len 0 k)) n (0, [])) (let e : b.max_cut + 1 ≡ b.max_cut + 1 - 0 = omega arith in e)

-- ---- as the code finds them

pub many_sizes : (sizes : List ℕ) (count : ℕ) → count ≤ 2 → count ≢ 0 → count ≢ 1 → length sizes * length sizes ≡ length (size_lists sizes count)
many_sizes sizes count h a b = let e : 2 ≡ count = omega arith in sym (two_sizes sizes) ∙ ap (λ k. length (size_lists sizes k)) e

pub single_sizes : (sizes : List ℕ) (count : ℕ) → count ≡ 1 → length sizes ≡ length (size_lists sizes count)
single_sizes sizes count e = sym (one_size sizes) ∙ ap (λ k. length (size_lists sizes k)) (sym e)

pub written_one : (sizes : List ℕ) (cut count n : ℕ) → count ≡ 1 → n < length (size_lists sizes count)
    → written (pair cut (get_or sizes n 0 ∷ [])) ≡ written (pair cut (unwrap_or (slice_get (size_lists sizes count) n) []))
written_one sizes cut count n e h =
    ap (λ l. written (pair cut l))
    (sym (size_at_one sizes n (let s = single_sizes sizes count e in omega arith)) ∙ ap (λ k. get_or (size_lists sizes k) n []) (sym e)
    ∙ sym (unwrap_or-slice_get (size_lists sizes count) n []))

pub place_small : (k n : ℕ) → n < k * k → n / k < k
place_small zero n h = absurd (omega arith)
place_small (suc k) n h = (div-lt_iff_lt-mul {k = suc k} {x = n} {y = suc k} (omega arith)).1 h

pub place_less : (k n : ℕ) → n < k * k → n % k < k
place_less zero n h = absurd (omega arith)
place_less (suc k) n h = omega arith

pub written_two : (sizes : List ℕ) (cut count n : ℕ) → count ≤ 2 → count ≢ 0 → count ≢ 1 → n < length (size_lists sizes count)
    → written (pair cut (get_or sizes (n / length sizes) 0 ∷ get_or sizes (n % length sizes) 0 ∷ [])) ≡ written (pair cut (unwrap_or (slice_get (size_lists sizes count) n) []))
written_two sizes cut count n two a b h =
    let m = many_sizes sizes count two a b in
    let k : ℕ = length sizes in
    let few : n < k * k = omega arith in
    let i = place_small k n few in
    let j = place_less k n few in
    let whole : n / k * k + n % k ≡ n = omega arith in
    let e : 2 ≡ count = omega arith in
    ap (λ l. written (pair cut l))
    (sym (size_at_two sizes (n / k) (n % k) i j) ∙ ap (λ p. get_or (size_lists sizes 2) p []) whole ∙ ap (λ c. get_or (size_lists sizes c) n []) e
    ∙ sym (unwrap_or-slice_get (size_lists sizes count) n []))

-- the number of operators before a cut, and of their lists of sizes
pub ways_at : (s : Switch) (b : TypedBranch) (cut : ℕ) (sizes : List ℕ) (ops : List TOp) (count known : ℕ) → sizes ≡ s.slots → ops ≡ take cut b.ops → count ≡ stateful ops
    → known ≡ length (size_lists sizes count) → known ≡ length (size_lists s.slots (stateful (take cut b.ops)))
ways_at s b cut sizes ops count known a o n w = w ∙ ap (λ l. length (size_lists l count)) a ∙ ap (λ k. length (size_lists s.slots k)) (n ∙ ap stateful o)

pub here_is : (s : Switch) (b : TypedBranch) (cut n left : ℕ) (sizes : List ℕ) (ops : List TOp) (count known : ℕ) → cut < b.max_cut + 1 → sizes ≡ s.slots → ops ≡ take cut b.ops
    → count ≡ stateful ops → known ≡ length (size_lists sizes count) → left < known → get_or (from_cut s b cut) left (0, []) ≡ option_at s b n
    → written (pair cut (unwrap_or (slice_get (size_lists sizes count) left) [])) ≡ written (option_at s b n)
here_is s b cut n left sizes ops count known h a o k w less e =
    let at = ways_at s b cut sizes ops count known a o k w in
    ap (λ l. written (pair cut l))
    (unwrap_or-slice_get (size_lists sizes count) left [] ∙ ap (λ l. get_or (size_lists l count) left []) a ∙ ap (λ j. get_or (size_lists s.slots j) left []) (k ∙ ap stateful o))
    ∙ ap written (sym (cut_hit s b cut left h (omega arith)) ∙ e)

pub after_is : (s : Switch) (b : TypedBranch) (cut n left : ℕ) (sizes : List ℕ) (ops : List TOp) (count known : ℕ) → cut < b.max_cut + 1 → sizes ≡ s.slots → ops ≡ take cut b.ops
    → count ≡ stateful ops → known ≡ length (size_lists sizes count) → known ≤ left → get_or (from_cut s b cut) left (0, []) ≡ option_at s b n
    → get_or (from_cut s b (cut + 1)) (left - known) (0, []) ≡ option_at s b n
after_is s b cut n left sizes ops count known h a o k w more e =
    let at = ways_at s b cut sizes ops count known a o k w in
    ap (λ j. get_or (from_cut s b (cut + 1)) (left - j) (0, [])) at ∙ cut_miss s b cut left h (omega arith) ∙ e
