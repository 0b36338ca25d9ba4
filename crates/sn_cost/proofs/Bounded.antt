-- The entries of training windows are no more than what each window may send and what all tuples may install.
use Rattle.std.proofs.Common.{◌≡◌, ℕ, zero, suc, ◌+◌, ◌-◌, ◌*◌, ◌<◌, ◌≤◌, List, [], ◌∷◌, drop, take, length, true, false, cond, nat_eq, slice_index, Option, None, Some}
use Rattle.std.proofs.Common.{IsSome, mul-add, suc-mul, mul-le-mul_left, refl, ap, sym, subst, ◌∙◌, arith}
use Rattle.std.proofs.Math.Bridge.{le_prop}
use Rattle.std.proofs.Math.Logic.{∥∥₁_elim}
use Rattle.std.proofs.lemmas.Bool.{false≢true}
use Rattle.std.proofs.lemmas.List.{length-drop, length-take}
use Rattle.std.proofs.lemmas.List.Sums.{sum_by-cons}
use Rattle.std.specs.FinSet as set
use Rattle.std.specs.FinSet.{len-empty}
use Rattle.std.specs.List.{sum_by}
use Rattle.std.specs.Option.{option_map}
use Rattle.std.specs.Ordering.{nat_cmp}
use Rattle.sn_base.proofs.Lists.{by_test, filter_short, nat_same, nat_self, none_some, some_same}
use Rattle.sn_base.specs.Groups.{Row}
use Rattle.sn_engine_split.specs.Opened.{is_open}
use Rattle.sn_plan_choices.specs.Options.{Setting}
use Rattle.sn_refine.specs.Refined.{Windows, answered, before, column_of, is_in, level_rows, refined_rows}
use Rattle.sn_refine.specs.Steps.{Set, prefixes_of, windows_of}
use Rattle.sn_refine.proofs.Windows.{above_last, earlier, here, later}
use Rattle.sn_types.specs.declared.typed_query.TypedQuery.{TypedQuery}
use Rattle.sn_types.specs.Typed.{IsTyped, query_at}
use Rattle.sn_windows.specs.Rising.{AreRising, IsAbove, Window}
use Rattle.sn_cost.specs.Entries.{entry_count, front_of, held_of, installed_in, records, sent_in, trained, windows_in}
use Rattle.sn_cost.specs.Training.{NeverFall}
use Rattle.sn_cost.proofs.Few.{with_field}
use Rattle.sn_cost.proofs.Paths.{front_path}
use Rattle.sn_cost.proofs.Installed.{installed_few}
use Rattle.sn_cost.proofs.Running.{equal_ahead, later_fall, some_ahead, windows_rise, windows_step}

-- ---- sums

sums_most : {X : Type 0} (f g : X → ℕ) → ((x : X) → f x ≤ g x) → (xs : List X) → sum_by f xs ≤ sum_by g xs
sums_most f g h [] = omega arith
sums_most f g h (x ∷ xs) = let one = sum_by-cons f x xs in let two = sum_by-cons g x xs in let here = h x in let rest = sums_most f g h xs in omega (arith, one, two, here, rest)

sum_costs : {X : Type 0} (f g : X → ℕ) (n m : ℕ) → ((x : X) → f x ≤ m) → (xs : List X) → sum_by (λ x. f x + n * g x) xs ≤ length xs * m + n * sum_by g xs
sum_costs f g n m h [] = omega arith
sum_costs f g n m h (x ∷ xs) =
    let one : sum_by (λ y. f y + n * g y) (x ∷ xs) ≡ f x + n * g x + sum_by (λ y. f y + n * g y) xs = sum_by-cons (λ y. f y + n * g y) x xs in
    let two : n * sum_by g (x ∷ xs) ≡ n * g x + n * sum_by g xs = ap (λ k. n * k) (sum_by-cons g x xs) ∙ mul-add n (g x) (sum_by g xs) in
    let long : length (x ∷ xs) * m ≡ length xs * m + m = suc-mul (length xs) m in
    let first = h x in
    let rest = sum_costs f g n m h xs in
    omega (arith, one, two, long, first, rest)

-- ---- sizes of windows

abbrev size_of : Option (List (List ℕ)) → ℕ
size_of None = 0
size_of (Some tuples) = length tuples

abbrev size_before : Windows → ℕ → ℕ
size_before windows zero = 0
size_before windows (suc v) = size_of (windows v)

-- the window before the first of these is the last one, or it holds nothing
first_before : (windows : Windows) (prev : ℕ) (last : Option ℕ) (g : Window) (rest : List Window) → AreRising last (g ∷ rest) → ((v : ℕ) → IsAbove last v → windows v ≡ windows_of (g ∷ rest) v)
    → ((v : ℕ) → last ≡ Some v → size_of (windows v) ≤ prev) → (n : ℕ) → g.0 ≡ n → size_before windows n ≤ prev
first_before windows prev last g rest rises agrees most zero is = omega arith
first_before windows prev None g rest rises agrees most (suc v) is =
    let e : size_of (windows v) ≡ 0 = ap size_of (agrees v tt ∙ earlier g rest v rises.1 (omega (arith, is))) in
    omega (arith, e)
first_before windows prev (Some n) g rest rises agrees most (suc v) is =
    by_test (nat_eq n v)
    (λ same. most v (ap (λ m. Some m) (nat_same n v same)))
    (λ other.
    let above : n < v = less n v g.0 rises.0 is (λ e. false≢true (sym other ∙ subst (λ y. nat_eq n y ≡ true) e (nat_self n))) in
    let e : size_of (windows v) ≡ 0 = ap size_of (agrees v above ∙ earlier g rest v rises.1 (omega (arith, is))) in
    omega (arith, e))
  where
    less : (n v w : ℕ) → n < w → w ≡ suc v → (n ≡ v → ⊥) → n < v
    less n v w lt is apart = omega (arith, lt, is, apart)

-- what the windows before these hold is no more than what the last one and these hold
before_sizes : (windows : Windows) (prev : ℕ) (last : Option ℕ) (rest : List Window) → AreRising last rest → ((v : ℕ) → IsAbove last v → windows v ≡ windows_of rest v)
    → ((v : ℕ) → last ≡ Some v → size_of (windows v) ≤ prev) → sum_by (λ (g : Window). size_before windows g.0) rest ≤ prev + sum_by (λ (g : Window). length g.1) rest
before_sizes windows prev last [] rises agrees most = omega arith
before_sizes windows prev last (g ∷ rest) rises agrees most =
    let first = first_before windows prev last g rest rises agrees most g.0 refl in
    let holds : windows g.0 ≡ Some g.1 = agrees g.0 rises.0 ∙ here g rest in
    let next =
    before_sizes windows (length g.1) (Some g.0) rest rises.1 (λ v above. agrees v (above_last last g.0 v rises.0 above) ∙ later g rest v above)
    (λ v is. let e : size_of (windows v) ≡ length g.1 = ap (λ n. size_of (windows n)) (sym (some_same g.0 v is)) ∙ ap size_of holds in omega (arith, e)) in
    let one = sum_by-cons (λ (x : Window). size_before windows x.0) g rest in
    let two = sum_by-cons (λ (x : Window). length x.1) g rest in
    omega (arith, first, next, one, two)

-- ---- what is installed

module _ (window q : ℕ) (queries : List TypedQuery) (typed : ∥ IsTyped window queries ∥₁) (lt : q < length queries) where
  abbrev query : TypedQuery
  query = query_at queries q

  level_few : (level : ℕ) (seen : Option (List (List ℕ))) → IsSome query.field → set.len (prefixes_of query (level_rows query level seen)) ≤ size_of seen
  level_few level None is = let e : set.len (prefixes_of query []) ≡ 0 = len-empty nat_cmp in omega (arith, e)
  level_few level (Some tuples) is = with_field query.field is (λ field found. ∥∥₁_elim typed le_prop (λ t. installed_few window q level queries field tuples t lt found))

  answered_size : (bits : ℕ) (rows : List Row) (o : Option (List (List ℕ))) → size_of (option_map (answered query bits rows) o) ≤ size_of o
  answered_size bits rows None = omega arith
  answered_size bits rows (Some tuples) = filter_short (is_in query.field bits (column_of query rows)) tuples

  rows_few : (windows : Windows) (front : List ℕ) (j v : ℕ) → IsSome query.field → set.len (prefixes_of query (refined_rows query windows front j v)) ≤ size_of (windows v)
  rows_few windows front zero v is = level_few (slice_index front 0) (windows v) is
  rows_few windows front (suc j) v is =
      let rows = before (refined_rows query windows front j) v in
      let few = level_few (slice_index front (suc j)) (option_map (answered query (slice_index front j) rows) (windows v)) is in
      let short = answered_size (slice_index front j) rows (windows v) in
      omega (arith, few, short)

  held_most : (limit : Option ℕ) (prefixes : Set) → held_of limit prefixes ≤ set.len prefixes
  held_most limit prefixes = (elim (is_open limit prefixes) as (λ b. cond b 0 (set.len prefixes) ≤ set.len prefixes) [ true ↦ omega arith | false ↦ omega arith ])

  installed_most : (limit : Option ℕ) (windows : Windows) (front : List ℕ) (place w : ℕ) → (0 < place → IsSome query.field) → installed_in query limit windows front place w ≤ size_before windows w
  installed_most limit windows front zero w is = omega arith
  installed_most limit windows front (suc j) zero is =
      let e : set.len (prefixes_of query []) ≡ 0 = len-empty nat_cmp in
      let most = held_most limit (prefixes_of query []) in
      omega (arith, e, most)
  installed_most limit windows front (suc j) (suc v) is =
      let most = held_most limit (prefixes_of query (refined_rows query windows front j v)) in
      let few = rows_few windows front j v (is (omega arith)) in
      omega (arith, most, few)

  -- what is installed in windows that rise is no more than they hold
  pub installed_total : (limit : Option ℕ) (front : List ℕ) (place : ℕ) (given : List Window) → (0 < place → IsSome query.field) → AreRising None given
      → sum_by (λ (g : Window). installed_in query limit (windows_of given) front place g.0) given ≤ sum_by (λ (g : Window). length g.1) given
  installed_total limit front place given is rises =
      let windows : Windows = windows_of given in
      let each = sums_most (λ (g : Window). installed_in query limit windows front place g.0) (λ (g : Window). size_before windows g.0) (λ g. installed_most limit windows front place g.0 is) given in
      let all = before_sizes windows 0 None given rises (λ v above. refl) (λ v none. absurd (none_some none)) in
      omega (arith, each, all)

-- ---- training windows

-- windows hold no more than all tuples
pub sizes : (fuel : ℕ) (ns : List ℕ) (ts : List (List ℕ)) → length ns ≤ fuel → length ns ≡ length ts → NeverFall ns → sum_by (λ (g : Window). length g.1) (windows_in (records ns ts)) ≤ length ts
sizes fuel [] ts le same never = omega arith
sizes zero (n ∷ ns) ts le same never = absurd (omega (arith, le))
sizes (suc fuel) (n ∷ ns) [] le same never = absurd (omega (arith, same))
sizes (suc fuel) (n ∷ ns) (t ∷ ts) le same never =
    let k : ℕ = equal_ahead (n ∷ ns) in
    let some = some_ahead (n ∷ ns) (omega arith) in
    let numbers_left = length-drop k (n ∷ ns) in
    let tuples_left = length-drop k (t ∷ ts) in
    let taken = length-take k (t ∷ ts) in
    let same_rest : length ns ≡ length ts = omega (arith, same) in
    let rest_list : List Window = windows_in (records (drop k (n ∷ ns)) (drop k (t ∷ ts))) in
    let rest = sizes fuel (drop k (n ∷ ns)) (drop k (t ∷ ts)) (omega (arith, le, some, numbers_left)) (omega (arith, numbers_left, tuples_left, same)) (later_fall k (n ∷ ns) never) in
    let step = ap (sum_by (λ (g : Window). length g.1)) (windows_step n ns t ts k same_rest never refl) in
    let one = sum_by-cons (λ (g : Window). length g.1) (n, take k (t ∷ ts)) rest_list in
    omega (arith, step, one, rest, tuples_left, taken)

-- an entry is no more than what each window may send, and the weight for as many prefixes as there are tuples
pub entry_most : (depth : ℕ) (limit : Option ℕ) (weight window q : ℕ) (queries : List TypedQuery) (numbers : List ℕ) (tuples : List (List ℕ)) (prefix b m : ℕ) (o : Setting) → ∥ IsTyped window queries ∥₁ → q < length queries
    → length numbers ≡ length tuples → NeverFall numbers → ((w : ℕ) → sent_in (query_at queries q) limit (windows_of (trained numbers tuples)) (front_of prefix (query_at queries q).levels) b depth o w ≤ m)
    → entry_count depth limit weight (query_at queries q) (trained numbers tuples) prefix b o ≤ length (trained numbers tuples) * m + weight * length tuples
entry_most depth limit weight window q queries numbers tuples prefix b m o typed lt same never sends =
    let query : TypedQuery = query_at queries q in
    let given : List Window = trained numbers tuples in
    let windows : Windows = windows_of given in
    let front : List ℕ = front_of prefix query.levels in
    let path = front_path window queries q prefix typed lt in
    let last : ℕ = length front - 1 in
    let installed : ℕ = sum_by (λ (g : Window). installed_in query limit windows front last g.0) given in
    let total = installed_total window q queries typed lt limit front last given (λ several. path.refined (omega (arith, several))) (windows_rise numbers tuples never) in
    let held = sizes (length numbers) numbers tuples (omega arith) same never in
    let few : installed ≤ length tuples = omega (arith, total, held) in
    let cost = mul-le-mul_left weight few in
    let all = sum_costs (λ (g : Window). sent_in query limit windows front b depth o g.0) (λ (g : Window). installed_in query limit windows front last g.0) weight m (λ g. sends g.0) given in
    omega (arith, cost, all)
