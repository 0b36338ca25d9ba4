-- Rows that are the same for all lists of sizes, as long as no register overflows.
use Rattle.std.proofs.Common.{◌≡◌, ℕ, zero, suc, ◌+◌, ◌*◌, ◌≤◌, List, [], ◌∷◌, ◌++◌, map, filter, length, replicate, nat_eq, nat_lt, Bool, true, false, not, ◌||◌, cond, refl, ap, sym, ◌∙◌, arith, append_assoc, zero-add, Result, Ok, Err, OnOk}
use Rattle.std.specs.List.{AllByRecursion, flat_map, list_all}
use Rattle.std.proofs.lemmas.List.{length-map, replicate-append-replicate}
use Rattle.sn_base.specs.Groups.{Row, once, same_row}
use Rattle.sn_base.specs.Operators.{Grouping, apply, key_of, pair_of, row_for}
use Rattle.sn_base.specs.Operators.Op.{Distinct, Reduce}
use Rattle.sn_base.proofs.Lists.{all_map, and_parts, by_test, filter_keeps, nat_same}
use Rattle.sn_base.proofs.OnceLemmas.{all_once}
use Rattle.sn_chain.specs.Chain.{has_home}
use Rattle.sn_ops.specs.Flow.{grouping_of}
use Rattle.sn_types.specs.declared.typed_op.TOp.{TOp}
use Rattle.sn_types.specs.declared.typed_op.TOp.TheVariants as ops
use Rattle.sn_types.specs.Cuts.{is_stateful}
use Rattle.sn_types.specs.Values.{op_at}
use Rattle.sn_cost_tally.proofs.Keeping.{alone_home}
use Rattle.sn_cost_counts.specs.AnyFlow.{Flow}
use Rattle.sn_cost_counts.specs.Flows.{counted, first_rows, held_rows, over_distinct, over_reduce, starting, stepped, wider}
use Rattle.sn_cost_counts.proofs.Going.{wide_sizes}
use Rattle.sn_cost_counts.proofs.Settling.{grouped_is}

-- ---- lists of one item

map_same : {X Y : Type 0} (f : X → Y) (n : ℕ) (x : X) → map f (replicate n x) ≡ replicate n (f x)
map_same f zero x = refl
map_same f (suc n) x = ap (λ ys. f x ∷ ys) (map_same f n x)

flat_same : {X Y : Type 0} (f : X → List Y) (k n : ℕ) (x : X) (y : Y) → f x ≡ replicate k y → flat_map f (replicate n x) ≡ replicate (n * k) y
flat_same f k zero x y is = let e : 0 ≡ zero * k = omega arith in ap (λ m. replicate m y) e
flat_same f k (suc n) x y is =
    let e : k + n * k ≡ suc n * k = omega arith in
    ap (λ ys. ys ++ flat_map f (replicate n x)) is
    ∙ ap (λ ys. replicate k y ++ ys) (flat_same f k n x y is)
    ∙ replicate-append-replicate k (n * k) y
    ∙ ap (λ m. replicate m y) e

all_pass : {X : Type 0} (t : X → Bool) (xs : List X) → length (filter (λ x. not (t x)) xs) ≡ 0 → AllByRecursion (λ x. t x ≡ true) xs
all_pass t [] none = tt
all_pass t (x ∷ xs) none =
    let rest : List _ = filter (λ y. not (t y)) xs in
    by_test (t x)
    (λ is. (is, all_pass t xs (sym (ap (λ b. length (cond (not b) (x ∷ rest) rest)) is) ∙ none)))
    (λ isnt. let some : suc (length rest) ≡ 0 = sym (ap (λ b. length (cond (not b) (x ∷ rest) rest)) isnt) ∙ none in absurd (omega (arith, some)))

-- ---- a distinct or a reduce at which nothing overflows

abbrev flow_of : ℕ → List Row → Bool → Bool → Flow
flow_of sent rows spilled whole = record { sent = sent; rows = rows; spilled = spilled; whole = whole }

distinct_same : (depth slots : ℕ) (rows : List Row) → 0 + length (over_distinct depth slots rows) ≡ 0 → stepped depth slots Distinct (starting rows) ≡ starting (apply Distinct rows)
distinct_same depth slots rows none =
    let over : length (over_distinct depth slots rows) ≡ 0 = omega (arith, none) in
    let home : Row → Bool = λ row. has_home depth slots rows row in
    ap (λ n. flow_of (0 + n) (first_rows depth slots rows) (false || nat_lt 0 n) false) over
    ∙ ap (λ (xs : List Row). flow_of 0 (once same_row xs) false false) (filter_keeps home rows (all_pass home rows over))

reduce_same : (depth slots : ℕ) (g : Grouping) (rows : List Row) → 0 + length (over_reduce depth slots g rows) ≡ 0 → stepped depth slots (Reduce g) (starting rows) ≡ starting (apply (Reduce g) rows)
reduce_same depth slots g rows none =
    let over : length (over_reduce depth slots g rows) ≡ 0 = omega (arith, none) in
    let keys : List Row = map (key_of g) rows in
    let home : Row → Bool = has_home depth slots keys in
    let all : AllByRecursion (λ key. home key ≡ true) keys = all_map (λ key. home key ≡ true) (key_of g) rows (all_pass (λ row. home (key_of g row)) rows over) in
    ap (λ n. flow_of (0 + n) (held_rows depth slots g rows) false false) over
    ∙ ap (λ (xs : List Row). flow_of 0 (map (row_for g (map (pair_of g) rows)) xs) false false) (filter_keeps home (once same_row keys) (all_once same_row (λ key. home key ≡ true) keys all))
    ∙ ap starting (sym (grouped_is depth slots g rows))

step_same : (depth slots : ℕ) (op : TOp) (rows : List Row) → is_stateful op ≡ true → (stepped depth slots (op_at 0 op) (starting rows)).sent ≡ 0 → stepped depth slots (op_at 0 op) (starting rows) ≡ starting (apply (op_at 0 op) rows)
step_same depth slots (ops.Filter conds) rows is none = absurd cc
step_same depth slots (ops.Map exprs) rows is none = absurd cc
step_same depth slots ops.Distinct rows is none = distinct_same depth slots rows none
step_same depth slots (ops.Reduce r) rows is none = reduce_same depth slots (grouping_of r) rows none

-- the rows for each size
abbrev pub by_size : ℕ → List ℕ → TOp → Flow → List Flow
by_size depth slots op f = map (λ size. stepped depth size (op_at 0 op) f) slots

sizes_same : (depth : ℕ) (slots : List ℕ) (op : TOp) (rows : List Row) → is_stateful op ≡ true → AllByRecursion (λ (f : Flow). f.sent ≡ 0) (by_size depth slots op (starting rows))
    → by_size depth slots op (starting rows) ≡ replicate (length slots) (starting (apply (op_at 0 op) rows))
sizes_same depth [] op rows is none = refl
sizes_same depth (size ∷ slots) op rows is none =
    ap (λ (f : Flow). f ∷ by_size depth slots op (starting rows)) (step_same depth size op rows is none.0)
    ∙ ap (λ (fs : List Flow). starting (apply (op_at 0 op) rows) ∷ fs) (sizes_same depth slots op rows is none.1)

none_of : (fs : List Flow) → list_all (λ (f : Flow). nat_eq f.sent 0) fs ≡ true → AllByRecursion (λ (f : Flow). f.sent ≡ 0) fs
none_of [] all = tt
none_of (f ∷ fs) all = let both = and_parts (nat_eq f.sent 0) (list_all (λ (x : Flow). nat_eq x.sent 0) fs) all in (nat_same f.sent 0 both.0, none_of fs both.1)

-- ---- one row at most

over_alone : (depth slots : ℕ) (key : Row → Row) (rows : List Row) → 1 ≤ depth → length rows ≤ 1 → 0 + length (filter (λ row. not (has_home depth slots (map key rows) (key row))) rows) ≡ 0
over_alone depth slots key [] some one = refl
over_alone zero slots key (row ∷ []) some one = absurd (omega (arith, some))
over_alone (suc depth) slots key (row ∷ []) some one = ap (λ b. 0 + length (cond (not b) (row ∷ []) [])) (alone_home depth slots (key row))
over_alone depth slots key (row ∷ other ∷ rows) some one = absurd (omega (arith, one))

same_keys : (rows : List Row) → map (λ row. row) rows ≡ rows
same_keys [] = refl
same_keys (row ∷ rows) = ap (λ xs. row ∷ xs) (same_keys rows)

sent_alone : (depth slots : ℕ) (op : TOp) (rows : List Row) → is_stateful op ≡ true → 1 ≤ depth → length rows ≤ 1 → (stepped depth slots (op_at 0 op) (starting rows)).sent ≡ 0
sent_alone depth slots (ops.Filter conds) rows is some one = absurd cc
sent_alone depth slots (ops.Map exprs) rows is some one = absurd cc
sent_alone depth slots ops.Distinct rows is some one =
    ap (λ (keys : List Row). 0 + length (filter (λ row. not (has_home depth slots keys row)) rows)) (sym (same_keys rows)) ∙ over_alone depth slots (λ row. row) rows some one
sent_alone depth slots (ops.Reduce r) rows is some one = over_alone depth slots (key_of (grouping_of r)) rows some one

none_alone : (depth : ℕ) (slots : List ℕ) (op : TOp) (rows : List Row) → is_stateful op ≡ true → 1 ≤ depth → length rows ≤ 1 → AllByRecursion (λ (f : Flow). f.sent ≡ 0) (by_size depth slots op (starting rows))
none_alone depth [] op rows is some one = tt
none_alone depth (size ∷ slots) op rows is some one = (sent_alone depth size op rows is some one, none_alone depth slots op rows is some one)

pub once_alone : (op : TOp) (rows : List Row) → op ≡ ops.Distinct → length rows ≤ 1 → rows ≡ apply (op_at 0 op) rows
once_alone op [] is one = ap (λ o. apply (op_at 0 o) []) (sym is)
once_alone op (row ∷ []) is one = ap (λ o. apply (op_at 0 o) (row ∷ [])) (sym is)
once_alone op (row ∷ other ∷ rows) is one = absurd (omega (arith, one))

-- ---- after an operator

-- a filter or a map leaves the same rows
pub same_passed : (depth level : ℕ) (slots : List ℕ) (op : TOp) (rows next : List Row) (more : ℕ) → is_stateful op ≡ false → next ≡ apply (op_at level op) rows
    → starting next ∷ replicate more (starting next) ≡ wider depth level slots op (starting rows ∷ replicate more (starting rows))
same_passed depth level slots (ops.Filter conds) rows next more isnt is =
    ap (λ (xs : List Row). replicate (suc more) (starting xs)) is ∙ sym (map_same (stepped depth 0 (op_at level (ops.Filter conds))) (suc more) (starting rows))
same_passed depth level slots (ops.Map exprs) rows next more isnt is =
    ap (λ (xs : List Row). replicate (suc more) (starting xs)) is ∙ sym (map_same (stepped depth 0 (op_at level (ops.Map exprs))) (suc more) (starting rows))
same_passed depth level slots ops.Distinct rows next more isnt is = absurd cc
same_passed depth level slots (ops.Reduce r) rows next more isnt is = absurd cc

-- and so do registers where nothing overflows
held : (depth : ℕ) (slots : List ℕ) (op : TOp) (rows all : List Row) (more after : ℕ) → is_stateful op ≡ true → AllByRecursion (λ (f : Flow). f.sent ≡ 0) (by_size depth slots op (starting rows))
    → all ≡ apply (op_at 0 op) rows → suc after ≡ suc more * length slots → starting all ∷ replicate after (starting all) ≡ wider depth 0 slots op (starting rows ∷ replicate more (starting rows))
held depth slots op rows all more after stateful none gives count =
    let first : Flow = starting rows in
    ap (λ (xs : List Row). replicate (suc after) (starting xs)) gives
    ∙ ap (λ n. replicate n (starting (apply (op_at 0 op) rows))) count
    ∙ sym (flat_same (by_size depth slots op) (length slots) (suc more) first (starting (apply (op_at 0 op) rows)) (sizes_same depth slots op rows stateful none))
    ∙ wide_sizes depth 0 slots op (replicate (suc more) first) stateful

pub one_held : (depth : ℕ) (slots : List ℕ) (op : TOp) (rows all : List Row) (more after : ℕ) → is_stateful op ≡ true → 1 ≤ depth → length rows ≤ 1 → all ≡ apply (op_at 0 op) rows → suc after ≡ suc more * length slots
    → starting all ∷ replicate after (starting all) ≡ wider depth 0 slots op (starting rows ∷ replicate more (starting rows))
one_held depth slots op rows all more after stateful some one gives count = held depth slots op rows all more after stateful (none_alone depth slots op rows stateful some one) gives count

pub same_held : (depth : ℕ) (slots : List ℕ) (op : TOp) (rows all : List Row) (more after : ℕ) (flows : List Flow) → is_stateful op ≡ true → all ≡ apply (op_at 0 op) rows
    → flows ≡ by_size depth slots op (starting rows) → list_all (λ (f : Flow). nat_eq f.sent 0) flows ≡ true → suc after ≡ suc more * length flows
    → starting all ∷ replicate after (starting all) ≡ wider depth 0 slots op (starting rows ∷ replicate more (starting rows))
same_held depth slots op rows all more after flows stateful gives are none count =
    let long : length flows ≡ length slots = ap length are ∙ length-map slots (λ size. stepped depth size (op_at 0 op) (starting rows)) in
    held depth slots op rows all more after stateful
    (none_of (by_size depth slots op (starting rows)) (sym (ap (list_all (λ (f : Flow). nat_eq f.sent 0)) are) ∙ none)) gives
    (count ∙ ap (λ n. suc more * n) long)

pub wide_levels : (depth level : ℕ) (slots : List ℕ) (op : TOp) (fs : List Flow) → is_stateful op ≡ true → wider depth 0 slots op fs ≡ wider depth level slots op fs
wide_levels depth level slots (ops.Filter conds) fs is = absurd cc
wide_levels depth level slots (ops.Map exprs) fs is = absurd cc
wide_levels depth level slots ops.Distinct fs is = refl
wide_levels depth level slots (ops.Reduce r) fs is = refl

-- ---- counts

count_same : (rows : List Row) (n : ℕ) → replicate n (length rows) ≡ map counted (replicate n (starting rows))
count_same rows zero = refl
count_same rows (suc n) = ap (λ c. c ∷ replicate n (length rows)) (sym (zero-add (length rows))) ∙ ap (λ cs. counted (starting rows) ∷ cs) (count_same rows n)

pub counted_same : (rows : List Row) (more : ℕ) (old mid new : List ℕ) → mid ≡ old ++ length rows ∷ [] → new ≡ mid ++ replicate more (length rows) → new ≡ old ++ map counted (starting rows ∷ replicate more (starting rows))
counted_same rows more old mid new first is =
    is ∙ ap (λ cs. cs ++ replicate more (length rows)) first ∙ append_assoc old (length rows ∷ []) (replicate more (length rows)) ∙ ap (λ cs. old ++ cs) (count_same rows (suc more))

-- ---- answers

pub on_ok : {A E : Type 0} (r : Result A E) (P Q : Type 0) → (P → Q) → OnOk r P → OnOk r Q
on_ok (Ok x) P Q f h = f h
on_ok (Err e) P Q f h = tt
