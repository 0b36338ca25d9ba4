-- Lists of rows that are alike make the same counts.
use Rattle.std.proofs.Common.{◌≡◌, ℕ, ◌+◌, ◌≤◌, ◌||◌, nat_lt, List, [], ◌∷◌, ◌++◌, map, filter, take, drop, length, slice_index, Bool, true, false, not, cond, ◌&&◌, ◌==◌, Option, None, Some, refl, ap, sym, subst, ◌∙◌}
use Rattle.std.specs.FinSet as set
use Rattle.std.specs.List.{AllByRecursion, list_all, list_any}
use Rattle.std.specs.Cmp.Lexicographic.{nat_list_eq_equiv}
use Rattle.std.proofs.lemmas.Bool.{false≢true}
use Rattle.std.proofs.lemmas.List.Elements.{recursion_from_All}
use Rattle.sn_base.specs.AnyFold.{any_has, any_laws, any_unit}
use Rattle.sn_base.specs.Bags.{SameBag}
use Rattle.sn_base.specs.Groups.{Row, once, same_row, values_at}
use Rattle.sn_base.specs.Mask.{masked}
use Rattle.sn_base.specs.Operators.{Grouping, apply, key_of, pair_of, row_for, through}
use Rattle.sn_base.specs.Operators.Op.{Reduce}
use Rattle.sn_base.proofs.BagLemmas.{bag_filter, bag_map, fold_bag}
use Rattle.sn_base.proofs.FoldedLemmas.{same_row_exact}
use Rattle.sn_base.proofs.GroupLemmas.{AllHad}
use Rattle.sn_base.proofs.Lists.{all_filter, all_map, all_weaker, by_test, filter_map, filter_same, filter_within, map_agree, map_both, nat_same}
use Rattle.sn_base.proofs.OnceLemmas.{once_filter}
use Rattle.sn_chain.specs.Chain.{has_home}
use Rattle.sn_cost_seats.specs.Ways.{AreStateless}
use Rattle.sn_cost_seats.proofs.Tallying.{same_homes}
use Rattle.sn_fields.specs.declared.field.Field.{Field}
use Rattle.sn_fields.specs.Fields.{number_of, width_of}
use Rattle.sn_ops.specs.declared.packets.Kept.{Kept}
use Rattle.sn_ops.specs.Flow.{Fits, grouping_of}
use Rattle.sn_ops.specs.Packets.{is_kept}
use Rattle.sn_plan_choices.specs.Options.{Setting}
use Rattle.sn_types.specs.declared.typed_op.TOp.{TOp}
use Rattle.sn_types.specs.declared.typed_op.TOp.TheVariants as ops
use Rattle.sn_types.specs.declared.typed_op.TReduce.{TReduce}
use Rattle.sn_types.specs.declared.typed_query.TypedBranch.{TypedBranch}
use Rattle.sn_types.specs.Cuts.{greatest_cut, is_stateful}
use Rattle.sn_types.specs.Typed.{is_field, packet_row, read_at}
use Rattle.sn_types.specs.Values.{holds, op_at, value_of}
use Rattle.sn_cost_counts.specs.Alike.{Alike, reads_refined}
use Rattle.sn_cost_counts.specs.AnyFlow.{Flow}
use Rattle.sn_cost_counts.specs.Counts.{counts_of}
use Rattle.sn_cost_counts.specs.Fitting.{Takes}
use Rattle.sn_cost_counts.specs.Flows.{counted, first_rows, held_rows, over_distinct, over_reduce, run, starting}
use Rattle.sn_cost_counts.specs.Settings.{settings}
use Rattle.sn_cost_counts.proofs.Branching.{all_counts, takes_front}
use Rattle.sn_cost_counts.proofs.Counting.{bag_long}
use Rattle.sn_cost_counts.proofs.Orders.{counts_are}
use Rattle.sn_cost_counts.proofs.Settling.{distinct_flow, grouped_is, reduce_flow}

-- ---- lists that are alike

-- what passes a test is alike
pub alike_filter : (t : Row → Bool) (xs ys : List Row) → Alike xs ys → Alike (filter t xs) (filter t ys)
alike_filter t xs ys a = record {
  bag = bag_filter t xs ys a.bag;
  firsts = once_filter nat_list_eq_equiv same_row_exact t xs ∙ ap (filter t) a.firsts ∙ sym (once_filter nat_list_eq_equiv same_row_exact t ys);
}

-- distinct rows of a map are those of the map of distinct rows
pub once_mapped : (f : Row → Row) (xs : List Row) → once same_row (map f xs) ≡ once same_row (map f (once same_row xs))
once_mapped f [] = refl
once_mapped f (x ∷ xs) =
    let ks : List Row = once same_row xs in
    let far : Row → Bool = λ y. not (same_row x y) in
    let other : Row → Bool = λ y. not (same_row (f x) y) in
    let within : (y : Row) → other (f y) ≡ true → far y ≡ true = λ y passes.
    by_test (same_row x y)
    (λ is. absurd (false≢true (sym (ap not (ap (λ z. same_row (f x) (f z)) (sym (same_row_exact x y is)) ∙ nat_list_eq_equiv.refl (f x))) ∙ passes)))
    (λ isnt. ap not isnt) in
    ap (λ zs. f x ∷ zs)
    (ap (filter other) (once_mapped f xs)
    ∙ sym (once_filter nat_list_eq_equiv same_row_exact other (map f ks))
    ∙ ap (once same_row)
    (sym (filter_map f other ks)
    ∙ ap (map f) (sym (filter_within (λ y. other (f y)) far within ks))
    ∙ filter_map f other (filter far ks))
    ∙ once_filter nat_list_eq_equiv same_row_exact other (map f (filter far ks)))

-- maps of them are alike
pub alike_map : (f : Row → Row) (xs ys : List Row) → Alike xs ys → Alike (map f xs) (map f ys)
alike_map f xs ys a = record {
  bag = bag_map f xs ys a.bag;
  firsts = once_mapped f xs ∙ ap (λ ks. once same_row (map f ks)) a.firsts ∙ sym (once_mapped f ys);
}

-- ---- registers

-- the same keys reside
pub homes_alike : (depth slots : ℕ) (xs ys : List Row) → Alike xs ys → has_home depth slots xs ≡ has_home depth slots ys
homes_alike depth slots xs ys a = sym (same_homes depth slots xs) ∙ ap {B = Row → Bool} (λ (ks : List Row) (key : Row). has_home depth slots ks key) a.firsts ∙ same_homes depth slots ys

-- as many rows overflow, by the key of each
pub over_alike : (depth slots : ℕ) (key : Row → Row) (xs ys : List Row) → Alike xs ys
    → length (filter (λ row. not (has_home depth slots (map key xs) (key row))) xs) ≡ length (filter (λ row. not (has_home depth slots (map key ys) (key row))) ys)
over_alike depth slots key xs ys a =
    let t : Row → Bool = λ row. not (has_home depth slots (map key xs) (key row)) in
    bag_long (filter t xs) (filter t ys) (bag_filter t xs ys a.bag)
    ∙ ap (λ (h : Row → Bool). length (filter (λ row. not (h (key row))) ys)) (homes_alike depth slots (map key xs) (map key ys) (alike_map key xs ys a))

-- ---- a distinct

module _ (depth slots : ℕ) (xs ys : List Row) (a : Alike xs ys) where
  -- as many rows overflow
  pub over_same : length (over_distinct depth slots xs) ≡ length (over_distinct depth slots ys)
  over_same =
      let t : Row → Bool = λ row. not (has_home depth slots xs row) in
      bag_long (filter t xs) (filter t ys) (bag_filter t xs ys a.bag) ∙ ap (λ (h : Row → Bool). length (filter (λ row. not (h row)) ys)) (homes_alike depth slots xs ys a)

  -- the same rows flow
  pub firsts_same : first_rows depth slots xs ≡ first_rows depth slots ys
  firsts_same =
      (alike_filter (λ row. has_home depth slots xs row) xs ys a).firsts
      ∙ ap (λ (h : Row → Bool). once same_row (filter (λ row. h row) ys)) (homes_alike depth slots xs ys a)

-- ---- a reduce

-- the values of rows are the fold's
pub reduce_had : (level : ℕ) (r : TReduce) (os : List TOp) (rows : List Row) → AllByRecursion (Takes level (ops.Reduce r ∷ os)) rows → AllHad (grouping_of r) (map (pair_of (grouping_of r)) rows)
reduce_had level r os rows h =
    all_map (λ (p : Row × ℕ). any_has r.fold p.1) (pair_of (grouping_of r)) rows
    (all_weaker (Takes level (ops.Reduce r ∷ os)) (λ row. any_has r.fold (slice_index row r.value)) (λ row t. let first : Fits (ops.Reduce r) (row ∷ []) = t.0 in (recursion_from_All (λ (x : Row). any_has r.fold (slice_index x r.value)) (row ∷ []) first.had).0) rows h)

-- a key has the same row in bags of pairs that are the same
pub row_same : (g : Grouping) (ps qs : List (Row × ℕ)) (key : Row) → SameBag ps qs → AllHad g ps → row_for g ps key ≡ row_for g qs key
row_same g ps qs key b had =
    let L = any_laws g.by in
    let at : Row × ℕ → Bool = λ p. same_row key p.0 in
    ap (λ (n : ℕ). key ++ n ∷ [])
    (fold_bag L (values_at same_row key ps) (values_at same_row key qs)
    (bag_map (λ (p : Row × ℕ). p.1) (filter at ps) (filter at qs) (bag_filter at ps qs b))
    (any_unit g.by) L.unit_had
    (all_map (any_has g.by) (λ (p : Row × ℕ). p.1) (filter at ps) (all_filter (λ (p : Row × ℕ). any_has g.by p.1) at ps had)))

module _ (depth slots : ℕ) (g : Grouping) (xs ys : List Row) (a : Alike xs ys) where
  rows_same : (keys : List Row) → AllHad g (map (pair_of g) xs) → map (row_for g (map (pair_of g) xs)) keys ≡ map (row_for g (map (pair_of g) ys)) keys
  rows_same keys had =
      map_agree (row_for g (map (pair_of g) xs)) (row_for g (map (pair_of g) ys)) (λ key. row_same g (map (pair_of g) xs) (map (pair_of g) ys) key (bag_map (pair_of g) xs ys a.bag) had) keys

  -- the same rows are held
  pub held_same : AllHad g (map (pair_of g) xs) → held_rows depth slots g xs ≡ held_rows depth slots g ys
  held_same had =
      let keys : Alike (map (key_of g) xs) (map (key_of g) ys) = alike_map (key_of g) xs ys a in
      rows_same (filter (has_home depth slots (map (key_of g) xs)) (once same_row (map (key_of g) xs))) had
      ∙ ap (λ (h : Row → Bool). map (row_for g (map (pair_of g) ys)) (filter h (once same_row (map (key_of g) xs)))) (homes_alike depth slots (map (key_of g) xs) (map (key_of g) ys) keys)
      ∙ ap (λ ks. map (row_for g (map (pair_of g) ys)) (filter (has_home depth slots (map (key_of g) ys)) ks)) keys.firsts

  -- and the same come of all keys
  pub grouped_same : AllHad g (map (pair_of g) xs) → apply (Reduce g) xs ≡ apply (Reduce g) ys
  grouped_same had =
      grouped_is depth slots g xs
      ∙ rows_same (once same_row (map (key_of g) xs)) had
      ∙ ap (map (row_for g (map (pair_of g) ys))) (alike_map (key_of g) xs ys a).firsts
      ∙ sym (grouped_is depth slots g ys)

-- ---- operators one after another

abbrev flow_of : ℕ → List Row → Bool → Bool → Flow
flow_of sent rows spilled whole = record { sent = sent; rows = rows; spilled = spilled; whole = whole }

-- they make as many items
pub run_alike : (depth level : ℕ) (os : List TOp) (sizes : List ℕ) (n : ℕ) (spilled whole : Bool) (xs ys : List Row) → AllByRecursion (Takes level os) xs → Alike xs ys
    → counted (run depth level os sizes (flow_of n xs spilled whole)) ≡ counted (run depth level os sizes (flow_of n ys spilled whole))
run_alike depth level [] sizes n spilled whole xs ys h a = ap (λ m. n + m) (bag_long xs ys a.bag)
run_alike depth level (ops.Filter conds ∷ os) sizes n spilled whole xs ys h a =
    let t : Row → Bool = λ row. list_all (λ c. holds level c row) conds in
    let on : AllByRecursion (Takes level os) xs = all_weaker (Takes level (ops.Filter conds ∷ os)) (Takes level os) (λ row x. x.1) xs h in
    (elim whole as (λ b. counted (run depth level os sizes (cond b (flow_of n xs spilled b) (flow_of n (filter t xs) spilled b))) ≡ counted (run depth level os sizes (cond b (flow_of n ys spilled b) (flow_of n (filter t ys) spilled b)))) [
      | true ↦ run_alike depth level os sizes n spilled true xs ys on a
      | false ↦ run_alike depth level os sizes n spilled false (filter t xs) (filter t ys) (all_filter (Takes level os) t xs on) (alike_filter t xs ys a)
    ])
run_alike depth level (ops.Map exprs ∷ os) sizes n spilled whole xs ys h a =
    let f : Row → Row = λ row. map (λ e. value_of e row) exprs in
    run_alike depth level os sizes n spilled whole (map f xs) (map f ys)
    (all_map (Takes level os) f xs (all_weaker (Takes level (ops.Map exprs ∷ os)) (λ row. Takes level os (f row)) (λ row x. x.1) xs h)) (alike_map f xs ys a)
run_alike depth level (ops.Distinct ∷ os) sizes n spilled whole xs ys h a =
    let slots : ℕ = slice_index sizes 0 in
    let over : ℕ = length (over_distinct depth slots xs) in
    ap (λ (f : Flow). counted (run depth level os (drop 1 sizes) f))
    (distinct_flow depth slots (flow_of n ys spilled whole) over (first_rows depth slots xs) (spilled || nat_lt 0 over) (over_same depth slots xs ys a) (firsts_same depth slots xs ys a) refl)
run_alike depth level (ops.Reduce r ∷ os) sizes n spilled whole xs ys h a =
    let slots : ℕ = slice_index sizes 0 in
    let g : Grouping = grouping_of r in
    ap (λ (f : Flow). counted (run depth level os (drop 1 sizes) f))
    (reduce_flow depth slots g (flow_of n ys spilled whole) (length (over_reduce depth slots g xs)) (held_rows depth slots g xs)
    (over_alike depth slots (key_of g) xs ys a) (held_same depth slots g xs ys a (reduce_had level r os xs h)))

-- a distinct or a reduce gives the same rows
pub apply_alike : (level : ℕ) (op : TOp) (os : List TOp) (xs ys : List Row) → is_stateful op ≡ true → AllByRecursion (Takes level (op ∷ os)) xs → Alike xs ys → apply (op_at level op) xs ≡ apply (op_at level op) ys
apply_alike level (ops.Filter conds) os xs ys is h a = absurd (false≢true is)
apply_alike level (ops.Map exprs) os xs ys is h a = absurd (false≢true is)
apply_alike level ops.Distinct os xs ys is h a = a.firsts
apply_alike level (ops.Reduce r) os xs ys is h a = grouped_same 0 0 (grouping_of r) xs ys a (reduce_had level r os xs h)

-- and so do operators with one of them
pub through_alike : (level : ℕ) (os : List TOp) (xs ys : List Row) → list_any is_stateful os ≡ true → AllByRecursion (Takes level os) xs → Alike xs ys → through (map (op_at level) os) xs ≡ through (map (op_at level) os) ys
through_alike level [] xs ys is h a = absurd (false≢true is)
through_alike level (ops.Filter conds ∷ os) xs ys is h a =
    let t : Row → Bool = λ row. list_all (λ c. holds level c row) conds in
    through_alike level os (filter t xs) (filter t ys) is (all_filter (Takes level os) t xs (all_weaker (Takes level (ops.Filter conds ∷ os)) (Takes level os) (λ row x. x.1) xs h)) (alike_filter t xs ys a)
through_alike level (ops.Map exprs ∷ os) xs ys is h a =
    let f : Row → Row = λ row. map (λ e. value_of e row) exprs in
    through_alike level os (map f xs) (map f ys) is (all_map (Takes level os) f xs (all_weaker (Takes level (ops.Map exprs ∷ os)) (λ row. Takes level os (f row)) (λ row x. x.1) xs h)) (alike_map f xs ys a)
through_alike level (ops.Distinct ∷ os) xs ys is h a = ap (through (map (op_at level) os)) (apply_alike level ops.Distinct os xs ys refl h a)
through_alike level (ops.Reduce r ∷ os) xs ys is h a = ap (through (map (op_at level) os)) (apply_alike level (ops.Reduce r) os xs ys refl h a)

-- filters and maps give rows that are alike
pub through_alikes : (level : ℕ) (os : List TOp) (xs ys : List Row) → AreStateless (map (op_at level) os) → Alike xs ys → Alike (through (map (op_at level) os) xs) (through (map (op_at level) os) ys)
through_alikes level [] xs ys s a = a
through_alikes level (ops.Filter conds ∷ os) xs ys s a = let t : Row → Bool = λ row. list_all (λ c. holds level c row) conds in through_alikes level os (filter t xs) (filter t ys) s (alike_filter t xs ys a)
through_alikes level (ops.Map exprs ∷ os) xs ys s a = let f : Row → Row = λ row. map (λ e. value_of e row) exprs in through_alikes level os (map f xs) (map f ys) s (alike_map f xs ys a)
through_alikes level (ops.Distinct ∷ os) xs ys s a = absurd s
through_alikes level (ops.Reduce r ∷ os) xs ys s a = absurd s

-- ---- all settings

-- the counts of a branch are the same
pub counts_alike : (depth level : ℕ) (slots : List ℕ) (branch : TypedBranch) (xs ys : List Row) → branch.max_cut ≤ greatest_cut branch.ops → length (take branch.max_cut branch.ops) ≡ branch.max_cut
    → AllByRecursion (Takes level (take branch.max_cut branch.ops)) xs → Alike xs ys → counts_of branch level depth slots xs ≡ counts_of branch level depth slots ys
counts_alike depth level slots branch xs ys most long h a =
    let front : List TOp = take branch.max_cut branch.ops in
    let of_rows : List Row → Setting → ℕ = λ rows o. counted (run depth level (take o.0 front) o.1 (starting rows)) in
    sym (all_counts depth level slots branch xs most long)
    ∙ counts_are depth level slots front (starting xs)
    ∙ map_agree (of_rows xs) (of_rows ys) (λ o. run_alike depth level (take o.0 front) o.1 0 false false xs ys (all_weaker (Takes level front) (Takes level (take o.0 front)) (takes_front level o.0 front) xs h) a) (settings slots (length front) front)
    ∙ sym (counts_are depth level slots front (starting ys))
    ∙ all_counts depth level slots branch ys most long

-- ---- packet rows

-- the column of a field in a row of these fields' numbers
abbrev column_at : Field → List Field → Row → ℕ
column_at field [] row = 0
column_at field (f ∷ fields) [] = 0
column_at field (f ∷ fields) (n ∷ row) = cond (number_of f == number_of field) n (column_at field fields row)

column_is : (field : Field) (fields : List Field) (tuple : List ℕ) → list_any (λ f. number_of f == number_of field) fields ≡ true → column_at field fields (packet_row None 0 fields tuple) ≡ slice_index tuple (number_of field)
column_is field [] tuple among = absurd (false≢true among)
column_is field (f ∷ fields) tuple among =
    let number : ℕ = slice_index tuple (number_of f) in
    let rest : ℕ = column_at field fields (packet_row None 0 fields tuple) in
    by_test (number_of f == number_of field)
    (λ is. ap (λ b. cond b number rest) is ∙ ap (slice_index tuple) (nat_same (number_of f) (number_of field) is))
    (λ isnt. ap (λ b. cond b number rest) isnt ∙ column_is field fields tuple (sym (ap (λ b. b || list_any (λ g. number_of g == number_of field) fields) isnt) ∙ among))

-- a row whose refinement field is masked
abbrev masked_row : Option Field → ℕ → List Field → Row → Row
masked_row refined level [] row = []
masked_row refined level (f ∷ fields) [] = []
masked_row refined level (f ∷ fields) (n ∷ row) = cond (not (level == 0) && is_field refined f) (masked (width_of f) level n) n ∷ masked_row refined level fields row

masked_is : (refined : Option Field) (level : ℕ) (fields : List Field) (tuple : List ℕ) → packet_row refined level fields tuple ≡ masked_row refined level fields (packet_row None 0 fields tuple)
masked_is refined level [] tuple = refl
masked_is refined level (f ∷ fields) tuple = ap (λ row. read_at refined level tuple f ∷ row) (masked_is refined level fields tuple)

-- whether the tuple of a row is kept
abbrev row_kept : Option Field → Option Kept → List Field → Row → Bool
row_kept refined None fields row = true
row_kept None (Some kept) fields row = false
row_kept (Some field) (Some kept) fields row = set.contains kept.members.now (masked (width_of field) kept.bits (column_at field fields row))

kept_is : (refined : Option Field) (kept : Option Kept) (fields : List Field) → reads_refined refined fields ≡ true → (tuple : List ℕ) → is_kept refined kept tuple ≡ row_kept refined kept fields (packet_row None 0 fields tuple)
kept_is refined None fields among tuple = refl
kept_is None (Some kept) fields among tuple = refl
kept_is (Some field) (Some kept) fields among tuple = ap (λ (n : ℕ). set.contains kept.members.now (masked (width_of field) kept.bits n)) (sym (column_is field fields tuple among))

-- where the whole rows of tuples are alike, so are their packet rows
pub packets_alike : (refined : Option Field) (level : ℕ) (fields : List Field) (kept : Option Kept) (ts us : List (List ℕ)) → reads_refined refined fields ≡ true → Alike (map (packet_row None 0 fields) ts) (map (packet_row None 0 fields) us)
    → Alike (map (packet_row refined level fields) (filter (is_kept refined kept) ts)) (map (packet_row refined level fields) (filter (is_kept refined kept) us))
packets_alike refined level fields kept ts us among a =
    let whole : List ℕ → Row = packet_row None 0 fields in
    let mask : Row → Row = masked_row refined level fields in
    let keep : Row → Bool = row_kept refined kept fields in
    let by_rows : (vs : List (List ℕ)) → map mask (filter keep (map whole vs)) ≡ map (packet_row refined level fields) (filter (is_kept refined kept) vs) = λ vs.
    sym
    (map_agree (packet_row refined level fields) (λ tuple. mask (whole tuple)) (masked_is refined level fields) (filter (is_kept refined kept) vs)
    ∙ sym (map_both whole mask (filter (is_kept refined kept) vs))
    ∙ ap (λ xs. map mask (map whole xs)) (filter_same (is_kept refined kept) (λ tuple. keep (whole tuple)) (kept_is refined kept fields among) vs)
    ∙ ap (map mask) (filter_map whole keep vs)) in
    subst (λ rows. Alike rows (map (packet_row refined level fields) (filter (is_kept refined kept) us))) (by_rows ts)
    (subst (Alike (map mask (filter keep (map whole ts)))) (by_rows us)
    (alike_map mask (filter keep (map whole ts)) (filter keep (map whole us)) (alike_filter keep (map whole ts) (map whole us) a)))
