-- The items of a branch's prefix have its tags and its columns.
use Rattle.std.proofs.Common.{◌≡◌, ℕ, zero, suc, ◌+◌, ◌<◌, ◌≤◌, List, [], ◌∷◌, map, take, length, Bool, true, false, cond, ◌||◌, ◌==◌, nat_lt, Option, Some, slice_get, refl, ap, sym, subst, ◌∙◌, arith, zero-add}
use Rattle.std.specs.List.{AllByRecursion, AllByRecursion-prop, list_any}
use Rattle.std.specs.Option.{option_map_or}
use Rattle.std.specs.Cmp.Lexicographic.{nat_list_eq_equiv}
use Rattle.std.proofs.Math.Bool.{Bool-set}
use Rattle.std.proofs.Math.Logic.{∥∥₁_elim}
use Rattle.std.proofs.lemmas.Bool.{and_from, lt-ltb}
use Rattle.sn_base.specs.Columns.{IsOf}
use Rattle.sn_base.specs.Groups.{Row, once, same_row}
use Rattle.sn_base.specs.Operators.Op.{Reduce as Grouped}
use Rattle.sn_base.specs.Operators.{Grouping, Op as Acting, grouped, key_of, pair_of, row_for}
use Rattle.sn_base.specs.declared.column.Column.{Column}
use Rattle.sn_base.proofs.BagLemmas.{all_bag}
use Rattle.sn_base.proofs.FoldedLemmas.{same_row_exact}
use Rattle.sn_base.proofs.Lists.{all_append, all_filter, all_map, any_push, map_both, nat_self, or_left, or_right, or_true, take_one, all_unmap}
use Rattle.sn_base.proofs.OnceLemmas.{all_once, any_once}
use Rattle.sn_chain.specs.Homes.{homes_by_place}
use Rattle.sn_chain.proofs.HomeLemmas.{homes_known}
use Rattle.sn_query_grammar.specs.declared.ast.Op.{Op}
use Rattle.sn_query_grammar.specs.declared.ast.What.{What}
use Rattle.sn_query_grammar.specs.declared.ast.What.TheVariants as what
use Rattle.sn_types_faults.specs.Columns.{columns_after, packet_columns}
use Rattle.sn_report.specs.Items.{Item}
use Rattle.sn_report.specs.declared.frame.Tag.{Tag}
use Rattle.sn_report.specs.declared.frame.Tag.TheVariants.{At, Partial}
use Rattle.sn_pipe_items.specs.Items.{held, items, tagged}
use Rattle.sn_pipe_items.proofs.Bagged.{bagged, items_from, over_distinct, over_reduce, some_row}
use Rattle.sn_pipe_items.proofs.Homes.{all_members, member}
use Rattle.sn_pipe_items.proofs.OrderLemmas.{items_bag}
use Rattle.sn_ops.specs.Packets.{packet_rows}
use Rattle.sn_ops.specs.declared.packets.Kept.{Kept}
use Rattle.sn_ops.proofs.Branches.{packets_of}
use Rattle.sn_engine_split.specs.Branches.{IsItemOf, branch_items, is_distinct, is_reduce, is_tag_of, tag_columns}
use Rattle.sn_engine_split.proofs.Cuts.{cut_within}
use Rattle.sn_engine_split.proofs.Typed.{cut_of}
use Rattle.sn_engine_split.proofs.TypedItems.{grouping}
use Rattle.sn_types.specs.Cuts.{is_stateful, size_at}
use Rattle.sn_types.specs.declared.typed_op.TOp.{TOp}
use Rattle.sn_types.specs.declared.typed_op.TOp.TheVariants as ops
use Rattle.sn_types.specs.declared.typed_query.TypedBranch.{TypedBranch}
use Rattle.sn_types.specs.declared.typed_query.TypedQuery.{TypedQuery}
use Rattle.sn_types.specs.Typed.{HasWidths, IsTyped, branch_at, first_columns, query_at, schema_at}
use Rattle.sn_types.specs.Typing.{schemas_along, typed_op, typed_ops}
use Rattle.sn_types.specs.Values.{op_at}
use Rattle.sn_types.proofs.Facts.{branch_source_of, few_packet_fields, length-typed_ops}
use Rattle.sn_types.proofs.RowsAfter.{AreOf, of_prop, rows_after}
use Rattle.sn_types.proofs.Schemas.{IsSchema, packet_schema, schema_after}
use Rattle.sn_types.proofs.Sound.{AreSound, IsSound, sound_branch}
use Rattle.sn_types.proofs.TypedRows.{first_along}
use Rattle.sn_pipe.proofs.Fronts as fronts

-- ---- the keys that a reduce holds are keys that came

-- where all rows that a reduce gives are such, those are that it holds
held_such : (P : Row → Type 0) (depth : ℕ) (size : ℕ → ℕ) (i : ℕ) (g : Grouping) (flow : List Row) → AllByRecursion P (grouped g (map (pair_of g) flow)) → AllByRecursion P (held depth size i g flow)
held_such P depth size i g flow h =
    let pairs = map (pair_of g) flow in
    let keys : List Row = map (λ (p : Row × ℕ). p.0) pairs in
    let same : keys ≡ map (key_of g) flow = map_both (pair_of g) (λ (p : Row × ℕ). p.0) flow in
    let homes : List Row = homes_by_place depth (size i) (map (key_of g) flow) in
    let each = all_unmap P (row_for g pairs) (once same_row keys) h in
    all_map P (row_for g pairs) homes (all_members (λ k. P (row_for g pairs k)) homes (λ k is.
    member (λ k. P (row_for g pairs k)) k (once same_row keys) each
    (any_once nat_list_eq_equiv same_row_exact k keys ∙ ap (list_any (same_row k)) same ∙ homes_known depth (size i) (map (key_of g) flow) k is)))

module _ (depth : ℕ) (size : ℕ → ℕ) (level : ℕ) (schemas : List (List Column)) (all : List TOp) (cut : ℕ) where
  abbrev Good : Item → Type 0
  Good item = IsOf (tag_columns schemas item.tag) item.row × (is_tag_of all cut item.tag ≡ true)

  tagged_good : (tag : Tag) (columns : List Column) (flow : List Row) → tag_columns schemas tag ≡ columns → is_tag_of all cut tag ≡ true → AreOf columns flow → AllByRecursion Good (tagged tag flow)
  tagged_good tag columns [] same is of = tt
  tagged_good tag columns (row ∷ flow) same is of = ((subst (λ cs. IsOf cs row) (sym same) of.0, is), tagged_good tag columns flow same is of.1)

  -- ---- tags

  end_tag : (i : ℕ) → i ≡ cut → is_tag_of all cut (At i) ≡ true
  end_tag i is = or_left (i == cut) _ (subst (λ n. (n == cut) ≡ true) (sym is) (nat_self cut))

  at_tag : (i : ℕ) (op : TOp) → i < cut → slice_get all i ≡ Some op → is_stateful op ≡ true → is_tag_of all cut (At i) ≡ true
  at_tag i op lt e is = or_right (i == cut) _ (and_from (nat_lt i cut) _ (lt-ltb i cut lt) (ap (λ o. option_map_or is_stateful o false) e ∙ is))

  partial_tag : (i : ℕ) (op : TOp) → i < cut → slice_get all i ≡ Some op → is_reduce op ≡ true → list_any is_distinct (take i all) ≡ true → is_tag_of all cut (Partial i) ≡ true
  partial_tag i op lt e is before = and_from _ _ (and_from (nat_lt i cut) _ (lt-ltb i cut lt) (ap (λ o. option_map_or is_reduce o false) e ∙ is)) before

  -- a distinct among the first n, and one more
  one_more : (i : ℕ) (op : TOp) → slice_get all i ≡ Some op → list_any is_distinct (take (suc i) all) ≡ (list_any is_distinct (take i all) || is_distinct op)
  one_more i op e =
      let next : suc i ≡ i + 1 = omega arith in
      ap (λ n. list_any is_distinct (take n all)) next ∙ ap (list_any is_distinct) (take_one all i op e) ∙ any_push is_distinct (take i all) op

  abbrev Noted : ℕ → Bool → Type 0
  Noted i spilled = spilled ≡ true → list_any is_distinct (take i all) ≡ true

  noted_on : (i : ℕ) (op : TOp) (spilled : Bool) → slice_get all i ≡ Some op → Noted i spilled → Noted (suc i) spilled
  noted_on i op spilled e note is = one_more i op e ∙ or_left (list_any is_distinct (take i all)) (is_distinct op) (note is)

  -- ---- one operator

  good_reduce : (i : ℕ) (spilled : Bool) (columns after : List Column) (top : TOp) (g : Grouping) (rest : List Acting) (flow : List Row) → schema_at schemas i ≡ columns → schema_at schemas (suc i) ≡ after
      → slice_get all i ≡ Some top → is_stateful top ≡ true → is_reduce top ≡ true → i < cut → Noted i spilled → AreOf columns flow → AreOf after (grouped g (map (pair_of g) flow))
      → (AreOf after (held depth size i g flow) → AllByRecursion Good (items_from depth size (suc i) spilled rest (held depth size i g flow)))
      → AllByRecursion Good (items_from depth size i spilled (Grouped g ∷ rest) flow)
  good_reduce i spilled columns after top g rest flow here there e stateful reduces lt note of whole onward =
      all_append Good (tagged (At i) (over_reduce depth size i g flow)) (cond spilled (tagged (Partial i) (held depth size i g flow)) (items_from depth size (suc i) spilled rest (held depth size i g flow)))
      (tagged_good (At i) columns (over_reduce depth size i g flow) here (at_tag i top lt e stateful) (all_filter (IsOf columns) _ flow of)) (by_note spilled refl)
    where
      by_note : (b : Bool) → spilled ≡ b → AllByRecursion Good (cond b (tagged (Partial i) (held depth size i g flow)) (items_from depth size (suc i) spilled rest (held depth size i g flow)))
      by_note true is = tagged_good (Partial i) after (held depth size i g flow) there (partial_tag i top lt e reduces (note is)) (held_such (IsOf after) depth size i g flow whole)
      by_note false is = onward (held_such (IsOf after) depth size i g flow whole)

  good_one : (i : ℕ) (spilled : Bool) (columns : List Column) (w : What) (rest : List Acting) (flow : List Row) → IsSchema columns → IsSound columns w → schema_at schemas i ≡ columns → schema_at schemas (suc i) ≡ columns_after columns w
      → slice_get all i ≡ Some (typed_op columns w) → i < cut → Noted i spilled → AreOf columns flow
      → ((after : Bool) (next : List Row) → Noted (suc i) after → AreOf (columns_after columns w) next → AllByRecursion Good (items_from depth size (suc i) after rest next))
      → AllByRecursion Good (items_from depth size i spilled (op_at level (typed_op columns w) ∷ rest) flow)
  good_one i spilled columns (what.Filter conds) rest flow h s here there e lt note of onward =
      onward spilled _ (noted_on i _ spilled e note) (rows_after level columns (what.Filter conds) flow h s of)
  good_one i spilled columns (what.Map cols) rest flow h s here there e lt note of onward =
      onward spilled _ (noted_on i _ spilled e note) (rows_after level columns (what.Map cols) flow h s of)
  good_one i spilled columns what.Distinct rest flow h s here there e lt note of onward =
      let over : List Row = over_distinct depth size i flow in
      all_append Good (tagged (At i) over) (items_from depth size (suc i) (spilled || some_row over) rest _)
      (tagged_good (At i) columns over here (at_tag i ops.Distinct lt e refl) (all_filter (IsOf columns) _ flow of))
      (onward (spilled || some_row over) _ (λ is. one_more i ops.Distinct e ∙ or_true (list_any is_distinct (take i all))) (all_once same_row (IsOf columns) _ (all_filter (IsOf columns) _ flow of)))
  good_one i spilled columns (what.Reduce r) rest flow h s here there e lt note of onward =
      good_reduce i spilled columns (columns_after columns (what.Reduce r)) (typed_op columns (what.Reduce r)) (grouping columns r) rest flow here there e refl refl lt note of (rows_after level columns (what.Reduce r) flow h s of)
      (λ is. onward spilled (held depth size i (grouping columns r) flow) (noted_on i _ spilled e note) is)

  -- ---- all operators of a prefix

  -- these operators stand from number i on, and this many of them before the cut
  record Here (i n : ℕ) (columns : List Column) (os : List Op) : Type 0 where
    schemas_here : (j : ℕ) → schema_at schemas (i + j) ≡ schema_at (schemas_along columns os) j
    operators_here : (j : ℕ) → slice_get all (i + j) ≡ slice_get (typed_ops columns os) j
    upto : i + n ≡ cut
    long : n ≤ length os

  here_next : (i n : ℕ) (columns : List Column) (op : Op) (os : List Op) → Here i (suc n) columns (op ∷ os) → Here (suc i) n (columns_after columns op.what) os
  here_next i n columns op os here = record {
    schemas_here = λ j. ap (schema_at schemas) (moved j) ∙ here.schemas_here (suc j);
    operators_here = λ j. ap (slice_get all) (moved j) ∙ here.operators_here (suc j);
    upto = let e = here.upto in omega (arith, e);
    long = let e = here.long in omega (arith, e);
  }
    where
      moved : (j : ℕ) → suc i + j ≡ i + suc j
      moved j = omega arith

  here_columns : (i n : ℕ) (columns : List Column) (os : List Op) → Here i n columns os → schema_at schemas i ≡ columns
  here_columns i n columns os here =
      let none : i ≡ i + 0 = omega arith in
      ap (schema_at schemas) none ∙ here.schemas_here 0 ∙ first_along columns os

  here_operator : (i n : ℕ) (columns : List Column) (op : Op) (os : List Op) → Here i (suc n) columns (op ∷ os) → slice_get all i ≡ Some (typed_op columns op.what)
  here_operator i n columns op os here =
      let none : i ≡ i + 0 = omega arith in
      ap (slice_get all) none ∙ here.operators_here 0

  good_along : (i n : ℕ) (spilled : Bool) (columns : List Column) (os : List Op) (flow : List Row) → IsSchema columns → AreSound columns os → Here i n columns os → Noted i spilled → AreOf columns flow
      → AllByRecursion Good (items_from depth size i spilled (take n (map (op_at level) (typed_ops columns os))) flow)
  good_along i zero spilled columns os flow h s here note of =
      let e = here.upto in
      let end : i ≡ cut = omega (arith, e) in
      tagged_good (At i) columns flow (here_columns i zero columns os here) (end_tag i end) of
  good_along i (suc n) spilled columns [] flow h s here note of = let long = here.long in absurd (omega (arith, long))
  good_along i (suc n) spilled columns (op ∷ os) flow h s here note of =
      let next = columns_after columns op.what in
      let later = here_next i n columns op os here in
      let e = here.upto in
      let lt : i < cut = omega (arith, e) in
      good_one i spilled columns op.what (take n (map (op_at level) (typed_ops next os))) flow h s.0 (here_columns i (suc n) columns (op ∷ os) here) (here_columns (suc i) n next os later) (here_operator i n columns op os here) lt note of
      (λ after rows noted is. good_along (suc i) n after next os rows (schema_after columns op.what h s.0) s.1 later noted is)

-- ---- a typed branch

-- an item has the columns of its tag, and a tag of the prefix
abbrev Sent : TypedBranch → ℕ → Item → Type 0
Sent branch cut item = IsItemOf branch item × (is_tag_of branch.ops cut item.tag ≡ true)

sent_prop : (branch : TypedBranch) (cut : ℕ) (item : Item) → IsProp (Sent branch cut item)
sent_prop branch cut item = hlevel (of_prop (tag_columns branch.schemas item.tag) item.row, Bool-set)

bagged_good : (window : ℕ) (queries : List TypedQuery) (q b level cut depth : ℕ) (size : ℕ → ℕ) (rows : List Row) → ∥ IsTyped window queries ∥₁ → q < length queries → b < length (query_at queries q).branches
    → cut ≤ length (branch_at queries q b).ops → AreOf (first_columns (branch_at queries q b)) rows → AllByRecursion (Sent (branch_at queries q b) cut) (bagged depth size cut (map (op_at level) (branch_at queries q b).ops) rows)
bagged_good window queries q b level cut depth size rows t lt within le of =
    ∥∥₁_elim t (AllByRecursion-prop (Sent (branch_at queries q b) cut) (sent_prop (branch_at queries q b) cut) (bagged depth size cut (map (op_at level) (branch_at queries q b).ops) rows)) (λ t.
    let s = branch_source_of window queries q b t lt within in
    let columns : List Column = packet_columns s.ops in
    let P : TypedBranch → Type 0 = λ x. cut ≤ length x.ops → AreOf (first_columns x) rows → AllByRecursion (Sent x cut) (bagged depth size cut (map (op_at level) x.ops) rows) in
    subst P (sym s.is)
    (λ long is. good_along depth size level (schemas_along columns s.ops) (typed_ops columns s.ops) cut 0 cut false columns s.ops rows
    (packet_schema s.ops (few_packet_fields s.refine s.ops s.no_fault)) (sound_branch s.refine s.ops s.each s.no_fault)
    (record {
      schemas_here = λ j. ap (schema_at (schemas_along columns s.ops)) (zero-add j);
      operators_here = λ j. ap (slice_get (typed_ops columns s.ops)) (zero-add j);
      upto = zero-add cut;
      long = let count = length-typed_ops columns s.ops in omega (arith, long, count);
    }) (λ no. cc) (subst (λ (cs : List Column). AreOf cs rows) (first_along columns s.ops) is)) le of)

pub items_sent : (window q b level cut depth : ℕ) (queries : List TypedQuery) (kept : Option Kept) (sizes : List ℕ) (tuples : List (List ℕ)) → ∥ IsTyped window queries ∥₁ → q < length queries → b < length (query_at queries q).branches
    → cut ≤ (branch_at queries q b).max_cut → AllByRecursion HasWidths tuples
    → AllByRecursion (λ item. IsItemOf (branch_at queries q b) item × (is_tag_of (branch_at queries q b).ops cut item.tag ≡ true)) (branch_items (query_at queries q) b level kept cut depth sizes tuples)
items_sent window q b level cut depth queries kept sizes tuples t lt within le widths =
    let os : List TOp = (branch_at queries q b).ops in
    let size : ℕ → ℕ = size_at os sizes in
    let rows : List Row = packet_rows (query_at queries q) b level kept tuples in
    let short = fronts.cut_within window queries q b t lt within in
    let is_cut = cut_within level cut os (cut_of window queries q b cut t lt within le) in
    all_bag (Sent (branch_at queries q b) cut) (bagged depth size cut (map (op_at level) os) rows) (items depth size cut (map (op_at level) os) rows) (items_bag depth size cut (map (op_at level) os) rows is_cut)
    (bagged_good window queries q b level cut depth size rows t lt within (omega (arith, short, le)) (packets_of window queries q b level kept tuples t lt within widths))
