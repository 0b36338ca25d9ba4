-- The items of a piece are those that its lane of the engine takes, and their frames have bytes.
use Rattle.std.proofs.Common.{◌≡◌, ℕ, zero, suc, ◌<◌, ◌≤◌, ◌^◌, List, [], ◌∷◌, ◌&&◌, ◌||◌, ◌==◌, length, take, Bool, true, false, cond, not, nat_lt, Option, Some, None, slice_index, refl, ap, sym, ◌∙◌, subst, arith}
use Rattle.std.specs.List.{AllByRecursion, AllByRecursion-prop, list_any}
use Rattle.std.proofs.Math.Bridge.{le_prop}
use Rattle.std.proofs.Math.Logic.{∥∥₁_elim}
use Rattle.std.proofs.Math.Nat.{pow-le-pow_right}
use Rattle.std.proofs.lemmas.Bool.{and_from, false≢true, lt-ltb, ltb-true}
use Rattle.sn_base.specs.Columns.{IsOf}
use Rattle.sn_base.specs.Groups.{Row}
use Rattle.sn_base.specs.declared.column.Column.{Column}
use Rattle.sn_base.proofs.Lists.{all_filter, by_test, nat_same}
use Rattle.sn_engine_lockstep.specs.declared.source.Source.{Source}
use Rattle.sn_engine_lockstep.specs.Sources.{source_at, source_of}
use Rattle.sn_engine_lockstep.specs.Work.{intake_of, name_of}
use Rattle.sn_engine_lockstep.proofs.Seeing.{items_passed, passed_by, seen_by}
use Rattle.sn_emit.specs.Making.{CanMake}
use Rattle.sn_emit.specs.Plans.{Placed, items_of}
use Rattle.sn_emit.specs.Senders.{row_frame}
use Rattle.sn_emit.specs.declared.tables.Tables.{Tables}
use Rattle.sn_engine.specs.Taking.{has_columns, row_fault}
use Rattle.sn_engine.specs.declared.fault.TakeFault.TheVariants.{Stranger, Width}
use Rattle.sn_plan_fit.specs.Paths.{place_in}
use Rattle.sn_pipe.proofs.Fronts as fronts
use Rattle.sn_pipe.proofs.ItemLaw.{items_sent}
use Rattle.sn_query_grammar.specs.declared.ast.Op.{Op}
use Rattle.sn_refine.specs.Steps.{Set, is_held}
use Rattle.sn_report.specs.Items.{Item}
use Rattle.sn_report.specs.declared.frame.Tag.{Tag}
use Rattle.sn_report.specs.declared.frame.Tag.TheVariants.{At, Partial}
use Rattle.sn_report.specs.Frames.{HasColumns, IsFrame}
use Rattle.sn_engine_split.specs.Opened.{is_open}
use Rattle.sn_engine_split.specs.Branches.{IsItemOf, is_at_place, is_distinct, is_reduce, is_tag_of, tag_columns}
use Rattle.sn_types.specs.declared.typed_op.TOp.{TOp}
use Rattle.sn_types.specs.Cuts.{is_stateful}
use Rattle.sn_types.specs.declared.typed_query.TypedBranch.{TypedBranch}
use Rattle.sn_types.specs.declared.typed_query.TypedQuery.{TypedQuery}
use Rattle.sn_types.specs.Typed.{HasWidths, IsTyped, branch_at, query_at, schema_at}
use Rattle.sn_types.specs.Typing.{schemas_along}
use Rattle.sn_types.proofs.Facts.{branch_source_of, few_ops, few_packet_fields, length-typed_ops}
use Rattle.sn_types.proofs.RowsAfter.{as_long}
use Rattle.sn_types.proofs.Schemas.{HasWidth, IsSchema, packet_schema, schema_after}
use Rattle.sn_types.proofs.Sound.{AreSound, sound_branch}
use Rattle.sn_types_faults.specs.Columns.{columns_after, packet_columns}

-- ---- columns

has_of : (cs : List Column) (row : Row) → IsOf cs row → has_columns cs row ≡ true
has_of [] [] of = refl
has_of [] (x ∷ row) of = absurd of
has_of (c ∷ cs) [] of = absurd of
has_of (c ∷ cs) (x ∷ row) of = and_from (nat_lt x (2 ^ c.width)) (has_columns cs row) (lt-ltb x (2 ^ c.width) of.0) (has_of cs row of.1)

of_below : (cs : List Column) (row : Row) → AllByRecursion HasWidth cs → IsOf cs row → AllByRecursion (λ (n : ℕ). n < 2 ^ 128) row
of_below [] [] widths of = tt
of_below [] (x ∷ row) widths of = absurd of
of_below (c ∷ cs) [] widths of = absurd of
of_below (c ∷ cs) (x ∷ row) widths of =
    let two : 0 < 2 = omega arith in
    let width = widths.0.to_most in
    let within : c.width ≤ 128 = omega (arith, width) in
    let most : 2 ^ c.width ≤ 2 ^ 128 = pow-le-pow_right two within in
    let here = of.0 in
    (omega (arith, here, most), of_below cs row widths.1 of.1)

of_columns : (cs : List Column) (row : Row) → IsSchema cs → IsOf cs row → HasColumns 2 row
of_columns cs row schema of = (let long = as_long cs row of in let few = schema.few in omega (arith, long, few), of_below cs row schema.widths of)

columns_prop : (row : Row) → IsProp (HasColumns 2 row)
columns_prop row = hlevel (le_prop, AllByRecursion-prop (λ (n : ℕ). n < 2 ^ 128) (λ n. le_prop) row)

along_schema : (columns : List Column) (ops : List Op) (j : ℕ) → j ≤ length ops → IsSchema columns → AreSound columns ops → IsSchema (schema_at (schemas_along columns ops) j)
along_schema columns [] zero le schema sound = schema
along_schema columns [] (suc j) le schema sound = absurd (omega (arith, le))
along_schema columns (op ∷ ops) zero le schema sound = schema
along_schema columns (op ∷ ops) (suc j) le schema sound = along_schema (columns_after columns op.what) ops j (omega (arith, le)) (schema_after columns op.what schema sound.0) sound.1

module _ (window : ℕ) (queries : List TypedQuery) (q b : ℕ) (t : ∥ IsTyped window queries ∥₁) (lt : q < length queries) (within : b < length (query_at queries q).branches) where
  row_columns : (j : ℕ) (row : Row) → j ≤ length (branch_at queries q b).ops → IsOf (schema_at (branch_at queries q b).schemas j) row → HasColumns 2 row
  row_columns j row le of =
      ∥∥₁_elim t (columns_prop row) (λ t.
      let s = branch_source_of window queries q b t lt within in
      let columns : List Column = packet_columns s.ops in
      let P : TypedBranch → Type 0 = λ x. j ≤ length x.ops → IsOf (schema_at x.schemas j) row → HasColumns 2 row in
      subst P (sym s.is)
      (λ few is. of_columns (schema_at (schemas_along columns s.ops) j) row
      (along_schema columns s.ops j (let many = length-typed_ops columns s.ops in omega (arith, many, few)) (packet_schema s.ops (few_packet_fields s.refine s.ops s.no_fault)) (sound_branch s.refine s.ops s.each s.no_fault)) is) le of)

-- ---- tags

neither : (a b c : Bool) → (a || (b && c)) ≡ true → a ≡ false → b ≡ false → ⊥
neither true b c is one two = false≢true (sym one)
neither false true c is one two = false≢true (sym two)
neither false false c is one two = false≢true is

not_first : (a b c : Bool) → ((a && b) && c) ≡ true → a ≡ false → ⊥
not_first true b c is one = false≢true (sym one)
not_first false b c is one = false≢true is

low_at : (os : List TOp) (cut i : ℕ) → is_tag_of os cut (At i) ≡ true → i ≤ cut
low_at os cut i is =
    by_test (i == cut)
    (λ same. let e = nat_same i cut same in omega (arith, e))
    (λ other. by_test (nat_lt i cut) (λ less. let lt = ltb-true i cut less in omega (arith, lt)) (λ more. absurd (neither (i == cut) (nat_lt i cut) (is_at_place is_stateful os i) is other more)))

low_partial : (os : List TOp) (cut i : ℕ) → is_tag_of os cut (Partial i) ≡ true → i < cut
low_partial os cut i is =
    by_test (nat_lt i cut) (λ less. ltb-true i cut less)
    (λ more. absurd (not_first (nat_lt i cut) (is_at_place is_reduce os i) (list_any is_distinct (take i os)) is more))

-- ---- the items of a piece

-- an item is of the branch of a piece, with a tag of its prefix
abbrev pub IsGood : List TypedQuery → Placed → Item → Type 0
IsGood queries x item = IsItemOf (branch_at queries x.query x.piece.branch) item × (is_tag_of (branch_at queries x.query x.piece.branch).ops x.piece.cut item.tag ≡ true)

module _ (window : ℕ) (queries : List TypedQuery) (x : Placed) (t : ∥ IsTyped window queries ∥₁) (can : CanMake queries x) where
  abbrev branch : TypedBranch
  branch = branch_at queries x.query x.piece.branch

  seen_widths : (path : List ℕ) (kept : ℕ → Set) (tuples : List (List ℕ)) (place : ℕ) → AllByRecursion HasWidths tuples → AllByRecursion HasWidths (seen_by (query_at queries x.query) path kept tuples place)
  seen_widths path kept tuples zero widths = widths
  seen_widths path kept tuples (suc j) widths = all_filter HasWidths (is_held (query_at queries x.query).field _ (kept j)) tuples widths

  passed_widths : (entries : Option ℕ) (path : List ℕ) (kept : ℕ → Set) (tuples : List (List ℕ)) (place : ℕ) → AllByRecursion HasWidths tuples → AllByRecursion HasWidths (passed_by (query_at queries x.query) entries path kept tuples place)
  passed_widths entries path kept tuples zero widths = widths
  passed_widths entries path kept tuples (suc j) widths =
      elim (is_open entries (kept j)) as (λ b. AllByRecursion HasWidths (cond b tuples (seen_by (query_at queries x.query) path kept tuples (suc j)))) [
        | true ↦ widths
        | false ↦ seen_widths path kept tuples (suc j) widths
      ]

  pub all_good : (tables : Tables) (kept : Source → Set) (tuples : List (List ℕ)) → AllByRecursion HasWidths tuples → AllByRecursion (IsGood queries x) (items_of queries tables x (kept (source_of x)) tuples)
  all_good tables kept tuples widths =
      let place : ℕ = place_in x.path x.piece.level in
      let before : ℕ → Set = λ j. kept (source_at x.query (Some (slice_index x.path j))) in
      subst (AllByRecursion (IsGood queries x)) (sym (items_passed queries tables x.query x.path x.piece kept tuples))
      (items_sent window x.query x.piece.branch x.piece.level x.piece.cut tables.depth queries None x.piece.slots (passed_by (query_at queries x.query) tables.entries x.path before tuples place) t can.query can.branch can.cut
      (passed_widths tables.entries x.path before tuples place widths))

  -- the lane takes it
  pub no_fault : (item : Item) → IsGood queries x item → row_fault queries (intake_of x) item ≡ None
  no_fault item good =
      ap (λ b. cond (not b) (Some Stranger) (cond (not (has_columns (tag_columns branch.schemas item.tag) item.row)) (Some Width) None)) good.1
      ∙ ap (λ b. cond (not b) (Some Width) None) (has_of (tag_columns branch.schemas item.tag) item.row good.0)

  short_cut : x.piece.cut ≤ length branch.ops
  short_cut = let within = fronts.cut_within window queries x.query x.piece.branch t can.query can.branch in let cut = can.cut in omega (arith, within, cut)

  -- its frame has bytes
  pub row_is_frame : (item : Item) → IsGood queries x item → IsFrame 2 (row_frame (name_of x) item)
  row_is_frame item good = by_tag item.tag item.row good
    where
      by_tag : (tag : Tag) (row : Row) → IsGood queries x (record { tag = tag; row = row }) → IsFrame 2 (row_frame (name_of x) (record { tag = tag; row = row }))
      by_tag (At i) row is =
          let low = low_at branch.ops x.piece.cut i is.1 in
          let cut = short_cut in
          let few = few_ops window queries x.query x.piece.branch t can.query can.branch in
          record { some_version = omega arith; most_version = omega arith; query = can.few; level = can.short; branch = can.sides; operator = omega (arith, low, cut, few); content = row_columns window queries x.query x.piece.branch t can.query can.branch i row (omega (arith, low, cut)) is.0 }
      by_tag (Partial i) row is =
          let low = low_partial branch.ops x.piece.cut i is.1 in
          let cut = short_cut in
          let few = few_ops window queries x.query x.piece.branch t can.query can.branch in
          record { some_version = omega arith; most_version = omega arith; query = can.few; level = can.short; branch = can.sides; operator = omega (arith, low, cut, few); content = row_columns window queries x.query x.piece.branch t can.query can.branch (suc i) row (omega (arith, low, cut)) is.0 }
