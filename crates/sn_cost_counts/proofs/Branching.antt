-- The counts of a typed branch.
use Rattle.std.proofs.Common.{◌≡◌, ℕ, zero, suc, ◌+◌, ◌*◌, ◌≤◌, ◌<◌, List, [], ◌∷◌, ◌++◌, map, take, length, refl, ap, sym, subst, ◌∙◌, arith}
use Rattle.std.proofs.Math.Bridge.{le_prop}
use Rattle.std.proofs.Math.Logic.{∥∥₁_elim}
use Rattle.std.specs.List.{AllByRecursion, flat_map, range_with_len}
use Rattle.std.proofs.lemmas.List.{take-take}
use Rattle.sn_base.specs.Columns.{IsOf}
use Rattle.sn_base.specs.Groups.{Row}
use Rattle.sn_base.specs.Operators.{key_of}
use Rattle.sn_base.specs.declared.column.Column.{Column}
use Rattle.sn_base.proofs.Lists.{all_append, all_map, all_weaker, map_agree, map_both, all_front}
use Rattle.sn_query_grammar.specs.declared.ast.Op.{Op}
use Rattle.sn_query_grammar.specs.declared.ast.What.{What}
use Rattle.sn_query_grammar.specs.declared.ast.What.TheVariants as what
use Rattle.sn_types_faults.specs.Columns.{columns_after, packet_columns}
use Rattle.sn_types.specs.declared.typed_op.TOp.{TOp}
use Rattle.sn_types.specs.declared.typed_op.TOp.TheVariants as ops
use Rattle.sn_types.specs.declared.typed_query.TypedBranch.{TypedBranch}
use Rattle.sn_types.specs.declared.typed_query.TypedQuery.{TypedQuery}
use Rattle.sn_types.specs.Cuts.{greatest_cut, stateful}
use Rattle.sn_types.specs.Typed.{IsTyped, branch_at, first_columns, query_at}
use Rattle.sn_types.specs.Typing.{typed_op, typed_ops}
use Rattle.sn_types.proofs.Facts.{branch_source_of, few_packet_fields}
use Rattle.sn_types.proofs.Known.{IsKnown}
use Rattle.sn_types.proofs.RowsAfter.{AreOf, named_of, rows_after}
use Rattle.sn_types.proofs.Schemas.{IsSchema, packet_schema, schema_after}
use Rattle.sn_types.proofs.Sound.{AreSound, IsSound, sound_branch}
use Rattle.sn_types.proofs.TypedRows.{first_along}
use Rattle.sn_ops.specs.Flow.{AllFit, Fits}
use Rattle.sn_ops.proofs.Fitting.{fit_along, fits_prop, has_prop}
use Rattle.sn_engine_split.proofs.Cuts.{cut_within}
use Rattle.sn_engine_split.proofs.TypedItems.{grouping, with_fold}
use Rattle.sn_cost_counts.specs.AnyFlow.{Flow}
use Rattle.sn_cost_counts.specs.Counts.{counts_of, setting_count}
use Rattle.sn_cost_counts.specs.Fitting.{AllGo, CanGo, Takes}
use Rattle.sn_cost_counts.specs.Flows.{counted, counts_from, run, starting, wider}
use Rattle.sn_plan_choices.specs.Options.{Setting, size_lists}
use Rattle.sn_cost_counts.specs.Settings.{settings}
use Rattle.sn_cost_counts.proofs.Counting.{items_counted}
use Rattle.sn_cost_counts.proofs.Going.{wider_go}
use Rattle.sn_cost_counts.proofs.Orders.{counts_are, map_flat}
use Rattle.sn_windows.specs.Blocks.{most_records}

-- ---- a row of a branch's first columns goes through its operators

takes_before : (level : ℕ) (columns : List Column) (w : What) (rest : List TOp) (row : Row) → IsSchema columns → IsSound columns w → IsOf columns row → Fits (typed_op columns w) (row ∷ [])
    → ((next : Row) → IsOf (columns_after columns w) next → Takes level rest next) → Takes level (typed_op columns w ∷ rest) row
takes_before level columns (what.Filter conds) rest row h s of fits onward = (fits, onward row of)
takes_before level columns (what.Map cols) rest row h s of fits onward = (fits, onward _ (rows_after level columns (what.Map cols) (row ∷ []) h s (of, tt)).0)
takes_before level columns what.Distinct rest row h s of fits onward = onward row of
takes_before level columns (what.Reduce r) rest row h s of fits onward =
    (fits, λ a had. onward (key_of (grouping columns r) row ++ a ∷ []) (with_fold columns r (key_of (grouping columns r) row) a h s (named_of columns row r.keys of (all_front (IsKnown columns) r.keys (r.value ∷ []) s.known)) had))

takes_along : (level : ℕ) (columns : List Column) (os : List Op) (row : Row) → IsSchema columns → AreSound columns os → IsOf columns row → Takes level (typed_ops columns os) row
takes_along level columns [] row h s of = tt
takes_along level columns (op ∷ os) row h s of =
    takes_before level columns op.what (typed_ops (columns_after columns op.what) os) row h s.0 of ((fit_along level columns (op ∷ []) (row ∷ []) h (s.0, tt) (of, tt)).0)
    (λ next is. takes_along level (columns_after columns op.what) os next (schema_after columns op.what h s.0) s.1 is)

takes_prop : (level : ℕ) (os : List TOp) (row : Row) → IsProp (Takes level os row)
takes_prop level [] row = hlevel le_prop
takes_prop level (ops.Filter conds ∷ os) row = hlevel (fits_prop (ops.Filter conds), takes_prop level os)
takes_prop level (ops.Map exprs ∷ os) row = hlevel (fits_prop (ops.Map exprs), takes_prop level os)
takes_prop level (ops.Distinct ∷ os) row = takes_prop level os row
takes_prop level (ops.Reduce r ∷ os) row = hlevel (fits_prop (ops.Reduce r), has_prop, takes_prop level os)

pub takes_front : (level cut : ℕ) (os : List TOp) (row : Row) → Takes level os row → Takes level (take cut os) row
takes_front level zero os row h = tt
takes_front level (suc c) [] row h = tt
takes_front level (suc c) (ops.Filter conds ∷ os) row h = (h.0, takes_front level c os row h.1)
takes_front level (suc c) (ops.Map exprs ∷ os) row h = (h.0, takes_front level c os _ h.1)
takes_front level (suc c) (ops.Distinct ∷ os) row h = takes_front level c os row h
takes_front level (suc c) (ops.Reduce r ∷ os) row h = (h.0, λ a had. takes_front level c os _ (h.1 a had))

pub branch_takes : (window : ℕ) (queries : List TypedQuery) (q b level cut : ℕ) (rows : List Row) → ∥ IsTyped window queries ∥₁ → q < length queries → b < length (query_at queries q).branches
    → AreOf (first_columns (branch_at queries q b)) rows → AllByRecursion (Takes level (take cut (branch_at queries q b).ops)) rows
branch_takes window queries q b level cut rows t lt within of =
    all_weaker (IsOf (first_columns (branch_at queries q b))) (Takes level (take cut (branch_at queries q b).ops)) (λ row is.
    takes_front level cut (branch_at queries q b).ops row
    (∥∥₁_elim t (takes_prop level (branch_at queries q b).ops row) (λ t.
    let s = branch_source_of window queries q b t lt within in
    let P : TypedBranch → Type 0 = λ x. IsOf (first_columns x) row → Takes level x.ops row in
    subst P (sym s.is)
    (λ is. takes_along level (packet_columns s.ops) s.ops row (packet_schema s.ops (few_packet_fields s.refine s.ops s.no_fault)) (sound_branch s.refine s.ops s.each s.no_fault)
    (subst (λ (cs : List Column). IsOf cs row) (first_along (packet_columns s.ops) s.ops) is)) is))) rows of

-- ---- counts are small

pub counts_small : (depth level : ℕ) (slots : List ℕ) (os : List TOp) (passed : ℕ) (fs : List Flow) → passed + length os ≤ 12 → AllGo level passed os fs → AllByRecursion (λ n. n ≤ 13 * most_records) (counts_from depth level slots os fs)
counts_small depth level slots [] passed fs le h =
    all_map (λ n. n ≤ 13 * most_records) counted fs (all_weaker (CanGo level passed []) (λ f. counted f ≤ 13 * most_records) (λ f x. let s = x.sent in let r = x.few in omega (arith, s, r, le)) fs h.each)
counts_small depth level slots (op ∷ os) passed fs le h =
    all_append (λ n. n ≤ 13 * most_records) (map counted fs) (counts_from depth level slots os (wider depth level slots op fs))
    (all_map (λ n. n ≤ 13 * most_records) counted fs (all_weaker (CanGo level passed (op ∷ os)) (λ f. counted f ≤ 13 * most_records) (λ f x. let s = x.sent in let r = x.few in omega (arith, s, r, le)) fs h.each))
    (counts_small depth level slots os (suc passed) (wider depth level slots op fs) (omega (arith, le)) (wider_go level passed depth slots op os fs h))

-- ---- they are the counts of all settings

flat_range : {B : Type 0} (f g : ℕ → List B) (a n : ℕ) → ((k : ℕ) → k < a + n → f k ≡ g k) → flat_map f (range_with_len a n) ≡ flat_map g (range_with_len a n)
flat_range f g a zero e = refl
flat_range f g a (suc n) e =
    ap (λ xs. xs ++ flat_map f (range_with_len (a + 1) n)) (e a (omega arith)) ∙ ap (λ xs. g a ++ xs) (flat_range f g (a + 1) n (λ k lt. e k (omega (arith, lt))))

module _ (depth level : ℕ) (slots : List ℕ) (branch : TypedBranch) (rows : List Row) where
  abbrev front : List TOp
  front = take branch.max_cut branch.ops

  abbrev front_count : Setting → ℕ
  front_count o = counted (run depth level (take o.0 front) o.1 (starting rows))

  abbrev settings_at : List TOp → ℕ → List Setting
  settings_at os cut = map (λ chosen. (cut, chosen)) (size_lists slots (stateful (take cut os)))

  one_cut : branch.max_cut ≤ greatest_cut branch.ops → (cut : ℕ) → cut ≤ branch.max_cut → map front_count (settings_at front cut) ≡ map (setting_count branch level depth rows) (settings_at branch.ops cut)
  one_cut most cut le =
      let same : take cut front ≡ take cut branch.ops = take-take cut branch.max_cut branch.ops le in
      ap (λ (os : List TOp). map front_count (map (λ chosen. (cut, chosen)) (size_lists slots (stateful os)))) same
      ∙ map_both (λ chosen. (cut, chosen)) front_count (size_lists slots (stateful (take cut branch.ops)))
      ∙ map_agree (λ chosen. front_count (cut, chosen)) (λ chosen. setting_count branch level depth rows (cut, chosen))
      (λ chosen. ap (λ (os : List TOp). counted (run depth level os chosen (starting rows))) same ∙ sym (items_counted depth level cut chosen branch.ops rows (cut_within level cut branch.ops (omega (arith, le, most)))))
      (size_lists slots (stateful (take cut branch.ops)))
      ∙ sym (map_both (λ chosen. (cut, chosen)) (setting_count branch level depth rows) (size_lists slots (stateful (take cut branch.ops))))

  pub all_counts : branch.max_cut ≤ greatest_cut branch.ops → length front ≡ branch.max_cut → counts_from depth level slots front (starting rows ∷ []) ≡ counts_of branch level depth slots rows
  all_counts most long =
      counts_are depth level slots front (starting rows)
      ∙ ap (λ n. map front_count (settings slots n front)) long
      ∙ map_flat (settings_at front) front_count (range_with_len 0 (branch.max_cut + 1))
      ∙ flat_range (λ cut. map front_count (settings_at front cut)) (λ cut. map (setting_count branch level depth rows) (settings_at branch.ops cut)) 0 (branch.max_cut + 1) (λ cut lt. one_cut most cut (omega (arith, lt)))
      ∙ sym (map_flat (settings_at branch.ops) (setting_count branch level depth rows) (range_with_len 0 (branch.max_cut + 1)))

-- ---- the rows of a window before the first operator

pub started : (level : ℕ) (os : List TOp) (rows : List Row) → length rows ≤ most_records → AllByRecursion (Takes level os) rows → AllFit level os [] → AllGo level 0 os (starting rows ∷ [])
started level os rows few takes fits = record { operators = fits; each = (record { sent = omega arith; few = few; takes = takes }, tt) }
