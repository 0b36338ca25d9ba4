-- The operators of a monotone branch, as they act at its finest level and at another.
use Rattle.std.proofs.Common.{◌≡◌, ℕ, ◌≤◌, List, [], ◌∷◌, ◌++◌, map, length, Bool, true, false, ◌==◌, cond, nat_eq, Option, None, Some, refl, ap, sym, ◌∙◌, subst}
use Rattle.std.specs.List.{list_any, list_all}
use Rattle.std.specs.Option.{option_map_or}
use Rattle.std.proofs.lemmas.Bool.{false≢true}
use Rattle.sn_base.proofs.Lists.{and_parts, some_same}
use Rattle.sn_base.specs.AnyFold.{any_has}
use Rattle.sn_base.specs.Groups.{Row}
use Rattle.sn_base.specs.Operators.{Grouping, Op as Acting}
use Rattle.sn_base.specs.Operators.Op.{Reduce as Reduced}
use Rattle.sn_base.specs.declared.column.Column.{Column}
use Rattle.sn_query_grammar.specs.declared.ast.Op.{Op}
use Rattle.sn_query_grammar.specs.declared.ast.Reduce.{Reduce}
use Rattle.sn_query_grammar.specs.declared.ast.What.{What}
use Rattle.sn_query_grammar.specs.declared.ast.What.TheVariants as what
use Rattle.sn_types_faults.specs.declared.fault.TypeFault.{TypeFault}
use Rattle.sn_types_faults.specs.declared.fault.TypeFault.TheVariants.{UnknownField, UnknownColumn, TooWide, NoMap, RefineLost, RefineFilter, Levels}
use Rattle.sn_types_faults.specs.declared.scope.Scope.{Scope}
use Rattle.sn_types_faults.specs.Columns.{carried_after, columns_after}
use Rattle.sn_types_faults.specs.Faults.{filters, loses, no_map, refine_filter, refine_lost, too_wide, unknown_column, unknown_field, wrong_levels}
use Rattle.sn_types_faults.specs.Names.{Name}
use Rattle.sn_types_faults.specs.Walk.Place.{Operator}
use Rattle.sn_types_faults.specs.Walk.{carried_along, fault_at, first_fault, is_end, operator_places, scope_after, scope_end}
use Rattle.sn_types.specs.Typing.{typed_cond, typed_op, typed_ops, typed_reduce}
use Rattle.sn_types.specs.Values.{op_at}
use Rattle.sn_types.specs.declared.typed_op.TCond.{TCond}
use Rattle.sn_types.specs.declared.typed_op.TOp.{TOp}
use Rattle.sn_types.proofs.Facts.{if_none}
use Rattle.sn_types.proofs.Known.{IsKnown}
use Rattle.sn_types.proofs.Schemas.{IsSchema, columns_along, schema_after}
use Rattle.sn_types.proofs.Sound.{AreSound, IsSound}
use Rattle.sn_types.proofs.Sources.{later_none}
use Rattle.sn_types.proofs.NotLost.{not_lost}
use Rattle.sn_types.proofs.CarriedPlaces.{at_name}
use Rattle.sn_refine_laws.specs.Carrying.{CarriesTo}
use Rattle.sn_refine_laws.specs.Masking.{AllFollow, AreThresholds, Follows, KeyFollows, keeps_row}
use Rattle.sn_refine_laws.specs.Monotone.{are_thresholds, is_rising, rises_from}
use Rattle.sn_refine_laws.proofs.Reading.{filter_follows, key_follows, map_follows, takes_on}
use Rattle.sn_refine_laws.proofs.Thresholds.{below_64, only_filters, ops_pass}
use Rattle.sn_refine_laws.proofs.Within.{Rises, rises}

-- the carried column is read as the one copy and as a key alone
pub not_filtered : (levels : List ℕ) (scope : Scope) (op : Op) (last : Bool) (name : Name) → scope.carried ≡ Some name → fault_at (Operator levels scope op last) ≡ None → filters name op.what ≡ false
not_filtered levels scope op last name carried none =
    let of_levels : Option TypeFault = cond (wrong_levels levels op.what) (Some (Levels op.line)) None in
    let of_filter : Option TypeFault = cond (refine_filter scope op.what) (Some (RefineFilter op.line)) of_levels in
    let of_lost : Option TypeFault = cond (refine_lost scope op.what last) (Some (RefineLost op.line)) of_filter in
    let of_map : Option TypeFault = cond (no_map scope op.what) (Some (NoMap op.line)) of_lost in
    let of_width : Option TypeFault = cond (too_wide scope op.what) (Some (TooWide op.line)) of_map in
    let of_columns : Option TypeFault = cond (unknown_column scope op.what) (Some (UnknownColumn op.line)) of_width in
    let a = if_none (unknown_field scope op.what) (UnknownField op.line) of_columns none in
    let b = if_none (unknown_column scope op.what) (UnknownColumn op.line) of_width a.1 in
    let c = if_none (too_wide scope op.what) (TooWide op.line) of_map b.1 in
    let d = if_none (no_map scope op.what) (NoMap op.line) of_lost c.1 in
    let e = if_none (refine_lost scope op.what last) (RefineLost op.line) of_filter d.1 in
    let plain = (if_none (refine_filter scope op.what) (RefineFilter op.line) of_levels e.1).0 in
    let test : Option Name → Bool = λ o. option_map_or (λ n. filters n op.what) o false in
    sym (ap test carried) ∙ plain

-- a branch up to its reduce, the reduce, and what stands after it, at two levels; where the carried column stands at the end
pub record IsSplit (m : ℕ → ℕ) (F r : ℕ) (os : List TOp) (end : List Column) (carried : Option Name) (p : ℕ) : Type 0 where
  pub finer : List Acting
  pub coarser : List Acting
  pub group : Grouping
  pub following : List Acting
  pub after_coarser : List Acting
  pub middle : ℕ
  pub last : ℕ
  pub is_finer : map (op_at F) os ≡ finer ++ Reduced group ∷ following
  pub is_coarser : map (op_at r) os ≡ coarser ++ Reduced group ∷ after_coarser
  pub follows : AllFollow m finer coarser p middle
  pub carries : CarriesTo (Reduced group) middle last
  pub key : KeyFollows m group middle last
  pub rises : Rises group.by
  pub filters : AreThresholds following
  pub filters_coarser : AreThresholds after_coarser
  pub passes : (k l : Row) (v w : ℕ) → length k ≡ length group.places → length l ≡ length group.places → v ≤ w → any_has group.by w → keeps_row following (k ++ v ∷ []) ≡ true → keeps_row after_coarser (l ++ w ∷ []) ≡ true
  pub name : Name
  pub is_name : carried ≡ Some name
  pub known : IsKnown end name
  pub place : at_name end name ≡ last

module _ (m : ℕ → ℕ) (zeros : m 0 ≡ 0) (levels : List ℕ) (F r : ℕ) (among : list_any (nat_eq r) levels ≡ true) where
  -- after a reduce the columns stay
  one_filter : (n : ℕ) (cs : List Column) (w : What) (os : List TOp) → are_thresholds levels F n (typed_op cs w ∷ os) ≡ true → (columns_after cs w ≡ cs) × ((name : Name) → carried_after name w ≡ Some name) × (are_thresholds levels F n os ≡ true)
  one_filter n cs (what.Filter conds) os is = (refl, λ name. refl, (and_parts _ (are_thresholds levels F n os) is).1)
  one_filter n cs (what.Map cols) os is = absurd (false≢true is)
  one_filter n cs what.Distinct os is = absurd (false≢true is)
  one_filter n cs (what.Reduce d) os is = absurd (false≢true is)

  after_stays : (n : ℕ) (scope : Scope) (ops : List Op) (name : Name) → scope.carried ≡ Some name → are_thresholds levels F n (typed_ops scope.columns ops) ≡ true → ((scope_end scope ops).carried ≡ Some name) × (columns_along scope.columns ops ≡ scope.columns)
  after_stays n scope [] name carried is = (carried, refl)
  after_stays n scope (op ∷ ops) name carried is =
      let one = one_filter n scope.columns op.what (typed_ops (columns_after scope.columns op.what) ops) is in
      let rest = after_stays n (scope_after scope op.what) ops name (ap (λ o. carried_along o op.what) carried ∙ one.1 name) one.2 in
      (rest.0, rest.1 ∙ one.0)

  at_reduce : (cs : List Column) (d : Reduce) (os : List TOp) (end : List Column) (carried : Option Name) (name : Name) → IsSchema cs → IsSound cs (what.Reduce d) → loses name (what.Reduce d) ≡ false → filters name (what.Reduce d) ≡ false → IsKnown cs name →
      is_rising (typed_reduce cs d).fold ≡ true → are_thresholds levels F (length (typed_reduce cs d).keys) os ≡ true → carried ≡ Some name → end ≡ columns_after cs (what.Reduce d) → IsSplit m F r (typed_op cs (what.Reduce d) ∷ os) end carried (at_name cs name)
  at_reduce cs d os end carried name schema s kept plain known rising above is_carried is_end =
      let t = typed_reduce cs d in
      let on = takes_on F cs (what.Reduce d) name schema s kept known in
      let same : name ≡ on.to = some_same name on.to on.is in
      record {
        finer = [];
        coarser = [];
        group = record { places = t.keys; value = t.value; by = t.fold };
        following = map (op_at F) os;
        after_coarser = map (op_at r) os;
        middle = at_name cs name;
        last = at_name (columns_after cs (what.Reduce d)) name;
        is_finer = refl;
        is_coarser = refl;
        follows = refl;
        carries = subst (λ (n : Name). CarriesTo (op_at F (typed_op cs (what.Reduce d))) (at_name cs name) (at_name (columns_after cs (what.Reduce d)) n)) (sym same) on.carries;
        key = key_follows m zeros F r cs name known d schema s kept plain;
        rises = rises t.fold rising;
        filters = only_filters levels F (length t.keys) F os above;
        filters_coarser = only_filters levels F (length t.keys) r os above;
        passes = λ k l v w long long' more had h. ops_pass levels F r (length t.keys) among k l v w long long' more (below_64 t.fold w had) os above h;
        name = name;
        is_name = is_carried;
        known = subst (λ (xs : List Column). IsKnown xs name) (sym is_end) (subst (λ (n : Name). IsKnown (columns_after cs (what.Reduce d)) n) (sym same) on.known);
        place = ap (λ (xs : List Column). at_name xs name) is_end;
      }

  -- an operator before what is split
  before : (o : TOp) (os : List TOp) (end : List Column) (carried : Option Name) (p k : ℕ) → CarriesTo (op_at F o) p k → Follows m (op_at F o) (op_at r o) p k → IsSplit m F r os end carried k → IsSplit m F r (o ∷ os) end carried p
  before o os end carried p k c f h = record {
    finer = op_at F o ∷ h.finer;
    coarser = op_at r o ∷ h.coarser;
    group = h.group;
    following = h.following;
    after_coarser = h.after_coarser;
    middle = h.middle;
    last = h.last;
    is_finer = ap (λ (xs : List Acting). op_at F o ∷ xs) h.is_finer;
    is_coarser = ap (λ (xs : List Acting). op_at r o ∷ xs) h.is_coarser;
    follows = (k, c, f, h.follows);
    carries = h.carries;
    key = h.key;
    rises = h.rises;
    filters = h.filters;
    filters_coarser = h.filters_coarser;
    passes = h.passes;
    name = h.name;
    is_name = h.is_name;
    known = h.known;
    place = h.place;
  }

  one : (cs : List Column) (w : What) (os : List TOp) (end : List Column) (carried : Option Name) (name : Name) (may : Bool) → IsSchema cs → IsSound cs w → loses name w ≡ false → filters name w ≡ false → IsKnown cs name → rises_from levels F may (typed_op cs w ∷ os) ≡ true
      → ((may : Bool) (to : Name) → rises_from levels F may os ≡ true → carried_after name w ≡ Some to → IsKnown (columns_after cs w) to → IsSplit m F r os end carried (at_name (columns_after cs w) to))
      → ((n : ℕ) (to : Name) → are_thresholds levels F n os ≡ true → carried_after name w ≡ Some to → (carried ≡ Some to) × (end ≡ columns_after cs w))
      → IsSplit m F r (typed_op cs w ∷ os) end carried (at_name cs name)
  one cs (what.Filter conds) os end carried name may schema s kept plain known is onward stays =
      let parts = and_parts (list_all (λ (c : TCond). length c.relaxed == 0) (map (typed_cond cs) conds)) (rises_from levels F may os) is in
      before (typed_op cs (what.Filter conds)) os end carried (at_name cs name) (at_name cs name) refl (filter_follows m zeros F r cs name known conds s plain parts.0) (onward may name parts.1 refl known)
  one cs (what.Map cols) os end carried name may schema s kept plain known is onward stays =
      let on = takes_on F cs (what.Map cols) name schema s kept known in
      before (typed_op cs (what.Map cols)) os end carried (at_name cs name) (at_name (columns_after cs (what.Map cols)) on.to) on.carries (map_follows m zeros F r cs name known cols on.to s plain on.is) (onward may on.to is on.is on.known)
  one cs what.Distinct os end carried name may schema s kept plain known is onward stays =
      let parts = and_parts may (rises_from levels F false os) is in
      before (typed_op cs what.Distinct) os end carried (at_name cs name) (at_name cs name) refl refl (onward false name parts.1 refl known)
  one cs (what.Reduce d) os end carried name may schema s kept plain known is onward stays =
      let parts = and_parts (is_rising (typed_reduce cs d).fold) (are_thresholds levels F (length (typed_reduce cs d).keys) os) is in
      let ends = stays (length (typed_reduce cs d).keys) name parts.1 refl in
      at_reduce cs d os end carried name schema s kept plain known parts.0 parts.1 ends.0 ends.1

  pub split_along : (scope : Scope) (ops : List Op) (name : Name) (may : Bool) → scope.carried ≡ Some name → first_fault (operator_places levels scope ops) ≡ None → IsSchema scope.columns → AreSound scope.columns ops → IsKnown scope.columns name → rises_from levels F may (typed_ops scope.columns ops) ≡ true →
      IsSplit m F r (typed_ops scope.columns ops) (columns_along scope.columns ops) (scope_end scope ops).carried (at_name scope.columns name)
  split_along scope [] name may carried none schema s known is = absurd (false≢true is)
  split_along scope (op ∷ ops) name may carried none schema s known is =
      let parts = later_none (fault_at (Operator levels scope op (is_end ops))) (first_fault (operator_places levels (scope_after scope op.what) ops)) none in
      let lost = not_lost levels scope op (is_end ops) name carried parts.0 in
      let cs : List Column = scope.columns in
      let next : List Column = columns_after cs op.what in
      one cs op.what (typed_ops next ops) (columns_along next ops) (scope_end (scope_after scope op.what) ops).carried name may schema s.0 lost.0 (not_filtered levels scope op (is_end ops) name carried parts.0) known is
      (λ may to rest kept there. split_along (scope_after scope op.what) ops to may (ap (λ o. carried_along o op.what) carried ∙ kept) parts.1 (schema_after cs op.what schema s.0) s.1 there rest)
      (λ n to above kept. after_stays n (scope_after scope op.what) ops to (ap (λ o. carried_along o op.what) carried ∙ kept) above)
