-- The carried column along one operator: what holds of its numbers before the operator holds of them after it.
use Rattle.std.proofs.Common.{◌≡◌, ℕ, List, [], ◌∷◌, ◌++◌, map, filter, Bool, true, false, slice_index, Option, Some, refl, sym, subst, append_assoc}
use Rattle.std.specs.List.{AllByRecursion, list_any, list_all}
use Rattle.sn_base.proofs.Lists.{all_append, all_filter, all_map, all_of, all_weaker, map_both, not_false}
use Rattle.sn_base.proofs.OnceLemmas.{all_once}
use Rattle.sn_base.specs.Groups.{Row, columns_at, once, same_row}
use Rattle.sn_base.specs.Operators.{Grouping, apply, join, pair_of, row_for}
use Rattle.sn_base.specs.declared.column.Column.{Column}
use Rattle.sn_fields.specs.declared.field.Field.{Field}
use Rattle.sn_fields.specs.Fields.{with_name}
use Rattle.sn_query_grammar.specs.declared.ast.MapCol.{MapCol}
use Rattle.sn_query_grammar.specs.declared.ast.Reduce.{Reduce}
use Rattle.sn_query_grammar.specs.declared.ast.What.{What}
use Rattle.sn_query_grammar.specs.declared.ast.What.TheVariants as what
use Rattle.sn_types_faults.specs.Names.{Name, is_in}
use Rattle.sn_types_faults.specs.Columns as columns
use Rattle.sn_types_faults.specs.Columns.{carried_after, column_named, columns_after, copy_name, field_column, folded_column, has_column, is_copy, joined_columns, mapped_column, place_of}
use Rattle.sn_types_faults.specs.Faults.{loses}
use Rattle.sn_types.specs.Typed.{packet_row, read_at}
use Rattle.sn_types.specs.Typing.{join_key, typed_cond, typed_expr, typed_op, typed_reduce}
use Rattle.sn_types.specs.Values.{holds, op_at, value_of}
use Rattle.sn_types.specs.declared.typed_op.JoinKey.{JoinKey}
use Rattle.sn_types.proofs.Known.{IsKnown}
use Rattle.sn_types.proofs.RowLemmas.{place_is}
use Rattle.sn_types.proofs.Schemas.{IsSchema, mapped_whole, reduced_columns, reduced_whole}
use Rattle.sn_types.proofs.Sound.{IsSound}
use Rattle.sn_ops.specs.Joins as joins
use Rattle.sn_ops.specs.Joins.{both, joined, lefts, meets, rights}
use Rattle.sn_types.proofs.CarriedPlaces.{at_name, copy_of, field_number, key_known, key_number, mapped_known, mapped_number, named}

-- ---- what holds of the numbers in the carried column

module _ (V : ℕ → Type 0) where
  abbrev HoldsAt : ℕ → Row → Type 0
  HoldsAt place row = V (slice_index row place)

  -- rows of these columns have the column of this name, and its numbers are such
  pub record Carries (cs : List Column) (name : Name) (rows : List Row) : Type 0 where
    pub known : IsKnown cs name
    pub each : AllByRecursion (HoldsAt (at_name cs name)) rows

  pub at_place : (cs : List Column) (name : Name) (rows : List Row) → Carries cs name rows → AllByRecursion (HoldsAt (place_of cs name)) rows
  at_place cs name rows h = subst (λ (p : ℕ). AllByRecursion (HoldsAt p) rows) (sym (place_is (named name) cs h.known)) h.each

  -- under whatever name it goes on
  pub record Ends (cs : List Column) (carried : Option Name) (rows : List Row) : Type 0 where
    pub name : Name
    pub is : carried ≡ Some name
    pub carries : Carries cs name rows

  map_ends : (level : ℕ) (cs : List Column) (cols : List MapCol) (name : Name) (rows : List Row) → IsSound cs (what.Map cols) → loses name (what.Map cols) ≡ false → Carries cs name rows →
      Ends (columns_after cs (what.Map cols)) (copy_name name cols) (apply (op_at level (typed_op cs (what.Map cols))) rows)
  map_ends level cs cols name rows s kept h =
      let copy = copy_of name cols (not_false (list_any (λ c. is_copy name c.expr) cols) kept) in
      let to = copy.0 in
      let made : List Column = map (mapped_column cs) cols in
      let values : Row → Row = λ row. map (λ e. value_of e row) (map (λ (c : MapCol). typed_expr cs c.expr) cols) in
      let after : Carries made to (map values rows) = record {
        known = mapped_known cs name to cols copy.1;
        each = all_map (HoldsAt (at_name made to)) values rows
            (all_weaker (HoldsAt (place_of cs name)) (λ row. HoldsAt (at_name made to) (values row)) (λ row v. subst V (sym (mapped_number cs row name to cols s.limits.1 copy.1)) v) rows (at_place cs name rows h));
      } in
      record { name = to; is = copy.1; carries = subst (λ (xs : List Column). Carries xs to (map values rows)) (sym (mapped_whole cs cols s.limits.0)) after }

  module _ (cs : List Column) (r : Reduce) (name : Name) (among : is_in name r.keys ≡ true) (g : Grouping) where
    abbrev reduced_place : ℕ
    reduced_place = at_name (reduced_columns cs r) name

    -- a key has such a number, whatever stands after it
    abbrev KeyHolds : Row → Type 0
    KeyHolds key = (tail : Row) → V (slice_index (key ++ tail) reduced_place)

    key_rows : (keys : List Row) → AllByRecursion (HoldsAt (place_of cs name)) keys → AllByRecursion KeyHolds (map (columns_at (map (place_of cs) r.keys)) keys)
    key_rows [] h = tt
    key_rows (row ∷ rows) h = (λ tail. subst V (sym (key_number cs row name r.keys (folded_column cs r ∷ []) tail among)) h.0, key_rows rows h.1)

    groups : (pairs : List (Row × ℕ)) → AllByRecursion KeyHolds (map (λ p. p.0) pairs) → AllByRecursion (HoldsAt reduced_place) (map (row_for g pairs) (once same_row (map (λ p. p.0) pairs)))
    groups pairs h =
        let keys : List Row = map (λ p. p.0) pairs in
        all_map (HoldsAt reduced_place) (row_for g pairs) (once same_row keys)
        (all_weaker KeyHolds (λ key. HoldsAt reduced_place (row_for g pairs key)) (λ key v. v _) (once same_row keys) (all_once same_row KeyHolds keys h))

  reduce_ends : (level : ℕ) (cs : List Column) (r : Reduce) (name : Name) (rows : List Row) → IsSchema cs → IsSound cs (what.Reduce r) → loses name (what.Reduce r) ≡ false → Carries cs name rows →
      Ends (columns_after cs (what.Reduce r)) (Some name) (apply (op_at level (typed_op cs (what.Reduce r))) rows)
  reduce_ends level cs r name rows schema s kept h =
      let among : is_in name r.keys ≡ true = not_false (is_in name r.keys) kept in
      let t = typed_reduce cs r in
      let g : Grouping = record { places = t.keys; value = t.value; by = t.fold } in
      let pairs : List (Row × ℕ) = map (pair_of g) rows in
      let keys : AllByRecursion (KeyHolds cs r name among g) (map (λ (p : Row × ℕ). p.0) pairs) =
      subst (λ (ks : List Row). AllByRecursion (KeyHolds cs r name among g) ks) (sym (map_both (pair_of g) (λ (p : Row × ℕ). p.0) rows)) (key_rows cs r name among g rows (at_place cs name rows h)) in
      record {
        name = name;
        is = refl;
        carries = subst (λ (xs : List Column). Carries xs name (apply (op_at level (typed_op cs (what.Reduce r))) rows)) (sym (reduced_whole cs r schema.few s))
            (record { known = key_known cs name r.keys (folded_column cs r ∷ []) among; each = groups cs r name among g pairs keys });
      }

  pub after_join : (L R : List Column) (keys : List Name) (name : Name) (left right : List Row) → is_in name keys ≡ true → Carries L name left → Carries (joined_columns keys L R) name (joined (map (join_key L R) keys) left right)
  after_join L R keys name left right among h =
      let ks = map (join_key L R) keys in
      let on_left : lefts ks ≡ map (place_of L) keys = map_both (join_key L R) (λ (k : JoinKey). k.left) keys in
      let regrouped = append_assoc (map (column_named L) keys) (columns.others keys L) (columns.others keys R) in
      record {
        known = subst (λ (xs : List Column). IsKnown xs name) (sym regrouped) (key_known L name keys (columns.others keys L ++ columns.others keys R) among);
        each = subst (λ (xs : List Column). AllByRecursion (HoldsAt (at_name xs name)) (joined ks left right)) (sym regrouped)
            (subst (λ (ls : List ℕ). AllByRecursion (HoldsAt pair_place) (join (meets ls (rights ks)) (both ls (rights ks)) left right)) (sym on_left)
            (pairs (meets (map (place_of L) keys) (rights ks)) (rights ks) left (at_place L name left h)));
      }
    where
      pair_place : ℕ
      pair_place = at_name (map (column_named L) keys ++ (columns.others keys L ++ columns.others keys R)) name

      pair_holds : (rs : List ℕ) (l r : Row) → HoldsAt (place_of L name) l → HoldsAt pair_place (both (map (place_of L) keys) rs l r)
      pair_holds rs l r v =
          let ls = map (place_of L) keys in
          subst (λ (row : Row). HoldsAt pair_place row) (sym (append_assoc (columns_at ls l) (joins.others ls l) (joins.others rs r)))
          (subst V (sym (key_number L l name keys (columns.others keys L ++ columns.others keys R) (joins.others ls l ++ joins.others rs r) among)) v)

      pairs : (m : Row → Row → Bool) (rs : List ℕ) (ls : List Row) → AllByRecursion (HoldsAt (place_of L name)) ls → AllByRecursion (HoldsAt pair_place) (join m (both (map (place_of L) keys) rs) ls right)
      pairs m rs [] v = tt
      pairs m rs (l ∷ ls) v =
          let b : Row → Row → Row = both (map (place_of L) keys) rs in
          all_append (HoldsAt pair_place) (map (b l) (filter (m l) right)) (join m b ls right)
          (all_map (HoldsAt pair_place) (b l) (filter (m l) right) (all_of (λ r. HoldsAt pair_place (b l r)) (λ r. pair_holds rs l r v.0) (filter (m l) right))) (pairs m rs ls v.1)

  pub after_op : (level : ℕ) (cs : List Column) (w : What) (name : Name) (rows : List Row) → IsSchema cs → IsSound cs w → loses name w ≡ false → Carries cs name rows →
      Ends (columns_after cs w) (carried_after name w) (apply (op_at level (typed_op cs w)) rows)
  after_op level cs (what.Filter conds) name rows schema s kept h =
      record { name = name; is = refl; carries = record { known = h.known; each = all_filter (HoldsAt (at_name cs name)) (λ row. list_all (λ c. holds level c row) (map (typed_cond cs) conds)) rows h.each } }
  after_op level cs (what.Map cols) name rows schema s kept h = map_ends level cs cols name rows s kept h
  after_op level cs what.Distinct name rows schema s kept h = record { name = name; is = refl; carries = record { known = h.known; each = all_once same_row (HoldsAt (at_name cs name)) rows h.each } }
  after_op level cs (what.Reduce r) name rows schema s kept h = reduce_ends level cs r name rows schema s kept h

  -- packet rows whose fields are such
  pub packets : (refined : Option Field) (level : ℕ) (field : Field) (name : Name) (fields : List Field) (tuples : List (List ℕ)) → with_name name ≡ Some field → IsKnown (map field_column fields) name →
      AllByRecursion (λ tuple. V (read_at refined level tuple field)) tuples → Carries (map field_column fields) name (map (packet_row refined level fields) tuples)
  packets refined level field name fields tuples is_field known h = record {
    known = known;
    each = all_map (HoldsAt (at_name (map field_column fields) name)) (packet_row refined level fields) tuples
        (all_weaker (λ tuple. V (read_at refined level tuple field)) (λ tuple. HoldsAt (at_name (map field_column fields) name) (packet_row refined level fields tuple)) (λ tuple v. subst V (sym (field_number refined level tuple field name is_field fields known)) v) tuples h);
  }
