-- What an operator of a typed branch makes of rows in which the carried column is changed.
use Rattle.std.proofs.Common.{◌≡◌, ℕ, suc, ◌+◌, ◌/◌, ◌^◌, ◌<◌, ◌≤◌, List, [], ◌∷◌, ◌++◌, map, length, slice_index, true, false, not, ◌||◌, ◌&&◌, ◌==◌, cond, nat_lt, min, Some, unwrap_or, refl, ap, sym, ◌∙◌, subst, arith}
use Rattle.std.specs.List.{AllByRecursion, count_by, list_any, list_all}
use Rattle.std.specs.Int.Bits.{bit_and}
use Rattle.std.proofs.lemmas.Bool.{false≢true, ltb-false}
use Rattle.std.proofs.lemmas.List.Sums.{sum_by-cons}
use Rattle.sn_base.proofs.FoldedLemmas.{same_row_exact}
use Rattle.sn_base.proofs.Lists.{all_front, all_rest, and_parts, by_test, nat_same, none_some, not_false, or_none}
use Rattle.sn_base.specs.Groups.{Apart, Row, columns_at, same_row}
use Rattle.sn_base.specs.declared.column.Column.{Column}
use Rattle.sn_query_grammar.specs.declared.ast.Cond.{Cond}
use Rattle.sn_query_grammar.specs.declared.ast.Expr.{Expr}
use Rattle.sn_query_grammar.specs.declared.ast.Expr.TheVariants.{Const, Copy, Mask, Shift, Sum, Ratio}
use Rattle.sn_query_grammar.specs.declared.ast.MapCol.{MapCol}
use Rattle.sn_query_grammar.specs.declared.ast.Reduce.{Reduce}
use Rattle.sn_query_grammar.specs.declared.ast.Relax.{Relax}
use Rattle.sn_query_grammar.specs.declared.ast.What.{What}
use Rattle.sn_query_grammar.specs.declared.ast.What.TheVariants as what
use Rattle.sn_types_faults.specs.Names.{Name, is_in, names_in, same_name}
use Rattle.sn_types_faults.specs.Columns.{carried_after, column_named, columns_after, copy_name, folded_column, has_column, is_copy, mapped_column, place_of}
use Rattle.sn_types_faults.specs.Faults.{filters, loses, reads_otherwise}
use Rattle.sn_types.specs.Typing.{typed_cond, typed_expr, typed_op, typed_reduce}
use Rattle.sn_types.specs.Values.{all_bits, compared, constant_at, greatest, holds, op_at, ratio, value_of}
use Rattle.sn_types.specs.declared.typed_op.TCond.{TCond}
use Rattle.sn_types.proofs.Known.{IsKnown, all_parts, same_row_self}
use Rattle.sn_types.proofs.RowLemmas.{place_is}
use Rattle.sn_types.proofs.Schemas.{IsSchema, mapped_whole, reduced_whole}
use Rattle.sn_types.proofs.Sound.{IsSound}
use Rattle.sn_types.proofs.CarriedPlaces.{at_name, copied, copy_of, found_name, here, is_first, is_later, apart_copy, key_known, later, mapped_known, mapped_number, named}
use Rattle.sn_refine_laws.specs.Carrying.{CarriesTo}
use Rattle.sn_refine_laws.specs.Masking.{Follows, KeyFollows, changed_at}
use Rattle.sn_refine_laws.proofs.Changed.{read_changed, read_other}

-- ---- places of names

place_at : (cs : List Column) (n : Name) → IsKnown cs n → place_of cs n ≡ at_name cs n
place_at cs n known = place_is (named n) cs known

-- names that differ stand at places that differ
at_apart : (cs : List Column) (n name : Name) → IsKnown cs n → IsKnown cs name → same_name n name ≡ false → at_name cs n ≡ at_name cs name → ⊥
at_apart [] n name kn kname other e = false≢true kn
at_apart (c ∷ cs) n name kn kname other e =
    by_test (same_name c.name n)
    (λ is. by_test (same_name c.name name)
    (λ was. let same : n ≡ name = sym (same_row_exact c.name n is) ∙ same_row_exact c.name name was in
    false≢true (sym other ∙ sym (ap (same_name n) same) ∙ same_row_self n))
    (λ wasnt. let ends : 0 ≡ suc (at_name cs name) = sym (here n c cs is) ∙ e ∙ later name c cs wasnt in absurd (omega (arith, ends))))
    (λ isnt. by_test (same_name c.name name)
    (λ was. let ends : suc (at_name cs n) ≡ 0 = sym (later n c cs isnt) ∙ e ∙ here name c cs was in absurd (omega (arith, ends)))
    (λ wasnt. let next : suc (at_name cs n) ≡ suc (at_name cs name) = sym (later n c cs isnt) ∙ e ∙ later name c cs wasnt in
    at_apart cs n name (sym (ap (λ b. b || has_column cs n) isnt) ∙ kn) (sym (ap (λ b. b || has_column cs name) wasnt) ∙ kname) other (omega (arith, next))))

module _ (m : ℕ → ℕ) (zeros : m 0 ≡ 0) (cs : List Column) (name : Name) (known : IsKnown cs name) where
  abbrev spot : ℕ
  spot = at_name cs name

  abbrev turned : Row → Row
  turned row = changed_at m row spot

  number_same : (row : Row) (n : Name) → IsKnown cs n → same_name n name ≡ false → slice_index (turned row) (place_of cs n) ≡ slice_index row (place_of cs n)
  number_same row n kn other = read_other m row spot (place_of cs n) (λ e. at_apart cs n name kn known other (sym (place_at cs n kn) ∙ e))

  -- ---- expressions that don't read the name

  value_same : (row : Row) (e : Expr) → is_in name (names_in e) ≡ false → AllByRecursion (IsKnown cs) (names_in e) → value_of (typed_expr cs e) (turned row) ≡ value_of (typed_expr cs e) row
  value_same row (Const n) none k = refl
  value_same row (Copy a) none k = number_same row a k.0 (or_none (same_name a name) false none).0
  value_same row (Mask a bits) none k = ap (λ n. bit_and n bits) (number_same row a k.0 (or_none (same_name a name) false none).0)
  value_same row (Shift a s) none k = ap (λ n. n / 2 ^ s) (number_same row a k.0 (or_none (same_name a name) false none).0)
  value_same row (Sum a b) none k =
      let parts = or_none (same_name a name) (same_name b name || false) none in
      ap (λ n. min (n + slice_index (turned row) (place_of cs b)) greatest) (number_same row a k.0 parts.0)
      ∙ ap (λ n. min (slice_index row (place_of cs a) + n) greatest) (number_same row b k.1.0 (or_none (same_name b name) false parts.1).0)
  value_same row (Ratio a s b) none k =
      let parts = or_none (same_name a name) (same_name b name || false) none in
      ap (λ n. ratio (min n greatest) s (min (slice_index (turned row) (place_of cs b)) greatest)) (number_same row a k.0 parts.0)
      ∙ ap (λ n. ratio (min (slice_index row (place_of cs a)) greatest) s (min n greatest)) (number_same row b k.1.0 (or_none (same_name b name) false parts.1).0)

  -- ---- a map with one copy

  abbrev values : List MapCol → Row → Row
  values cols row = map (λ e. value_of e row) (map (λ (c : MapCol). typed_expr cs c.expr) cols)

  copies : List MapCol → ℕ
  copies cols = count_by (λ (c : MapCol). is_copy name c.expr) cols

  copies_more : (c : MapCol) (cols : List MapCol) → copies (c ∷ cols) ≡ cond (is_copy name c.expr) 1 0 + copies cols
  unfolding copies
  copies_more c cols = sum_by-cons (λ (x : MapCol). cond (is_copy name x.expr) 1 0) c cols

  few_copies : (cols : List MapCol) → nat_lt 1 (count_by (λ (c : MapCol). is_copy name c.expr) cols) ≡ false → copies cols ≤ 1
  unfolding copies
  few_copies cols e = ltb-false 1 (count_by (λ (c : MapCol). is_copy name c.expr) cols) e

  rest_same : (row : Row) (cols : List MapCol) → copies cols ≡ 0 → list_any (reads_otherwise name) cols ≡ false → AllByRecursion (λ c. AllByRecursion (IsKnown cs) (names_in c.expr)) cols → values cols (turned row) ≡ values cols row
  rest_same row [] none plain k = refl
  rest_same row (c ∷ cols) none plain k =
      let parts = or_none (reads_otherwise name c) (list_any (reads_otherwise name) cols) plain in
      let sum : cond (is_copy name c.expr) 1 0 + copies cols ≡ 0 = sym (copies_more c cols) ∙ none in
      by_test (is_copy name c.expr)
      (λ is. let one : 1 + copies cols ≡ 0 = sym (ap (λ b. cond b 1 0 + copies cols) is) ∙ sum in absurd (omega (arith, one)))
      (λ isnt. let zero_more : 0 + copies cols ≡ 0 = sym (ap (λ b. cond b 1 0 + copies cols) isnt) ∙ sum in
      let unread : is_in name (names_in c.expr) ≡ false = sym (ap (λ b. not b && is_in name (names_in c.expr)) isnt) ∙ parts.0 in
      ap (λ v. v ∷ values cols (turned row)) (value_same row c.expr unread k.0)
      ∙ ap (λ vs. value_of (typed_expr cs c.expr) row ∷ vs) (rest_same row cols (omega (arith, zero_more)) parts.1 k.1))

  map_turned : (row : Row) (to : Name) (cols : List MapCol) → Apart same_row (map (λ c. c.name) cols) → copy_name name cols ≡ Some to → copies cols ≤ 1 → list_any (reads_otherwise name) cols ≡ false → AllByRecursion (λ c. AllByRecursion (IsKnown cs) (names_in c.expr)) cols →
      values cols (turned row) ≡ changed_at m (values cols row) (at_name (map (mapped_column cs) cols) to)
  map_turned row to [] apart copy few plain k = absurd (none_some copy)
  map_turned row to (c ∷ cols) apart copy few plain k =
      let parts = or_none (reads_otherwise name c) (list_any (reads_otherwise name) cols) plain in
      let made : List Column = map (mapped_column cs) cols in
      let v : ℕ = value_of (typed_expr cs c.expr) row in
      let vs : Row = values cols row in
      let more = copies_more c cols in
      by_test (is_copy name c.expr)
      (λ is. let sum : copies (c ∷ cols) ≡ 1 + copies cols = more ∙ ap (λ b. cond b 1 0 + copies cols) is in
      let first : at_name (map (mapped_column cs) (c ∷ cols)) to ≡ 0 = here to (mapped_column cs c) made (ap (λ n. same_name n to) (is_first name to c cols copy is) ∙ same_row_self to) in
      let number : value_of (typed_expr cs c.expr) (turned row) ≡ m v =
      copied cs (turned row) name c.expr is ∙ ap (slice_index (turned row)) (place_at cs name known) ∙ read_changed m zeros row spot ∙ ap m (ap (slice_index row) (sym (place_at cs name known)) ∙ sym (copied cs row name c.expr is)) in
      ap (λ n. n ∷ values cols (turned row)) number
      ∙ ap (λ ns. m v ∷ ns) (rest_same row cols (omega (arith, few, sum)) parts.1 k.1)
      ∙ ap (changed_at m (v ∷ vs)) (sym first))
      (λ isnt. let sum : copies (c ∷ cols) ≡ 0 + copies cols = more ∙ ap (λ b. cond b 1 0 + copies cols) isnt in
      let copy_later = is_later name to c cols copy isnt in
      let next : at_name (map (mapped_column cs) (c ∷ cols)) to ≡ suc (at_name made to) = later to (mapped_column cs c) made (apart_copy name to c.name cols apart.0 copy_later) in
      let unread : is_in name (names_in c.expr) ≡ false = sym (ap (λ b. not b && is_in name (names_in c.expr)) isnt) ∙ parts.0 in
      ap (λ n. n ∷ values cols (turned row)) (value_same row c.expr unread k.0)
      ∙ ap (λ ns. v ∷ ns) (map_turned row to cols apart.1 copy_later (omega (arith, few, sum)) parts.1 k.1)
      ∙ ap (changed_at m (v ∷ vs)) (sym next))

  -- ---- a reduce with the name among its keys

  key_turned : (row : Row) (keys : List Name) (rest : List Column) → Apart same_row keys → is_in name keys ≡ true → AllByRecursion (IsKnown cs) keys →
      columns_at (map (place_of cs) keys) (turned row) ≡ changed_at m (columns_at (map (place_of cs) keys) row) (at_name (map (column_named cs) keys ++ rest) name)
  key_turned row [] rest apart among k = absurd (false≢true among)
  key_turned row (n ∷ keys) rest apart among k =
      let own : (column_named cs n).name ≡ n = found_name n (record { name = n; width = 1; address = false }) cs refl in
      let following : List Column = map (column_named cs) keys ++ rest in
      let v : ℕ = slice_index row (place_of cs n) in
      let vs : Row = columns_at (map (place_of cs) keys) row in
      by_test (same_name n name)
      (λ is. let same : n ≡ name = same_row_exact n name is in
      let first : at_name (map (column_named cs) (n ∷ keys) ++ rest) name ≡ 0 = here name (column_named cs n) following (ap (λ x. same_name x name) own ∙ is) in
      let spot_is : place_of cs n ≡ spot = ap (place_of cs) same ∙ place_at cs name known in
      let number : slice_index (turned row) (place_of cs n) ≡ m v = ap (slice_index (turned row)) spot_is ∙ read_changed m zeros row spot ∙ ap m (ap (slice_index row) (sym spot_is)) in
      ap (λ x. x ∷ columns_at (map (place_of cs) keys) (turned row)) number
      ∙ ap (λ xs. m v ∷ xs) (others_same row keys (subst (λ (x : Name). AllByRecursion (λ y. same_row x y ≡ false) keys) same apart.0) k.1)
      ∙ ap (changed_at m (v ∷ vs)) (sym first))
      (λ isnt. let next : at_name (map (column_named cs) (n ∷ keys) ++ rest) name ≡ suc (at_name following name) = later name (column_named cs n) following (ap (λ x. same_name x name) own ∙ isnt) in
      ap (λ x. x ∷ columns_at (map (place_of cs) keys) (turned row)) (number_same row n k.0 isnt)
      ∙ ap (λ xs. v ∷ xs) (key_turned row keys rest apart.1 (sym (ap (λ b. b || is_in name keys) isnt) ∙ among) k.1)
      ∙ ap (changed_at m (v ∷ vs)) (sym next))
    where
      turn_same : (x y : Name) → same_row x y ≡ false → same_name y x ≡ false
      turn_same x y e = by_test (same_name y x) (λ is. absurd (false≢true (sym e ∙ ap (same_row x) (same_row_exact y x is) ∙ same_row_self x))) (λ isnt. isnt)

      others_same : (row : Row) (keys : List Name) → AllByRecursion (λ y. same_row name y ≡ false) keys → AllByRecursion (IsKnown cs) keys → columns_at (map (place_of cs) keys) (turned row) ≡ columns_at (map (place_of cs) keys) row
      others_same row [] far k = refl
      others_same row (x ∷ keys) far k =
          ap (λ v. v ∷ columns_at (map (place_of cs) keys) (turned row)) (number_same row x k.0 (turn_same name x far.0))
          ∙ ap (λ vs. slice_index row (place_of cs x) ∷ vs) (others_same row keys far.1 k.1)

  -- ---- a filter without relaxed constants

  conds_turned : (F r : ℕ) (row : Row) (conds : List Cond) → list_any (λ c. same_name c.name name) conds ≡ false → AllByRecursion (λ (c : Cond). IsKnown cs c.name) conds → list_all (λ (c : TCond). length c.relaxed == 0) (map (typed_cond cs) conds) ≡ true →
      list_all (λ c. holds r c (turned row)) (map (typed_cond cs) conds) ≡ list_all (λ c. holds F c row) (map (typed_cond cs) conds)
  conds_turned F r row [] none k fixed = refl
  conds_turned F r row (c ∷ conds) none k fixed =
      let parts = or_none (same_name c.name name) (list_any (λ (x : Cond). same_name x.name name) conds) none in
      let both = and_parts (length c.relaxed == 0) (list_all (λ (x : TCond). length x.relaxed == 0) (map (typed_cond cs) conds)) fixed in
      let one : holds r (typed_cond cs c) (turned row) ≡ holds F (typed_cond cs c) row =
      ap (λ n. compared c.cmp (bit_and n (unwrap_or c.and all_bits)) (constant_at r c.relaxed c.own)) (number_same row c.name k.0 parts.0)
      ∙ ap (compared c.cmp (bit_and (slice_index row (place_of cs c.name)) (unwrap_or c.and all_bits))) (no_relaxed r c.relaxed c.own both.0 ∙ sym (no_relaxed F c.relaxed c.own both.0)) in
      ap (λ b. b && list_all (λ x. holds r x (turned row)) (map (typed_cond cs) conds)) one
      ∙ ap (λ b. holds F (typed_cond cs c) row && b) (conds_turned F r row conds parts.1 k.1 both.1)
    where
      no_relaxed : (level : ℕ) (relaxed : List Relax) (own : ℕ) → (length relaxed == 0) ≡ true → constant_at level relaxed own ≡ own
      no_relaxed level [] own e = refl
      no_relaxed level (x ∷ relaxed) own e = let same = nat_same (length (x ∷ relaxed)) 0 e in absurd (omega (arith, same))

-- ---- one operator

-- where the carried column stands after an operator
pub record TakesOn (level : ℕ) (cs : List Column) (w : What) (name : Name) : Type 0 where
  pub to : Name
  pub is : carried_after name w ≡ Some to
  pub known : IsKnown (columns_after cs w) to
  pub carries : CarriesTo (op_at level (typed_op cs w)) (at_name cs name) (at_name (columns_after cs w) to)

pub key_place : (cs : List Column) (name : Name) (keys : List Name) (rest : List Column) → is_in name keys ≡ true →
    (at_name (map (column_named cs) keys ++ rest) name < length (map (place_of cs) keys)) × (slice_index (map (place_of cs) keys) (at_name (map (column_named cs) keys ++ rest) name) ≡ place_of cs name)
key_place cs name [] rest among = absurd (false≢true among)
key_place cs name (n ∷ keys) rest among =
    let own : (column_named cs n).name ≡ n = found_name n (record { name = n; width = 1; address = false }) cs refl in
    let following : List Column = map (column_named cs) keys ++ rest in
    let places : List ℕ = map (place_of cs) keys in
    let P : ℕ → Type 0 = λ i. (i < suc (length places)) × (slice_index (place_of cs n ∷ places) i ≡ place_of cs name) in
    by_test (same_name n name)
    (λ is. subst P (sym (here name (column_named cs n) following (ap (λ x. same_name x name) own ∙ is))) (omega arith, ap (place_of cs) (same_row_exact n name is)))
    (λ isnt. let next = key_place cs name keys rest (sym (ap (λ b. b || is_in name keys) isnt) ∙ among) in
    let lt = next.0 in
    subst P (sym (later name (column_named cs n) following (ap (λ x. same_name x name) own ∙ isnt))) (omega (arith, lt), next.1))

pub takes_on : (level : ℕ) (cs : List Column) (w : What) (name : Name) → IsSchema cs → IsSound cs w → loses name w ≡ false → IsKnown cs name → TakesOn level cs w name
takes_on level cs (what.Filter conds) name schema s kept known = record { to = name; is = refl; known = known; carries = refl }
takes_on level cs (what.Map cols) name schema s kept known =
    let copy = copy_of name cols (not_false (list_any (λ c. is_copy name c.expr) cols) kept) in
    let to : Name = copy.0 in
    let made : List Column = map (mapped_column cs) cols in
    let whole = mapped_whole cs cols s.limits.0 in
    let row_of : Row → Row = λ row. map (λ e. value_of e row) (map (λ (c : MapCol). typed_expr cs c.expr) cols) in
    record {
      to = to;
      is = copy.1;
      known = subst (λ (xs : List Column). IsKnown xs to) (sym whole) (mapped_known cs name to cols copy.1);
      carries = subst (λ (xs : List Column). (row : Row) → slice_index (row_of row) (at_name xs to) ≡ slice_index row (at_name cs name)) (sym whole)
          (λ row. mapped_number cs row name to cols s.limits.1 copy.1 ∙ ap (slice_index row) (place_at cs name known));
    }
takes_on level cs what.Distinct name schema s kept known = record { to = name; is = refl; known = known; carries = refl }
takes_on level cs (what.Reduce r) name schema s kept known =
    let among : is_in name r.keys ≡ true = not_false (is_in name r.keys) kept in
    let whole = reduced_whole cs r schema.few s in
    let rest : List Column = folded_column cs r ∷ [] in
    let place = key_place cs name r.keys rest among in
    let places : List ℕ = map (place_of cs) r.keys in
    record {
      to = name;
      is = refl;
      known = subst (λ (xs : List Column). IsKnown xs name) (sym whole) (key_known cs name r.keys rest among);
      carries = subst (λ (xs : List Column). (at_name xs name < length places) × (slice_index places (at_name xs name) ≡ at_name cs name)) (sym whole) (place.0, place.1 ∙ place_at cs name known);
    }

module _ (m : ℕ → ℕ) (zeros : m 0 ≡ 0) (F r : ℕ) (cs : List Column) (name : Name) (known : IsKnown cs name) where
  pub filter_follows : (conds : List Cond) → IsSound cs (what.Filter conds) → filters name (what.Filter conds) ≡ false → list_all (λ (c : TCond). length c.relaxed == 0) (map (typed_cond cs) conds) ≡ true →
      Follows m (op_at F (typed_op cs (what.Filter conds))) (op_at r (typed_op cs (what.Filter conds))) (at_name cs name) (at_name cs name)
  filter_follows conds s plain fixed = (refl, λ row. conds_turned m zeros cs name known F r row conds plain (each_known conds s.known) fixed)
    where
      each_known : (conds : List Cond) → AllByRecursion (IsKnown cs) (map (λ (c : Cond). c.name) conds) → AllByRecursion (λ (c : Cond). IsKnown cs c.name) conds
      each_known [] k = tt
      each_known (c ∷ conds) k = (k.0, each_known conds k.1)

  pub map_follows : (cols : List MapCol) (to : Name) → IsSound cs (what.Map cols) → filters name (what.Map cols) ≡ false → copy_name name cols ≡ Some to →
      Follows m (op_at F (typed_op cs (what.Map cols))) (op_at r (typed_op cs (what.Map cols))) (at_name cs name) (at_name (columns_after cs (what.Map cols)) to)
  map_follows cols to s plain copy =
      let parts = or_none (nat_lt 1 (count_by (λ (c : MapCol). is_copy name c.expr) cols)) (list_any (reads_otherwise name) cols) plain in
      let row_of : Row → Row = λ row. map (λ e. value_of e row) (map (λ (c : MapCol). typed_expr cs c.expr) cols) in
      subst (λ (xs : List Column). (row : Row) → row_of (changed_at m row (at_name cs name)) ≡ changed_at m (row_of row) (at_name xs to)) (sym (mapped_whole cs cols s.limits.0))
      (λ row. map_turned m zeros cs name known row to cols s.limits.1 copy (few_copies m zeros cs name known cols parts.0) parts.1 (all_parts (IsKnown cs) (λ (c : MapCol). names_in c.expr) cols s.known))

  pub key_follows : (d : Reduce) → IsSchema cs → IsSound cs (what.Reduce d) → loses name (what.Reduce d) ≡ false → filters name (what.Reduce d) ≡ false →
      KeyFollows m (record { places = map (place_of cs) d.keys; value = place_of cs d.value; by = (typed_reduce cs d).fold }) (at_name cs name) (at_name (columns_after cs (what.Reduce d)) name)
  key_follows d schema s kept plain =
      let among : is_in name d.keys ≡ true = not_false (is_in name d.keys) kept in
      let places : List ℕ = map (place_of cs) d.keys in
      record {
        key = subst (λ (xs : List Column). (row : Row) → columns_at places (changed_at m row (at_name cs name)) ≡ changed_at m (columns_at places row) (at_name xs name)) (sym (reduced_whole cs d schema.few s))
            (λ row. key_turned m zeros cs name known row d.keys (folded_column cs d ∷ []) s.limits.apart among (all_front (IsKnown cs) d.keys (d.value ∷ []) s.known));
        value = λ row. number_same m zeros cs name known row d.value (all_rest (IsKnown cs) d.keys (d.value ∷ []) s.known).0 plain;
      }
