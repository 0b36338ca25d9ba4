-- The place of the carried column, followed along typed operators, is that of its name.
use Rattle.std.proofs.Common.{◌≡◌, ℕ, suc, ◌+◌, List, [], ◌∷◌, ◌++◌, map, true, false, not, ◌||◌, ◌==◌, cond, None, Some, refl, ap, sym, ◌∙◌, subst, arith}
use Rattle.std.specs.List.{AllByRecursion, list_any, position_or_len}
use Rattle.std.proofs.Math.Bool.{Bool-set}
use Rattle.std.proofs.lemmas.Bool.{false≢true}
use Rattle.sn_base.proofs.FoldedLemmas.{same_row_exact}
use Rattle.sn_base.proofs.Lists.{all_front, by_test, nat_same, nat_self, none_some, not_false, not_true, or_left, or_right}
use Rattle.sn_base.specs.Groups.{Apart, same_row}
use Rattle.sn_base.specs.declared.column.Column.{Column}
use Rattle.sn_query_grammar.specs.declared.ast.Expr.{Expr}
use Rattle.sn_query_grammar.specs.declared.ast.Expr.TheVariants.{Const, Copy, Mask, Shift, Sum, Ratio}
use Rattle.sn_query_grammar.specs.declared.ast.MapCol.{MapCol}
use Rattle.sn_query_grammar.specs.declared.ast.Op.{Op}
use Rattle.sn_query_grammar.specs.declared.ast.What.{What}
use Rattle.sn_query_grammar.specs.declared.ast.What.TheVariants as what
use Rattle.sn_types_faults.specs.declared.scope.Scope.{Scope}
use Rattle.sn_types_faults.specs.Columns.{carried_after, column_named, columns_after, copy_name, folded_column, has_column, is_copy, mapped_column, place_of}
use Rattle.sn_types_faults.specs.Faults.{loses}
use Rattle.sn_types_faults.specs.Names.{Name, is_in, names_in, same_name}
use Rattle.sn_types_faults.specs.Walk.Place.{Operator}
use Rattle.sn_types_faults.specs.Walk.{carried_along, fault_at, first_fault, is_end, operator_places, scope_after}
use Rattle.sn_types.specs.Typing.{typed_expr, typed_op, typed_ops}
use Rattle.sn_types.specs.declared.typed_op.TExpr.{TExpr}
use Rattle.sn_types.specs.declared.typed_op.TOp.{TOp}
use Rattle.sn_types.specs.declared.typed_op.TOp.TheVariants as ops
use Rattle.sn_types.proofs.Known.{IsKnown, all_parts, same_row_self}
use Rattle.sn_types.proofs.RowLemmas.{place_is}
use Rattle.sn_types.proofs.Schemas.{IsSchema, mapped_whole, reduced_whole, schema_after}
use Rattle.sn_types.proofs.Sound.{AreSound, IsSound}
use Rattle.sn_types.proofs.Sources.{later_none}
use Rattle.sn_types.proofs.CarriedPlaces.{apart_copy, at_name, copy_of, found_name, here, is_first, is_later, key_known, later, mapped_known, named}
use Rattle.sn_types.proofs.NotLost.{not_lost}
use Rattle.sn_types.specs.Places.{copies, place_after}

-- ---- an operator carries the column at a place

abbrev pub Holds : TOp → ℕ → Type 0
Holds (ops.Filter conds) p = Unit {0}
Holds (ops.Map exprs) p = list_any (copies p) exprs ≡ true
Holds ops.Distinct p = Unit {0}
Holds (ops.Reduce r) p = list_any (λ k. k == p) r.keys ≡ true

abbrev pub AllHold : List TOp → ℕ → Type 0
AllHold [] p = Unit {0}
AllHold (op ∷ os) p = Holds op p × AllHold os (place_after op p)

unit_prop : IsProp (Unit {0})
unit_prop x y = refl

holds_prop : (op : TOp) (p : ℕ) → IsProp (Holds op p)
holds_prop (ops.Filter conds) p = unit_prop
holds_prop (ops.Map exprs) p = hlevel Bool-set
holds_prop ops.Distinct p = unit_prop
holds_prop (ops.Reduce r) p = hlevel Bool-set

pub all_hold_prop : (os : List TOp) (p : ℕ) → IsProp (AllHold os p)
all_hold_prop [] p = unit_prop
all_hold_prop (op ∷ os) p = hlevel (holds_prop op p, all_hold_prop os (place_after op p))

-- ---- two names have one place only where they are one

after_other : (c : Column) (cs : List Column) (name : Name) → same_name c.name name ≡ false → IsKnown (c ∷ cs) name → IsKnown cs name
after_other c cs name isnt known = sym (ap (λ b. b || has_column cs name) isnt) ∙ known

one_name : (cs : List Column) (a b : Name) → IsKnown cs a → IsKnown cs b → at_name cs a ≡ at_name cs b → a ≡ b
one_name [] a b on_a on_b e = absurd (false≢true on_a)
one_name (c ∷ cs) a b on_a on_b e =
    by_test (same_name c.name a)
    (λ is_a. by_test (same_name c.name b)
    (λ is_b. sym (same_row_exact c.name a is_a) ∙ same_row_exact c.name b is_b)
    (λ not_b. let x = here a c cs is_a in let y = later b c cs not_b in absurd (omega (arith, x, y, e))))
    (λ not_a. by_test (same_name c.name b)
    (λ is_b. let x = later a c cs not_a in let y = here b c cs is_b in absurd (omega (arith, x, y, e)))
    (λ not_b. let x = later a c cs not_a in let y = later b c cs not_b in one_name cs a b (after_other c cs a not_a on_a) (after_other c cs b not_b on_b) (omega (arith, x, y, e))))

-- the place of a name that is known is another's place only where they are one name
place_named : (cs : List Column) (a name : Name) → IsKnown cs a → IsKnown cs name → (place_of cs a == at_name cs name) ≡ same_name a name
place_named cs a name on_a on_name =
    let own : place_of cs a ≡ at_name cs a = place_is (named a) cs on_a in
    by_test (same_name a name)
    (λ is. ap (λ (k : ℕ). k == at_name cs name) (own ∙ ap (at_name cs) (same_row_exact a name is)) ∙ nat_self (at_name cs name) ∙ sym is)
    (λ isnt. not_true (place_of cs a == at_name cs name) (λ e.
    let one : a ≡ name = one_name cs a name on_a on_name (sym own ∙ nat_same (place_of cs a) (at_name cs name) e) in
    false≢true (sym isnt ∙ ap (same_name a) (sym one) ∙ same_row_self a)) ∙ sym isnt)

-- ---- a map

copies_named : (cs : List Column) (name : Name) (e : Expr) → IsKnown cs name → AllByRecursion (IsKnown cs) (names_in e) → copies (at_name cs name) (typed_expr cs e) ≡ is_copy name e
copies_named cs name (Const n) on_name known = refl
copies_named cs name (Copy a) on_name known = place_named cs a name known.0 on_name
copies_named cs name (Mask a bits) on_name known = refl
copies_named cs name (Shift a k) on_name known = refl
copies_named cs name (Sum a b) on_name known = refl
copies_named cs name (Ratio a k b) on_name known = refl

abbrev typed_cols : List Column → List MapCol → List TExpr
typed_cols cs cols = map (λ (c : MapCol). typed_expr cs c.expr) cols

map_holds : (cs : List Column) (name : Name) (cols : List MapCol) → IsKnown cs name → AllByRecursion (λ c. AllByRecursion (IsKnown cs) (names_in c.expr)) cols → list_any (λ c. is_copy name c.expr) cols ≡ true → list_any (copies (at_name cs name)) (typed_cols cs cols) ≡ true
map_holds cs name [] on_name known any = absurd (false≢true any)
map_holds cs name (c ∷ cols) on_name known any =
    let test = copies_named cs name c.expr on_name known.0 in
    let rest = list_any (copies (at_name cs name)) (typed_cols cs cols) in
    by_test (is_copy name c.expr)
    (λ is. or_left (copies (at_name cs name) (typed_expr cs c.expr)) rest (test ∙ is))
    (λ isnt. or_right (copies (at_name cs name) (typed_expr cs c.expr)) rest (map_holds cs name cols on_name known.1 (sym (ap (λ b. b || list_any (λ (d : MapCol). is_copy name d.expr) cols) isnt) ∙ any)))

map_place : (cs : List Column) (name to : Name) (cols : List MapCol) → IsKnown cs name → AllByRecursion (λ c. AllByRecursion (IsKnown cs) (names_in c.expr)) cols → Apart same_row (map (λ c. c.name) cols) → copy_name name cols ≡ Some to →
    position_or_len (copies (at_name cs name)) (typed_cols cs cols) ≡ at_name (map (mapped_column cs) cols) to
map_place cs name to [] on_name known apart copy = absurd (none_some copy)
map_place cs name to (c ∷ cols) on_name known apart copy =
    let test = copies_named cs name c.expr on_name known.0 in
    let rest : ℕ = position_or_len (copies (at_name cs name)) (typed_cols cs cols) in
    let made : List Column = map (mapped_column cs) cols in
    by_test (is_copy name c.expr)
    (λ is. ap (λ b. cond (not b) (1 + rest) 0) (test ∙ is) ∙ sym (here to (mapped_column cs c) made (ap (λ m. same_name m to) (is_first name to c cols copy is) ∙ same_row_self to)))
    (λ isnt.
    let copy_later = is_later name to c cols copy isnt in
    let one : 1 + rest ≡ suc (at_name made to) = let e = map_place cs name to cols on_name known.1 apart.1 copy_later in omega (arith, e) in
    ap (λ b. cond (not b) (1 + rest) 0) (test ∙ isnt) ∙ one ∙ sym (later to (mapped_column cs c) made (apart_copy name to c.name cols apart.0 copy_later)))

-- ---- keys

key_holds : (cs : List Column) (name : Name) (keys : List Name) → IsKnown cs name → AllByRecursion (IsKnown cs) keys → is_in name keys ≡ true → list_any (λ k. k == at_name cs name) (map (place_of cs) keys) ≡ true
key_holds cs name [] on_name known among = absurd (false≢true among)
key_holds cs name (k ∷ keys) on_name known among =
    let test = place_named cs k name known.0 on_name in
    let rest = list_any (λ n. n == at_name cs name) (map (place_of cs) keys) in
    by_test (same_name k name)
    (λ is. or_left (place_of cs k == at_name cs name) rest (test ∙ is))
    (λ isnt. or_right (place_of cs k == at_name cs name) rest (key_holds cs name keys on_name known.1 (sym (ap (λ b. b || is_in name keys) isnt) ∙ among)))

key_place : (cs : List Column) (name : Name) (keys : List Name) (following : List Column) → IsKnown cs name → AllByRecursion (IsKnown cs) keys → is_in name keys ≡ true →
    position_or_len (λ k. k == at_name cs name) (map (place_of cs) keys) ≡ at_name (map (column_named cs) keys ++ following) name
key_place cs name [] following on_name known among = absurd (false≢true among)
key_place cs name (k ∷ keys) following on_name known among =
    let test = place_named cs k name known.0 on_name in
    let rest : ℕ = position_or_len (λ n. n == at_name cs name) (map (place_of cs) keys) in
    let own : (column_named cs k).name ≡ k = found_name k (record { name = k; width = 1; address = false }) cs refl in
    let made : List Column = map (column_named cs) keys ++ following in
    by_test (same_name k name)
    (λ is. ap (λ b. cond (not b) (1 + rest) 0) (test ∙ is) ∙ sym (here name (column_named cs k) made (ap (λ m. same_name m name) own ∙ is)))
    (λ isnt.
    let one : 1 + rest ≡ suc (at_name made name) = let e = key_place cs name keys following on_name known.1 (sym (ap (λ b. b || is_in name keys) isnt) ∙ among) in omega (arith, e) in
    ap (λ b. cond (not b) (1 + rest) 0) (test ∙ isnt) ∙ one ∙ sym (later name (column_named cs k) made (ap (λ m. same_name m name) own ∙ isnt)))

-- ---- one operator

record Goes (cs : List Column) (w : What) (name : Name) : Type 0 where
  to : Name
  is : carried_after name w ≡ Some to
  known : IsKnown (columns_after cs w) to
  holds : Holds (typed_op cs w) (at_name cs name)
  place : place_after (typed_op cs w) (at_name cs name) ≡ at_name (columns_after cs w) to

goes : (cs : List Column) (w : What) (name : Name) → IsSchema cs → IsSound cs w → loses name w ≡ false → IsKnown cs name → Goes cs w name
goes cs (what.Filter conds) name schema s kept known = record { to = name; is = refl; known = known; holds = tt; place = refl }
goes cs (what.Map cols) name schema s kept known =
    let any = not_false (list_any (λ c. is_copy name c.expr) cols) kept in
    let copy = copy_of name cols any in
    let each = all_parts (IsKnown cs) (λ (c : MapCol). names_in c.expr) cols s.known in
    let found = map_holds cs name cols known each any in
    let whole = mapped_whole cs cols s.limits.0 in
    record {
      to = copy.0;
      is = copy.1;
      known = subst (λ (xs : List Column). IsKnown xs copy.0) (sym whole) (mapped_known cs name copy.0 cols copy.1);
      holds = found;
      place = place_is (copies (at_name cs name)) (typed_cols cs cols) found ∙ map_place cs name copy.0 cols known each s.limits.1 copy.1 ∙ ap (λ (xs : List Column). at_name xs copy.0) (sym whole);
    }
goes cs what.Distinct name schema s kept known = record { to = name; is = refl; known = known; holds = tt; place = refl }
goes cs (what.Reduce r) name schema s kept known =
    let among = not_false (is_in name r.keys) kept in
    let each = all_front (IsKnown cs) r.keys (r.value ∷ []) s.known in
    let found = key_holds cs name r.keys known each among in
    let whole = reduced_whole cs r schema.few s in
    record {
      to = name;
      is = refl;
      known = subst (λ (xs : List Column). IsKnown xs name) (sym whole) (key_known cs name r.keys (folded_column cs r ∷ []) among);
      holds = found;
      place = place_is (λ (k : ℕ). k == at_name cs name) (map (place_of cs) r.keys) found ∙ key_place cs name r.keys (folded_column cs r ∷ []) known each among ∙ ap (λ (xs : List Column). at_name xs name) (sym whole);
    }

-- ---- along operators

pub along : (levels : List ℕ) (scope : Scope) (os : List Op) (name : Name) → scope.carried ≡ Some name → first_fault (operator_places levels scope os) ≡ None → IsSchema scope.columns → AreSound scope.columns os → IsKnown scope.columns name →
    AllHold (typed_ops scope.columns os) (at_name scope.columns name)
along levels scope [] name carried none schema s known = tt
along levels scope (op ∷ os) name carried none schema s known =
    let parts = later_none (fault_at (Operator levels scope op (is_end os))) (first_fault (operator_places levels (scope_after scope op.what) os)) none in
    let lost = not_lost levels scope op (is_end os) name carried parts.0 in
    let one = goes scope.columns op.what name schema s.0 lost.0 known in
    let rest : AllHold (typed_ops (columns_after scope.columns op.what) os) (at_name (columns_after scope.columns op.what) one.to) =
    along levels (scope_after scope op.what) os one.to (ap (λ o. carried_along o op.what) carried ∙ one.is) parts.1 (schema_after scope.columns op.what schema s.0) s.1 one.known in
    (one.holds, subst (AllHold (typed_ops (columns_after scope.columns op.what) os)) (sym one.place) rest)
