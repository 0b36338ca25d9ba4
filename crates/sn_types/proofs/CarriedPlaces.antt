-- The place of the carried column after one operator.
use Rattle.std.proofs.Common.{◌≡◌, ℕ, suc, ◌+◌, List, [], ◌∷◌, ◌++◌, map, Bool, true, false, not, ◌||◌, cond, slice_index, Option, Some, unwrap_or, refl, ap, sym, ◌∙◌, arith}
use Rattle.std.specs.List.{AllByRecursion, list_any, position_or_len, find}
use Rattle.std.proofs.lemmas.Bool.{false≢true}
use Rattle.sn_base.proofs.FoldedLemmas.{same_row_exact}
use Rattle.sn_base.proofs.Lists.{by_test, none_some, or_left, or_right, some_same}
use Rattle.sn_base.specs.Groups.{Apart, Row, columns_at, same_row}
use Rattle.sn_base.specs.declared.column.Column.{Column}
use Rattle.sn_fields.specs.declared.field.Field.{Field}
use Rattle.sn_fields.specs.Fields.{name_of, with_name}
use Rattle.sn_fields.proofs.Naming.{with_name_all}
use Rattle.sn_query_grammar.specs.declared.ast.Expr.{Expr}
use Rattle.sn_query_grammar.specs.declared.ast.Expr.TheVariants.{Const, Copy, Mask, Shift, Sum, Ratio}
use Rattle.sn_query_grammar.specs.declared.ast.MapCol.{MapCol}
use Rattle.sn_types_faults.specs.Names.{Name, is_in, same_name}
use Rattle.sn_types_faults.specs.Columns.{column_named, copy_name, field_column, has_column, is_copy, mapped_column, place_of}
use Rattle.sn_types.specs.Typed.{read_at}
use Rattle.sn_types.specs.Typing.{typed_expr}
use Rattle.sn_types.specs.Values.{value_of}
use Rattle.sn_types.proofs.Known.{IsKnown, same_row_self}

-- ---- the place of a name

abbrev pub named : Name → Column → Bool
named name c = same_name c.name name

abbrev pub at_name : List Column → Name → ℕ
at_name cs name = position_or_len (named name) cs

pub here : (name : Name) (c : Column) (cs : List Column) → same_name c.name name ≡ true → at_name (c ∷ cs) name ≡ 0
here name c cs is = ap (λ b. cond (not b) (1 + at_name cs name) 0) is

pub later : (name : Name) (c : Column) (cs : List Column) → same_name c.name name ≡ false → at_name (c ∷ cs) name ≡ suc (at_name cs name)
later name c cs isnt = let next : 1 + at_name cs name ≡ suc (at_name cs name) = omega arith in ap (λ b. cond (not b) (1 + at_name cs name) 0) isnt ∙ next

-- a column that is found by its name has it
pub found_name : (n : Name) (d : Column) (cs : List Column) → d.name ≡ n → (unwrap_or (find (named n) cs) d).name ≡ n
found_name n d [] e = e
found_name n d (c ∷ cs) e =
    let rest : Option Column = find (named n) cs in
    by_test (same_name c.name n)
    (λ is. ap (λ b. (unwrap_or (cond b (Some c) rest) d).name) is ∙ same_row_exact c.name n is)
    (λ isnt. ap (λ b. (unwrap_or (cond b (Some c) rest) d).name) isnt ∙ found_name n d cs e)

-- ---- a map

pub copied : (cs : List Column) (row : Row) (name : Name) (e : Expr) → is_copy name e ≡ true → value_of (typed_expr cs e) row ≡ slice_index row (place_of cs name)
copied cs row name (Const n) is = absurd (false≢true is)
copied cs row name (Copy a) is = ap (λ m. slice_index row (place_of cs m)) (same_row_exact a name is)
copied cs row name (Mask a bits) is = absurd (false≢true is)
copied cs row name (Shift a k) is = absurd (false≢true is)
copied cs row name (Sum a b) is = absurd (false≢true is)
copied cs row name (Ratio a k b) is = absurd (false≢true is)

-- what the first copy is called
pub copy_of : (name : Name) (cols : List MapCol) → list_any (λ c. is_copy name c.expr) cols ≡ true → (to : Name) × (copy_name name cols ≡ Some to)
copy_of name [] any = absurd (false≢true any)
copy_of name (c ∷ cols) any =
    by_test (is_copy name c.expr)
    (λ is. (c.name, ap (λ b. cond b (Some c.name) (copy_name name cols)) is))
    (λ isnt. let rest = copy_of name cols (sym (ap (λ b. b || list_any (λ d. is_copy name d.expr) cols) isnt) ∙ any) in
    (rest.0, ap (λ b. cond b (Some c.name) (copy_name name cols)) isnt ∙ rest.1))

pub is_first : (name to : Name) (c : MapCol) (cols : List MapCol) → copy_name name (c ∷ cols) ≡ Some to → is_copy name c.expr ≡ true → c.name ≡ to
is_first name to c cols copy is = some_same c.name to (sym (ap (λ b. cond b (Some c.name) (copy_name name cols)) is) ∙ copy)

pub is_later : (name to : Name) (c : MapCol) (cols : List MapCol) → copy_name name (c ∷ cols) ≡ Some to → is_copy name c.expr ≡ false → copy_name name cols ≡ Some to
is_later name to c cols copy isnt = sym (ap (λ b. cond b (Some c.name) (copy_name name cols)) isnt) ∙ copy

-- a name that is apart from all of them is apart from that of the copy
pub apart_copy : (name to m : Name) (cols : List MapCol) → AllByRecursion (λ x. same_row m x ≡ false) (map (λ c. c.name) cols) → copy_name name cols ≡ Some to → same_row m to ≡ false
apart_copy name to m [] apart copy = absurd (none_some copy)
apart_copy name to m (c ∷ cols) apart copy =
    by_test (is_copy name c.expr)
    (λ is. ap (same_row m) (sym (is_first name to c cols copy is)) ∙ apart.0)
    (λ isnt. apart_copy name to m cols apart.1 (is_later name to c cols copy isnt))

pub mapped_known : (cs : List Column) (name to : Name) (cols : List MapCol) → copy_name name cols ≡ Some to → IsKnown (map (mapped_column cs) cols) to
mapped_known cs name to [] copy = absurd (none_some copy)
mapped_known cs name to (c ∷ cols) copy =
    let rest = has_column (map (mapped_column cs) cols) to in
    by_test (is_copy name c.expr)
    (λ is. or_left (same_name c.name to) rest (ap (λ m. same_name m to) (is_first name to c cols copy is) ∙ same_row_self to))
    (λ isnt. or_right (same_name c.name to) rest (mapped_known cs name to cols (is_later name to c cols copy isnt)))

pub mapped_number : (cs : List Column) (row : Row) (name to : Name) (cols : List MapCol) → Apart same_row (map (λ c. c.name) cols) → copy_name name cols ≡ Some to →
    slice_index (map (λ e. value_of e row) (map (λ c. typed_expr cs c.expr) cols)) (at_name (map (mapped_column cs) cols) to) ≡ slice_index row (place_of cs name)
mapped_number cs row name to [] apart copy = absurd (none_some copy)
mapped_number cs row name to (c ∷ cols) apart copy =
    let numbers : Row = map (λ e. value_of e row) (map (λ (d : MapCol). typed_expr cs d.expr) cols) in
    let number : ℕ = value_of (typed_expr cs c.expr) row in
    let made : List Column = map (mapped_column cs) cols in
    by_test (is_copy name c.expr)
    (λ is. ap (slice_index (number ∷ numbers)) (here to (mapped_column cs c) made (ap (λ m. same_name m to) (is_first name to c cols copy is) ∙ same_row_self to)) ∙ copied cs row name c.expr is)
    (λ isnt. let copy_later = is_later name to c cols copy isnt in
    ap (slice_index (number ∷ numbers)) (later to (mapped_column cs c) made (apart_copy name to c.name cols apart.0 copy_later)) ∙ mapped_number cs row name to cols apart.1 copy_later)

-- ---- keys

pub key_known : (cs : List Column) (name : Name) (keys : List Name) (rest : List Column) → is_in name keys ≡ true → IsKnown (map (column_named cs) keys ++ rest) name
key_known cs name [] rest among = absurd (false≢true among)
key_known cs name (k ∷ keys) rest among =
    let own : (column_named cs k).name ≡ k = found_name k (record { name = k; width = 1; address = false }) cs refl in
    let following = has_column (map (column_named cs) keys ++ rest) name in
    by_test (same_name k name)
    (λ is. or_left (same_name (column_named cs k).name name) following (ap (λ m. same_name m name) own ∙ is))
    (λ isnt. or_right (same_name (column_named cs k).name name) following (key_known cs name keys rest (sym (ap (λ b. b || is_in name keys) isnt) ∙ among)))

pub key_number : (cs : List Column) (row : Row) (name : Name) (keys : List Name) (rest : List Column) (tail : Row) → is_in name keys ≡ true →
    slice_index (columns_at (map (place_of cs) keys) row ++ tail) (at_name (map (column_named cs) keys ++ rest) name) ≡ slice_index row (place_of cs name)
key_number cs row name [] rest tail among = absurd (false≢true among)
key_number cs row name (k ∷ keys) rest tail among =
    let own : (column_named cs k).name ≡ k = found_name k (record { name = k; width = 1; address = false }) cs refl in
    let numbers : Row = columns_at (map (place_of cs) keys) row ++ tail in
    let number : ℕ = slice_index row (place_of cs k) in
    let following : List Column = map (column_named cs) keys ++ rest in
    by_test (same_name k name)
    (λ is. ap (slice_index (number ∷ numbers)) (here name (column_named cs k) following (ap (λ m. same_name m name) own ∙ is)) ∙ ap (λ m. slice_index row (place_of cs m)) (same_row_exact k name is))
    (λ isnt. ap (slice_index (number ∷ numbers)) (later name (column_named cs k) following (ap (λ m. same_name m name) own ∙ isnt))
    ∙ key_number cs row name keys rest tail (sym (ap (λ b. b || is_in name keys) isnt) ∙ among))

-- ---- packet rows

pub field_number : (refined : Option Field) (level : ℕ) (tuple : List ℕ) (field : Field) (name : Name) → with_name name ≡ Some field → (fields : List Field) → IsKnown (map field_column fields) name →
    slice_index (map (read_at refined level tuple) fields) (at_name (map field_column fields) name) ≡ read_at refined level tuple field
field_number refined level tuple field name is_field [] known = absurd (false≢true known)
field_number refined level tuple field name is_field (g ∷ fields) known =
    let numbers : Row = map (read_at refined level tuple) fields in
    let number : ℕ = read_at refined level tuple g in
    let following : List Column = map field_column fields in
    by_test (same_name (name_of g) name)
    (λ is. let same : field ≡ g = some_same field g (with_name_all name (Some field) (sym is_field) g (same_row_exact (name_of g) name is)) in
    ap (slice_index (number ∷ numbers)) (here name (field_column g) following is) ∙ ap (read_at refined level tuple) (sym same))
    (λ isnt. ap (slice_index (number ∷ numbers)) (later name (field_column g) following isnt)
    ∙ field_number refined level tuple field name is_field fields (sym (ap (λ b. b || has_column following name) isnt) ∙ known))
