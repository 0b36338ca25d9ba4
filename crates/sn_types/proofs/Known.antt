-- Where no name is unknown, each operator reads columns that it has.
use Rattle.std.proofs.Common.{◌≡◌, ℕ, ◌<◌, ◌≤◌, List, [], ◌∷◌, ◌++◌, map, filter, length, Bool, true, false, not, cond, nat_lt, is_none, None, Some, unwrap_or, refl, ap, sym, ◌∙◌, subst, arith, append_assoc}
use Rattle.std.proofs.lemmas.Bool.{ltb-true, le-leb}
use Rattle.std.proofs.lemmas.List.{length-map}
use Rattle.std.proofs.lemmas.List.Folds.{list_any-append}
use Rattle.std.specs.List.{AllByRecursion, flat_map, list_any, find, position, position_or_len}
use Rattle.sn_base.proofs.Lists.{by_test, or_left, or_right, not_false, all_map, all_weaker, or_none, all_unmap, all_front, all_rest, all_both}
use Rattle.std.specs.Cmp.Lexicographic.{bytes_decides}
use Rattle.sn_base.proofs.FoldedLemmas.{same_row_exact}
use Rattle.sn_base.specs.declared.column.Column.{Column}
use Rattle.sn_fields.specs.declared.field.Field.{Field}
use Rattle.sn_fields.specs.Fields.{fields, name_of, with_name}
use Rattle.sn_query_grammar.specs.declared.ast.Cond.{Cond}
use Rattle.sn_query_grammar.specs.declared.ast.MapCol.{MapCol}
use Rattle.sn_query_grammar.specs.declared.ast.Expr.{Expr}
use Rattle.sn_query_grammar.specs.declared.ast.Expr.TheVariants.{Const, Copy, Mask, Shift, Sum, Ratio}
use Rattle.sn_query_grammar.specs.declared.ast.Op.{Op}
use Rattle.sn_query_grammar.specs.declared.ast.What.{What}
use Rattle.sn_query_grammar.specs.declared.ast.What.TheVariants as what
use Rattle.sn_types_faults.specs.Names.{Name, same_name, is_in, names_in, names_read, names_to_map, fields_among, packet_fields}
use Rattle.sn_types_faults.specs.Columns.{has_column, place_of, field_column, packet_columns, as_schema}
use Rattle.sn_query_grammar.specs.Limits.{IsPostExpr}
use Rattle.sn_types.specs.declared.typed_op.TCond.{TCond}
use Rattle.sn_types.specs.Typing.{typed_cond, typed_expr, typed_op}
use Rattle.sn_types.specs.Values.{ReadsWithin}
use Rattle.sn_types.specs.WellFormed.{StaysWithin}

-- ---- lists

-- where a test's failure is nowhere, the test holds everywhere
pub holds_for_each : {X : Type 0} (q : X → Bool) (xs : List X) → list_any (λ x. not (q x)) xs ≡ false → AllByRecursion (λ x. q x ≡ true) xs
holds_for_each q [] e = tt
holds_for_each q (x ∷ xs) e =
    let parts = or_none (not (q x)) (list_any (λ y. not (q y)) xs) e in
    (not_false (q x) parts.0, holds_for_each q xs parts.1)

pub all_parts : {X Y : Type 0} (P : Y → Type 0) (f : X → List Y) (xs : List X) → AllByRecursion P (flat_map f xs) → AllByRecursion (λ x. AllByRecursion P (f x)) xs
all_parts P f [] h = tt
all_parts P f (x ∷ xs) h = (all_front P (f x) (flat_map f xs) h, all_parts P f xs (all_rest P (f x) (flat_map f xs) h))

-- ---- places

some_among : {X : Type 0} (p : X → Bool) (xs : List X) → list_any p xs ≡ true → 0 < length xs
some_among p [] e = cc
some_among p (x ∷ xs) e = omega arith

place_within : {X : Type 0} (p : X → Bool) (xs : List X) → list_any p xs ≡ true → unwrap_or (position p xs) 0 < length xs
place_within p xs any =
    let k : ℕ = position_or_len p xs in
    let P : Bool → Type 0 = λ b. unwrap_or (cond b (Some k) None) 0 < length xs in
    by_test (nat_lt k (length xs))
    (λ is. subst P (sym is) (ltb-true k (length xs) is))
    (λ isnt. subst P (sym isnt) (some_among p xs any))

-- a name is a column's
abbrev pub IsKnown : List Column → Name → Type 0
IsKnown columns n = has_column columns n ≡ true

pub known_place : (columns : List Column) (n : Name) → IsKnown columns n → place_of columns n < length columns
known_place columns n h = place_within (λ c. same_name c.name n) columns h

-- ---- operators

-- shifts are by less than 64
abbrev pub ShiftsLawfully : What → Type 0
ShiftsLawfully (what.Filter conds) = Unit {0}
ShiftsLawfully (what.Map cols) = AllByRecursion (λ c. IsPostExpr c.expr) cols
ShiftsLawfully what.Distinct = Unit {0}
ShiftsLawfully (what.Reduce r) = Unit {0}

reads_within : (columns : List Column) (e : Expr) → IsPostExpr e → AllByRecursion (IsKnown columns) (names_in e) → ReadsWithin (length columns) (typed_expr columns e)
reads_within columns (Const n) s h = tt
reads_within columns (Copy a) s h = known_place columns a h.0
reads_within columns (Mask a bits) s h = known_place columns a h.0
reads_within columns (Shift a k) s h = known_place columns a h.0
reads_within columns (Sum a b) s h = (known_place columns a h.0, known_place columns b h.1.0)
reads_within columns (Ratio a k b) s h = (known_place columns a h.0, known_place columns b h.1.0)

-- an operator all of whose names are columns stays within them
pub stays_within : (columns : List Column) (w : What) → ShiftsLawfully w → AllByRecursion (IsKnown columns) (names_read w) → StaysWithin (length columns) (typed_op columns w)
stays_within columns (what.Filter conds) s h =
    all_map (λ (t : TCond). t.col < length columns) (typed_cond columns) conds
    (all_weaker (λ c. IsKnown columns c.name) (λ c. place_of columns c.name < length columns) (λ c. known_place columns c.name) conds (all_unmap (IsKnown columns) (λ (c : Cond). c.name) conds h))
stays_within columns (what.Map cols) s h =
    all_map (ReadsWithin (length columns)) (λ (c : MapCol). typed_expr columns c.expr) cols
    (all_weaker (λ c. IsPostExpr c.expr × AllByRecursion (IsKnown columns) (names_in c.expr)) (λ c. ReadsWithin (length columns) (typed_expr columns c.expr)) (λ c both. reads_within columns c.expr both.0 both.1) cols
    (all_both (λ c. IsPostExpr c.expr) (λ c. AllByRecursion (IsKnown columns) (names_in c.expr)) cols s (all_parts (IsKnown columns) (λ (c : MapCol). names_in c.expr) cols h)))
stays_within columns what.Distinct s h = tt
stays_within columns (what.Reduce r) s h = (
  all_map (λ (k : ℕ). k < length columns) (place_of columns) r.keys (all_weaker (IsKnown columns) (λ n. place_of columns n < length columns) (known_place columns) r.keys (all_front (IsKnown columns) r.keys (r.value ∷ []) h)),
  known_place columns r.value (all_rest (IsKnown columns) r.keys (r.value ∷ []) h).0,
)

-- ---- packet rows

pub same_row_self : (n : Name) → same_name n n ≡ true
same_row_self n = (bytes_decides n n).1 refl

-- each name is among them
all_among : (front names : List Name) → AllByRecursion (λ n. is_in n (front ++ names) ≡ true) names
all_among front [] = tt
all_among front (n ∷ names) = (
  list_any-append (λ x. same_name x n) front (n ∷ names) ∙ or_right (list_any (λ x. same_name x n) front) (list_any (λ x. same_name x n) (n ∷ names)) (or_left (same_name n n) (list_any (λ x. same_name x n) names) (same_row_self n)),
  subst (λ (all : List Name). AllByRecursion (λ m. is_in m all ≡ true) names) (append_assoc front (n ∷ []) names) (all_among (front ++ n ∷ []) names),
)

-- a field's name that is read is a column of the packet row
has_field : (names : List Name) (n : Name) (table : List Field) → is_none (find (λ f. same_name (name_of f) n) table) ≡ false → is_in n names ≡ true
    → has_column (map field_column (filter (λ f. is_in (name_of f) names) table)) n ≡ true
has_field names n [] found among = cc
has_field names n (f ∷ table) found among =
    let rest : List Field = filter (λ g. is_in (name_of g) names) table in
    by_test (same_name (name_of f) n)
    (λ is. let same : name_of f ≡ n = same_row_exact (name_of f) n is in
    let passes : is_in (name_of f) names ≡ true = ap (λ m. is_in m names) same ∙ among in
    ap (λ b. has_column (map field_column (cond b (f ∷ rest) rest)) n) passes ∙ or_left (same_name (name_of f) n) (has_column (map field_column rest) n) is)
    (λ isnt. let later : has_column (map field_column rest) n ≡ true = has_field names n table (sym (ap (λ b. is_none (cond b (Some f) (find (λ g. same_name (name_of g) n) table))) isnt) ∙ found) among in
    by_test (is_in (name_of f) names)
    (λ kept. ap (λ b. has_column (map field_column (cond b (f ∷ rest) rest)) n) kept ∙ or_right (same_name (name_of f) n) (has_column (map field_column rest) n) later)
    (λ dropped. ap (λ b. has_column (map field_column (cond b (f ∷ rest) rest)) n) dropped ∙ later))

-- at most eight columns are a schema
pub whole_schema : (columns : List Column) → length columns ≤ 8 → as_schema columns ≡ columns
whole_schema columns few = ap (λ b. cond b columns []) (le-leb (length columns) 8 few)

field_known : (ops : List Op) (n : Name) → length (packet_fields ops) ≤ 8 → is_none (with_name n) ≡ false → is_in n (names_to_map ops) ≡ true → IsKnown (packet_columns ops) n
unfolding fields_among
field_known ops n few field among =
    ap (λ (columns : List Column). has_column columns n) (whole_schema (map field_column (packet_fields ops)) (subst (λ (k : ℕ). k ≤ 8) (sym (length-map (packet_fields ops) field_column)) few))
    ∙ has_field (names_to_map ops) n fields field among

-- the names that a branch reads up to and with its first map are columns of its packet row
pub packet_known : (ops : List Op) → length (packet_fields ops) ≤ 8 → AllByRecursion (λ n. is_none (with_name n) ≡ false) (names_to_map ops) → AllByRecursion (IsKnown (packet_columns ops)) (names_to_map ops)
packet_known ops few h =
    all_weaker (λ n. (is_none (with_name n) ≡ false) × (is_in n (names_to_map ops) ≡ true)) (IsKnown (packet_columns ops)) (λ n both. field_known ops n few both.0 both.1) (names_to_map ops)
    (all_both (λ n. is_none (with_name n) ≡ false) (λ n. is_in n (names_to_map ops) ≡ true) (names_to_map ops) h (all_among [] (names_to_map ops)))
