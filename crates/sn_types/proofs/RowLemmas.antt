-- Rows of a schema: what an expression computes of them has the width of its column.
use Rattle.std.proofs.Common.{◌≡◌, ℕ, suc, ◌+◌, ◌-◌, ◌*◌, ◌/◌, ◌^◌, ◌<◌, ◌≤◌, List, [], ◌∷◌, map, length, Bool, true, false, not, ◌||◌, cond, ◌==◌, min, max, slice_index, None, Some, unwrap_or, ap, sym, ◌∙◌, subst, arith}
use Rattle.std.proofs.lemmas.Bool.{lt-ltb}
use Rattle.std.proofs.lemmas.Nat.{leading_length, and_le_l, pow-add}
use Rattle.std.proofs.Math.Nat.{div-lt_iff_lt-mul}
use Rattle.std.proofs.Math.Pow.{pow_mono, pow_pos}
use Rattle.std.specs.Int.Count.{count_leading_zeros}
use Rattle.std.specs.List.{AllByRecursion, list_any, find, position, position_or_len}
use Rattle.sn_base.proofs.Lists.{by_test}
use Rattle.sn_base.specs.declared.column.Column.{Column}
use Rattle.sn_base.specs.Columns.{IsOf}
use Rattle.sn_query_grammar.specs.declared.ast.Expr.{Expr}
use Rattle.sn_query_grammar.specs.declared.ast.Expr.TheVariants.{Const, Copy, Mask, Shift, Sum, Ratio}
use Rattle.sn_query_grammar.specs.declared.ast.MapCol.{MapCol}
use Rattle.sn_types_faults.specs.Names.{Name, same_name, names_in}
use Rattle.sn_types_faults.specs.Widths.{constant_width}
use Rattle.sn_types_faults.specs.Columns.{place_of, column_named, expr_width, mapped_column}
use Rattle.sn_query_grammar.specs.Limits.{IsPostExpr}
use Rattle.sn_types.specs.Values.{value_of, ratio, greatest}
use Rattle.sn_types.specs.Typing.{typed_expr}
use Rattle.sn_types.proofs.Known.{IsKnown}

-- ---- the column of a name

prefix_within : {X : Type 0} (p : X → Bool) (xs : List X) → list_any p xs ≡ true → position_or_len p xs < length xs
prefix_within p [] any = cc
prefix_within p (x ∷ xs) any =
    let P : Bool → Type 0 = λ b. cond (not b) (1 + position_or_len p xs) 0 < suc (length xs) in
    by_test (p x)
    (λ is. subst P (sym is) (omega arith))
    (λ isnt. let later = prefix_within p xs (sym (ap (λ b. b || list_any p xs) isnt) ∙ any) in subst P (sym isnt) (omega (arith, later)))

pub place_is : {X : Type 0} (p : X → Bool) (xs : List X) → list_any p xs ≡ true → unwrap_or (position p xs) 0 ≡ position_or_len p xs
place_is p xs any = ap (λ b. unwrap_or (cond b (Some (position_or_len p xs)) None) 0) (lt-ltb (position_or_len p xs) (length xs) (prefix_within p xs any))

at_width : (p : Column → Bool) (d : Column) (columns : List Column) (row : List ℕ) → IsOf columns row → list_any p columns ≡ true
    → slice_index row (position_or_len p columns) < 2 ^ (unwrap_or (find p columns) d).width
at_width p d [] row of any = cc
at_width p d (c ∷ columns) [] of any = absurd of
at_width p d (c ∷ columns) (x ∷ row) of any =
    let k : ℕ = position_or_len p columns in
    let P : Bool → Type 0 = λ b. slice_index (x ∷ row) (cond (not b) (1 + k) 0) < 2 ^ (unwrap_or (cond b (Some c) (find p columns)) d).width in
    by_test (p c)
    (λ is. subst P (sym is) of.0)
    (λ isnt.
    let next : suc k ≡ 1 + k = omega arith in
    let later : slice_index row k < 2 ^ (unwrap_or (find p columns) d).width = at_width p d columns row of.1 (sym (ap (λ b. b || list_any p columns) isnt) ∙ any) in
    subst P (sym isnt) (subst (λ (i : ℕ). slice_index (x ∷ row) i < 2 ^ (unwrap_or (find p columns) d).width) next later))

-- a row's number at a name's place has the width of the column of that name
pub in_width : (columns : List Column) (row : List ℕ) (n : Name) → IsOf columns row → IsKnown columns n → slice_index row (place_of columns n) < 2 ^ (column_named columns n).width
in_width columns row n of known =
    subst (λ (i : ℕ). slice_index row i < 2 ^ (column_named columns n).width) (sym (place_is (λ (c : Column). same_name c.name n) columns known))
    (at_width (λ (c : Column). same_name c.name n) (record { name = n; width = 1; address = false }) columns row of known)

-- ---- expressions

constant_fits : (n : ℕ) → n < 2 ^ 64 → n < 2 ^ constant_width n
constant_fits n h =
    let l = leading_length 64 n h in
    let wide : l.0 ≤ max 1 (64 - count_leading_zeros 64 n) = omega (arith, l.1) in
    let more = pow_mono wide in
    omega (arith, l.2, more)

shift_fits : (x w k : ℕ) → x < 2 ^ w → x / 2 ^ k < 2 ^ max 1 (w - k)
shift_fits x w k h =
    let wide : w ≤ max 1 (w - k) + k = omega arith in
    let more : 2 ^ w ≤ 2 ^ (max 1 (w - k) + k) = pow_mono wide in
    let apart : 2 ^ (max 1 (w - k) + k) ≡ 2 ^ max 1 (w - k) * 2 ^ k = pow-add 2 (max 1 (w - k)) k in
    let below : x < 2 ^ max 1 (w - k) * 2 ^ k = subst (λ (m : ℕ). x < m) apart (omega (arith, h, more)) in
    (div-lt_iff_lt-mul (pow_pos k)).1 below

capped : (n : ℕ) → min n greatest < 2 ^ 64
capped n = omega arith

ratio_fits : (a k b : ℕ) → ratio a k b < 2 ^ 64
ratio_fits a k b = (elim (b == 0) as (λ z. cond z 0 (min (a * k / b) greatest) < 2 ^ 64) [ true ↦ omega arith | false ↦ capped (a * k / b) ])

pub expr_fits : (columns : List Column) (row : List ℕ) (e : Expr) → IsOf columns row → IsPostExpr e → AllByRecursion (IsKnown columns) (names_in e) → value_of (typed_expr columns e) row < 2 ^ expr_width columns e
expr_fits columns row (Const n) of lawful known = constant_fits n lawful
expr_fits columns row (Copy a) of lawful known = in_width columns row a of known.0
expr_fits columns row (Mask a bits) of lawful known =
    let here = in_width columns row a of known.0 in
    let less = and_le_l (slice_index row (place_of columns a)) bits in
    omega (arith, here, less)
expr_fits columns row (Shift a k) of lawful known = shift_fits (slice_index row (place_of columns a)) (column_named columns a).width k (in_width columns row a of known.0)
expr_fits columns row (Sum a b) of lawful known = capped (slice_index row (place_of columns a) + slice_index row (place_of columns b))
expr_fits columns row (Ratio a k b) of lawful known = ratio_fits (min (slice_index row (place_of columns a)) greatest) k (min (slice_index row (place_of columns b)) greatest)

-- a map's rows are of its columns
pub map_fits : (columns : List Column) (row : List ℕ) (cols : List MapCol) → IsOf columns row → AllByRecursion (λ c. IsPostExpr c.expr × AllByRecursion (IsKnown columns) (names_in c.expr)) cols
    → IsOf (map (mapped_column columns) cols) (map (λ e. value_of e row) (map (λ c. typed_expr columns c.expr) cols))
map_fits columns row [] of h = tt
map_fits columns row (c ∷ cols) of h = (expr_fits columns row c.expr of h.0.0 h.0.1, map_fits columns row cols of h.1)
