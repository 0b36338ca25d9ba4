-- The rows and the fields of branches that aren't wide.
use Rattle.std.proofs.Common.{◌≡◌, refl, ℕ, zero, suc, ◌≤◌, ◌<◌, ◌^◌, List, [], ◌∷◌, map, length, get_or, false, nat_lt, arith}
use Rattle.std.proofs.Math.Bridge.{le_prop}
use Rattle.std.proofs.Math.Pow.{pow_mono}
use Rattle.std.proofs.lemmas.Bool.{ltb-false}
use Rattle.std.specs.List.{list_any}
use Rattle.sn_base.proofs.Lists.{or_none}
use Rattle.sn_base.specs.declared.column.Column.{Column}
use Rattle.sn_base.specs.Columns.{IsOf}
use Rattle.sn_fields.proofs.Widths.{width_most}
use Rattle.sn_fields.specs.declared.field.Field.{Field}
use Rattle.sn_fields.specs.declared.field.Field.TheVariants.{PacketLength}
use Rattle.sn_fields.specs.Fields.{width_of}
use Rattle.sn_types_faults.specs.Columns.{field_column}
use Rattle.sn_types.specs.declared.typed_query.TypedBranch.{TypedBranch}
use Rattle.sn_types.specs.Kinds.{AreBelow, IsShort, has_wide_column, is_wide, is_wide_column}
use Rattle.sn_types.specs.Typed.{schema_at}

below : (x w : ℕ) → nat_lt 64 w ≡ false → x < 2 ^ w → x < 2 ^ 64
below x w isnt within =
    let narrow : w ≤ 64 = ltb-false 64 w isnt in
    let more : 2 ^ w ≤ 2 ^ 64 = pow_mono narrow in
    omega (arith, within, more)

pub short_of : (columns : List Column) (row : List ℕ) → has_wide_column columns ≡ false → IsOf columns row → IsShort row
short_of [] [] e h = tt
short_of [] (x ∷ xs) e h = absurd h
short_of (c ∷ cs) [] e h = absurd h
short_of (c ∷ cs) (x ∷ xs) e h =
    let none = or_none (is_wide_column c) (has_wide_column cs) e in
    (below x c.width none.0 h.0, short_of cs xs none.1 h.1)

pub none_wide : (schemas : List (List Column)) (i : ℕ) → list_any has_wide_column schemas ≡ false → has_wide_column (schema_at schemas i) ≡ false
none_wide [] i e = refl
none_wide (s ∷ ss) zero e = (or_none (has_wide_column s) (list_any has_wide_column ss) e).0
none_wide (s ∷ ss) (suc i) e = none_wide ss i (or_none (has_wide_column s) (list_any has_wide_column ss) e).1

pub short_rows_of : (branch : TypedBranch) (i : ℕ) (row : List ℕ) → is_wide branch ≡ false → IsOf (schema_at branch.schemas i) row → IsShort row
short_rows_of branch i row e h = short_of (schema_at branch.schemas i) row (none_wide branch.schemas i e) h

-- ---- fields

pub all_short : (fields : List Field) → has_wide_column (map field_column fields) ≡ false → AreBelow (2 ^ 64) fields
all_short [] e = tt
all_short (f ∷ fs) e =
    let none = or_none (is_wide_column (field_column f)) (has_wide_column (map field_column fs)) e in
    let narrow : width_of f ≤ 64 = ltb-false 64 (width_of f) none.0 in
    (pow_mono narrow, all_short fs none.1)

-- no field has more than 128 bits
pub all_below : (fields : List Field) → AreBelow (2 ^ 128) fields
all_below [] = tt
all_below (f ∷ fs) = (pow_mono (width_most f), all_below fs)

pub below_prop : (limit : ℕ) (fields : List Field) → IsProp (AreBelow limit fields)
below_prop limit [] = λ x y. refl
below_prop limit (f ∷ fs) = hlevel (le_prop, below_prop limit fs)

-- the field at a place is one of them
pub below_at : (limit : ℕ) (fields : List Field) (i : ℕ) → AreBelow limit fields → i < length fields → 2 ^ width_of (get_or fields i PacketLength) ≤ limit
below_at limit [] i h lt = omega (arith, lt)
below_at limit (f ∷ fs) zero h lt = h.0
below_at limit (f ∷ fs) (suc i) h lt = below_at limit fs i h.1 (omega (arith, lt))
