-- The widths of the fields.
use Rattle.std.proofs.Common.{◌≤◌, arith}
use Rattle.sn_fields.specs.declared.field.Field.{Field}
use Rattle.sn_fields.specs.declared.field.Field.TheVariants.{PacketLength}
use Rattle.sn_fields.specs.Fields.{row_of, width_of}

-- a field has a bit at least
pub width_least : (field : Field) → 1 ≤ width_of field
unfolding row_of
width_least PacketLength = omega arith
width_least _ = omega arith

-- and 128 at most
pub width_most : (field : Field) → width_of field ≤ 128
unfolding row_of
width_most PacketLength = omega arith
width_most _ = omega arith
