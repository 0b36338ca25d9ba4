use Rattle.std.proofs.Common.{◌≤◌, [], ◌∷◌, arith}
use Rattle.std.proofs.lemmas.List.Elements.{All-from_recursion}
use Rattle.sn_fields.specs.Fields.{row_of, width_of}
use Rattle.sn_fields.specs.declared.field.Field.{Field}
use Rattle.sn_fields.specs.declared.field.Field.TheVariants as fields
use Rattle.sn_test_lanes.proofs.columns.holds_the_fields_of_tuples.Goals as goal

destination : width_of fields.IpDestination ≤ 64
unfolding row_of
destination = omega arith

flags : width_of fields.TcpFlags ≤ 64
unfolding row_of
flags = omega arith

pub of-requires : goal.of-requires
of-requires g c = All-from_recursion (λ (field : Field). width_of field ≤ 64) (fields.IpDestination ∷ fields.TcpFlags ∷ []) (destination, (flags, tt))
