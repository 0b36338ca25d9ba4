use Rattle.std.proofs.Common.{◌≡◌, take, filter, map}
use Rattle.sn_fields.specs.Fields.{name_of}
use Rattle.sn_types_faults.specs.Names.{is_in}
use Rattle.sn_types_faults.proofs.names.named_of.Given as goal

abbrev pub invariant-loop-row : goal.invariant-loop-row
invariant-loop-row l = l.fields ≡ filter (λ f. is_in (name_of f) l.names) (map (λ row. row.0) (take l.row-index l.table))
