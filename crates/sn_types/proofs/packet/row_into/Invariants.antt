use Rattle.std.proofs.Common.{◌≡◌, length, take, map}
use Rattle.sn_base.specs.Columns.{IsOf}
use Rattle.sn_types_faults.specs.Columns.{field_column}
use Rattle.sn_types.specs.Typed.{read_at}
use Rattle.sn_types.proofs.packet.row_into.Given as goal

abbrev pub invariant-loop-place : goal.invariant-loop-place
invariant-loop-place g l = record {
  long : length (g.R.Columns.columns l.row) ≡ length l.fields;
  row : take l.place (g.R.Columns.columns l.row) ≡ map (read_at l.refined l.level l.tuple) (take l.place l.fields);
  columns : IsOf (map field_column (take l.place l.fields)) (take l.place (g.R.Columns.columns l.row));
}
