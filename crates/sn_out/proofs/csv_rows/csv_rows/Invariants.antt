use Rattle.std.proofs.Common.{◌≡◌, take}
use Rattle.std.specs.List.{flat_map}
use Rattle.sn_out.specs.Records.{part_records}
use Rattle.sn_out.proofs.csv_rows.csv_rows.Given as goal

abbrev pub invariant-loop-part : goal.invariant-loop-part
invariant-loop-part l = l.text.items ≡ flat_map (part_records l.a.window l.t.queries) (take l.part-index l.part-items)
