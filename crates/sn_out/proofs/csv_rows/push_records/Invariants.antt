use Rattle.std.proofs.Common.{◌≡◌, ◌++◌, take}
use Rattle.std.specs.List.{flat_map}
use Rattle.sn_types.specs.Typed.{query_at}
use Rattle.sn_out.specs.Records.{record_text}
use Rattle.sn_out.proofs.csv_rows.push_records.Given as goal

abbrev pub invariant-loop-row : goal.invariant-loop-row
invariant-loop-row g l =
    l.text.items ≡ l.fn.text.items ++ flat_map (λ row. record_text l.window (query_at l.t.queries l.part.query) l.part.level (g.R.Columns.columns row)) (take l.row-index l.rows)
