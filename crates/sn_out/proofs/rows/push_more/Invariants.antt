use Rattle.std.proofs.Common.{◌≡◌, ◌++◌, drop}
use Rattle.sn_out.specs.Text.{spaced_texts}
use Rattle.sn_out.proofs.rows.push_more.Given as goal

abbrev pub invariant-loop-place : goal.invariant-loop-place
invariant-loop-place g l =
    l.text.items ++ spaced_texts (drop l.place l.columns) (drop l.place (g.R.Columns.columns l.row)) ≡ l.fn.text.items ++ spaced_texts (drop 1 l.columns) (drop 1 (g.R.Columns.columns l.row))
