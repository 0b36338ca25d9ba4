use Rattle.std.proofs.Common.{◌*◌, ◌∷◌, arith}
use Rattle.sn_windows.specs.Blocks.{most_records}
use Rattle.sn_cost_counts.specs.Shared.{flows_in}
use Rattle.sn_cost_counts.proofs.Going.{all_few, all_sent}
use Rattle.sn_cost_counts.proofs.Sharing.{each_kept, each_sent}
use Rattle.sn_cost_counts.proofs.passing.after_marked.Goals as goal

pub by_marks-requires-clause-sent : goal.by_marks-requires-clause-sent
by_marks-requires-clause-sent g c =
    let a = c.args in
    let go = c.requires.go in
    each_sent a.shared.distinct a.shared.rows a.shared.homes.items (12 * most_records) (all_sent a.level 12 go.0 (a.op.now ∷ go.1) (flows_in a.shared) (omega (arith, go.2)) go.3)

pub by_marks-requires-clause-few : goal.by_marks-requires-clause-few
by_marks-requires-clause-few g c =
    let a = c.args in
    let go = c.requires.go in
    each_kept a.shared.distinct a.shared.rows a.shared.homes.items most_records (all_few a.level go.0 (a.op.now ∷ go.1) (flows_in a.shared) go.3)
