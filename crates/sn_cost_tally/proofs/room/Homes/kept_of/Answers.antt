use Rattle.std.proofs.Common.{◌≤◌, ◌∙◌, length, arith}
use Rattle.sn_cost_tally.proofs.Keeping.{all_count}
use Rattle.sn_cost_tally.proofs.room.Homes.kept_of.Goals as goal

pub returns : goal.returns
returns g c =
    let marks = c.args.self.now.marks in
    let rows = c.args.rows.now in
    let no_more : length marks.items ≤ length rows = omega (arith, c.if-len.false, c.len.ensures, c.len-2.ensures, marks.ok.0) in
    c.args.self.now.known ∙ all_count marks.items rows no_more
