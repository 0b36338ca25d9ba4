use Rattle.std.proofs.Common.{Some, None, cond, ap, sym, ◌∙◌}
use Rattle.std.specs.List.{list_all}
use Rattle.sn_base.specs.Groups.{Row}
use Rattle.sn_types.specs.declared.typed_op.TCond.{TCond}
use Rattle.sn_types.specs.declared.typed_op.TOp.{TOp}
use Rattle.sn_types.specs.Values.{holds}
use Rattle.sn_ops.specs.Passing.{flows}
use Rattle.sn_ops.proofs.seen.Seen.begin.Goals as goal

pub returns-in-Filter-clause-passed : goal.returns-in-Filter-clause-passed
returns-in-Filter-clause-passed g c =
    let level = c.args.level in
    let packet : Row = c.args.packet.now in
    c.same_if.ensures packet (g.R.Columns.columns c.args.row.now)
    ∙ ap (λ b. cond b (Some packet) None) (c.passes.ensures ∙ ap (list_all (λ (x : TCond). holds level x packet)) c.as_slice.ensures)
    ∙ ap (λ (o : TOp). flows level o c.args.self.now.rows.keys packet) (sym c.in-Filter.is)
