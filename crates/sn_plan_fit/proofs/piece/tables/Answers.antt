use Rattle.std.proofs.Common.{List, take, sym, ◌∙◌}
use Rattle.sn_plan_fit.specs.Placing.{Table}
use Rattle.sn_plan_fit.specs.Tables.{op_tables}
use Rattle.sn_plan_fit.proofs.Ends.{tables_end}
use Rattle.sn_plan_fit.proofs.piece.tables.Goals as goal

pub returns : goal.returns
returns c =
    let order = rw (c.prefix.ensures.value, c.as_slice-written.ensures.value) at c.in_ok-least.ensures.misfit in
    let least = rw (c.prefix.ensures.value, c.as_slice-written.ensures.value) at c.in_ok-least.ensures.least in
    let end = rw (c.is_empty.ensures, c.as_slice-written.ensures.value) at c.end.ensures in
    let following : List Table = op_tables c.args.switch.now.chain (take c.args.piece.now.cut c.args.branch.now.ops) c.args.piece.now.stages in
    tables_end _ _ _ _ c.args.piece.now.level c.args.path.now (take c.args.piece.now.cut c.args.branch.now.ops) _ c.requires.stages c.requires.chain c.requires.count
    (c.least_first.ensures.order following ∙ sym order) (least ∙ sym (c.least_first.ensures.least following)) end
