use Rattle.std.proofs.Common.{map, ◌∙◌}
use Rattle.sn_chain.proofs.StoredLemmas.{bare_cells}
use Rattle.sn_chain.proofs.cells.Cells.make.Goals as goal

pub returns : goal.returns
returns g c =
    bare_cells c.args.count c.args.value c.in_ok-heads.heads.items c.in_ok-kinds.kinds.items (map g.R.Columns.columns c.into_vec-wholes.result.items) c.in_ok-heads.ensures c.in_ok-kinds.ensures
    (c.into_vec-wholes.ensures ∙ c.in_ok-bare_wholes.ensures)
