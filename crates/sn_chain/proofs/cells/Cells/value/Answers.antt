use Rattle.std.proofs.Common.{ℕ, [], map, ap, sym, arith}
use Rattle.sn_base.specs.Groups.{Row}
use Rattle.sn_chain.proofs.StoredLemmas.{within_heads, cell_is}
use Rattle.sn_chain.proofs.cells.Cells.value.Goals as goal

pub index-requires : goal.index-requires
index-requires g c =
    let a = c.self.inside in
    let s = c.args.self.now in
    let at = c.args.at in
    let limit = g.R.Number.Number.limit in
    let wholes = map g.R.Columns.columns a.wholes.items in
    omega (arith, within_heads limit a.heads.items a.kinds.items wholes s c.self.view_is c.self.invariant at c.requires, a.heads.ok.0)

pub returns : goal.returns
returns g c =
    let a = c.self.inside in
    let s = c.args.self.now in
    let at = c.args.at in
    let limit = g.R.Number.Number.limit in
    let wholes = map g.R.Columns.columns a.wholes.items in
    let within = within_heads limit a.heads.items a.kinds.items wholes s c.self.view_is c.self.invariant at c.requires in
    sym (ap (λ (x : Row × ℕ). x.1) (cell_is limit a.heads.items a.kinds.items wholes s c.self.view_is c.self.invariant at c.index.result.now within c.index.ensures ([], 0)))
