use Rattle.std.proofs.Common.{ℕ, List, [], map, get_or, set, ap, sym, ◌∙◌, arith}
use Rattle.sn_base.specs.Groups.{Row}
use Rattle.sn_chain.specs.Cells.{with_value}
use Rattle.sn_chain.specs.Stored.{cell_of, with_total}
use Rattle.sn_chain.proofs.StoredLemmas.{within_heads, cell_is, head_written}
use Rattle.sn_chain.proofs.cells.Cells.set_value.Goals as goal

pub index_mut-requires : goal.index_mut-requires
index_mut-requires g c =
    let a = c.self.inside in
    let s = c.args.self.now in
    let at = c.args.at in
    let limit = g.R.Number.Number.limit in
    let wholes = map g.R.Columns.columns a.wholes.items in
    omega (arith, within_heads limit a.heads.items a.kinds.items wholes s c.self.view_is c.self.invariant at c.requires, a.heads.ok.0)

pub returns : goal.returns
returns g c =
    let a = c.self.inside in
    let s = c.args.self.now in
    let at = c.args.at in
    let limit = g.R.Number.Number.limit in
    let wholes = map g.R.Columns.columns a.wholes.items in
    let head = c.index_mut.result.now in
    let within = within_heads limit a.heads.items a.kinds.items wholes s c.self.view_is c.self.invariant at c.requires in
    head_written a.heads.items a.kinds.items wholes at (with_total c.args.value head) c.self.invariant.kinds_level c.self.invariant.wholes_level
    ∙ ap (λ (cells : List (Row × ℕ)). set cells at (with_value c.args.value (cell_of head (get_or a.kinds.items at 9) (get_or wholes at [])))) c.self.view_is
    ∙ ap (λ (x : Row × ℕ). set s at (with_value c.args.value x))
    (sym (cell_is limit a.heads.items a.kinds.items wholes s c.self.view_is c.self.invariant at head within c.index_mut.ensures.value ([], 0)))
