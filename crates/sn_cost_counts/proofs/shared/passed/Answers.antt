use Rattle.std.proofs.Common.{List, All, length, map, ap, sym, subst, ◌∙◌}
use Rattle.sn_base.specs.Groups.{Row}
use Rattle.sn_base.specs.Operators.{apply}
use Rattle.sn_ops.specs.Flow.{ExprsFit, Fits}
use Rattle.sn_types.specs.declared.typed_op.TExpr.{TExpr}
use Rattle.sn_types.specs.declared.typed_op.TOp.{TOp}
use Rattle.sn_types.specs.declared.typed_op.TOp.TheVariants as ops
use Rattle.sn_types.specs.Values.{ReadsWithin, op_at, value_of}
use Rattle.sn_cost_counts.specs.Flows.{stepped}
use Rattle.sn_cost_counts.specs.Shared.{flows_in}
use Rattle.sn_cost_counts.proofs.Sharing.{map_shared}
use Rattle.sn_cost_counts.proofs.shared.passed.Goals as goal

pub map-requires-clause-reads : goal.map-requires-clause-reads
map-requires-clause-reads g c =
    let fits : ExprsFit c.in-Map.cols c.args.shared.rows = subst (λ (op : TOp). Fits op c.args.shared.rows) c.in-Map.is c.requires.fits in
    subst (λ (cols : List TExpr). All (λ row. All (λ e. ReadsWithin (length row) e) cols) c.args.shared.rows) (sym c.as_slice-in-Map.ensures) fits.reads

pub returns-in_ok-rows-in-Map-clause-flows : goal.returns-in_ok-rows-in-Map-clause-flows
returns-in_ok-rows-in-Map-clause-flows g c =
    let shared = c.args.shared in
    let cols : List TExpr = c.in-Map.cols in
    map_shared shared.distinct (λ (row : Row). map (λ e. value_of e row) cols) shared.rows c.in_ok-rows-in-Map.rows shared.homes.items
    (c.in_ok-rows-in-Map.ensures ∙ ap (λ (es : List TExpr). apply (op_at 0 (ops.Map es)) shared.rows) c.as_slice-in-Map.ensures)
    ∙ ap (λ (op : TOp). map (stepped 0 0 (op_at c.args.level op)) (flows_in shared)) (sym c.in-Map.is)
