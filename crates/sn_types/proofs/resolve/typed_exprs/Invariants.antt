use Rattle.std.proofs.Common.{◌≡◌, take, map}
use Rattle.sn_types.specs.Typing.{typed_expr}
use Rattle.sn_types.proofs.resolve.typed_exprs.Given as goal

abbrev pub invariant-loop-col : goal.invariant-loop-col
invariant-loop-col l = l.typed ≡ map (λ c. typed_expr l.columns c.expr) (take l.col-index l.cols)
