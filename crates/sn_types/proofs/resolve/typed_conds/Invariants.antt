use Rattle.std.proofs.Common.{◌≡◌, take, map}
use Rattle.sn_types.specs.Typing.{typed_cond}
use Rattle.sn_types.proofs.resolve.typed_conds.Given as goal

abbrev pub invariant-loop-cond : goal.invariant-loop-cond
invariant-loop-cond l = l.typed ≡ map (typed_cond l.columns) (take l.cond-index l.conds)
