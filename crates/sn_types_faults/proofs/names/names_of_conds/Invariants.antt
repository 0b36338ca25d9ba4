use Rattle.std.proofs.Common.{◌≡◌, take, map}
use Rattle.sn_types_faults.proofs.names.names_of_conds.Given as goal

abbrev pub invariant-loop-cond : goal.invariant-loop-cond
invariant-loop-cond l = l.names ≡ map (λ c. c.name) (take l.cond-index l.conds)
