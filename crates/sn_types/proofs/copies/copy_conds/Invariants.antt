use Rattle.std.proofs.Common.{◌≡◌, take}
use Rattle.sn_types.proofs.copies.copy_conds.Given as goal

abbrev pub invariant-loop-cond : goal.invariant-loop-cond
invariant-loop-cond l = l.copied ≡ take l.cond-index l.conds
