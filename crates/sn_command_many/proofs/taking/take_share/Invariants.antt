use Rattle.std.proofs.Common.{length}
use Rattle.sn_command_captures.specs.Counted.{left_of}
use Rattle.sn_command_many.specs.Giving.{IsTaking}
use Rattle.sn_command_many.proofs.taking.take_share.Given as goal

abbrev pub invariant-tuples : goal.invariant-tuples
invariant-tuples l = IsTaking l.switch l.number l.fn.many l.many l.fn.share l.share

-- each turn takes a tuple
abbrev pub decreases-tuples : goal.decreases-tuples
decreases-tuples l = length (left_of l.share)
