use Rattle.std.proofs.Common.{ap}
use Rattle.sn_plan_choices.specs.Costs.{entry_in}
use Rattle.sn_plan_choices.specs.Planning.{entry_of}
use Rattle.sn_plan_space.specs.declared.known.KnownOption.{KnownOption}
use Rattle.sn_plan_space.specs.Known.{known_option}
use Rattle.sn_plan_space.specs.Made.{task_of}
use Rattle.sn_plan_space.proofs.Making.{pushed}
use Rattle.sn_plan_space.proofs.make.piece_of.Goals as goal

pub loop-n-preserved : goal.loop-n-preserved
loop-n-preserved c = record {
  some = pushed (known_option c.args.s.now (entry_in c.args.c.now) (task_of c.args.at c.args.branch.now)) c.loop-n.n c.in_ok-option.option c.loop-n.options c.push.new.self
      c.loop-n.invariant.some c.in_ok-option.ensures c.in_ok-push.ensures.ok;
  least = c.lesser-least.ensures (entry_of c.args.s.now (entry_in c.args.c.now) (task_of c.args.at c.args.branch.now)) c.loop-n.invariant.least (ap (λ (o : KnownOption). o.cost) c.in_ok-option.ensures);
}
