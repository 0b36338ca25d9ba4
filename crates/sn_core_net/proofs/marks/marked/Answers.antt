use Rattle.sn_core_net.proofs.MarkLemmas.{cleared_here, set_here}
use Rattle.sn_core_net.proofs.marks.marked.Goals as goal

pub returns-then-holds : goal.returns-then-holds
returns-then-holds c = set_here c.args.word c.args.place c.requires c.args.holds c.if-holds.true

pub returns-else-holds : goal.returns-else-holds
returns-else-holds c = cleared_here c.args.word c.args.place c.requires c.args.holds c.if-holds.false
