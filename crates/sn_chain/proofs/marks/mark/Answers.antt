use Rattle.sn_chain.proofs.MarkLemmas.{marked_here, marked_others}
use Rattle.sn_chain.proofs.marks.mark.Goals as goal

pub returns-clause-marked : goal.returns-clause-marked
returns-clause-marked c = marked_here c.args.words.now c.args.place c.requires

pub returns-clause-others : goal.returns-clause-others
returns-clause-others c = marked_others c.args.words.now c.args.place c.requires
