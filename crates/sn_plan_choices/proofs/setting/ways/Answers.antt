use Rattle.sn_plan_choices.proofs.OptionLists.{single_sizes, many_sizes}
use Rattle.sn_plan_choices.proofs.setting.ways.Goals as goal

pub returns-then-count-eq1-clause-value : goal.returns-then-count-eq1-clause-value
returns-then-count-eq1-clause-value c = single_sizes c.args.sizes.now c.args.count c.if-count-eq1.true

pub returns-else-count-eq1-clause-value : goal.returns-else-count-eq1-clause-value
returns-else-count-eq1-clause-value c = many_sizes c.args.sizes.now c.args.count c.requires.count c.if-count-eq0.false c.if-count-eq1.false
