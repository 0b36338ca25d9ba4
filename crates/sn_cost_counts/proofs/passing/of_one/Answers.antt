use Rattle.sn_cost_counts.proofs.Together.{once_alone}
use Rattle.sn_cost_counts.proofs.passing.of_one.Goals as goal

pub returns-in-Distinct : goal.returns-in-Distinct
returns-in-Distinct g c = once_alone c.args.op.now c.args.rows c.in-Distinct.is c.requires.one
