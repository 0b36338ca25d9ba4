use Rattle.sn_plan_fit.proofs.LoadLaws.{no_branch, its_branch}
use Rattle.sn_plan_fit.proofs.loads.add_query_piece.Goals as goal

pub returns-in-None : goal.returns-in-None
returns-in-None c = no_branch c.args.depth c.args.query.now c.args.piece.now c.in-None.ensures

pub returns-in-Some : goal.returns-in-Some
returns-in-Some c = its_branch c.args.depth c.args.query.now c.args.piece.now c.in-Some.branch.now c.in-Some.ensures c.add_piece.ensures
