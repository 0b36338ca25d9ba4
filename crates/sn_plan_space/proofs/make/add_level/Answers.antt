use Rattle.std.proofs.Common.{◌++◌, map}
use Rattle.sn_plan_choices.specs.Costs.{entry_in}
use Rattle.sn_plan_choices.specs.Planning.{level_pieces}
use Rattle.sn_plan_space.specs.Known.{known_piece}
use Rattle.sn_plan_space.proofs.Making.{level_more}
use Rattle.sn_plan_space.proofs.make.add_level.Goals as goal

pub loop-n-preserved : goal.loop-n-preserved
loop-n-preserved c =
    level_more c.args.s.now (entry_in c.args.c.now) c.args.at.query c.args.at.levels c.args.at.is_first c.loop-n.n c.index-branches-n.result c.args.branches.now c.in_ok-piece_of.field-0
    c.loop-n.pieces c.push.new.self (c.args.pieces.now ++ map (known_piece c.args.s.now (entry_in c.args.c.now)) (level_pieces c.args.at.query c.args.at.levels c.args.at.is_first 0 c.args.branches.now))
    c.loop-n-test.true c.index-branches-n.is c.in_ok-piece_of.ensures c.in_ok-push.ensures.ok c.loop-n.invariant
