use Rattle.sn_plan_lists.specs.Chosen.{path_seats, pieces_at, after_pieces}
use Rattle.sn_plan_lists.proofs.NamedPieces.{level_more, level_after}
use Rattle.sn_plan_lists.proofs.naming.path_pieces.Goals as goal

pub loop-level-preserved : goal.loop-level-preserved
loop-level-preserved c =
    let s = c.args.s.now in
    let bs = c.args.branches.now in
    let path = c.args.path.now in (
      level_more s bs path c.loop-level.level-index c.loop-level.pieces c.add_level.new.pieces (pieces_at s (path_seats bs path) c.args.choices.now) c.loop-level.rest.now c.in_ok-rest.rest.now
          c.loop-level-test.true c.in_ok-rest.ensures.pieces c.in_ok-rest.ensures.rest c.loop-level.invariant.0,
      level_after s bs path c.loop-level.level-index c.loop-level.rest.now c.in_ok-rest.rest.now (after_pieces s (path_seats bs path) c.args.choices.now)
          c.loop-level-test.true c.in_ok-rest.ensures.rest c.loop-level.invariant.1,
    )
