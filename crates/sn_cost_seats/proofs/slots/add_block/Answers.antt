use Rattle.std.proofs.Common.{◌≡◌, length, map, ◌∙◌, arith}
use Rattle.std.proofs.lemmas.List.{length-map}
use Rattle.sn_cost_seats.proofs.Blocks.{lane_more}
use Rattle.sn_cost_seats.proofs.slots.add_block.Goals as goal

pub loop-lane-preserved : goal.loop-lane-preserved
loop-lane-preserved g c =
    let rows = map g.R.Columns.columns c.args.block.now in
    let long : length rows ≡ 8 = length-map c.args.block.now g.R.Columns.columns ∙ c.requires.eight in
    lane_more c.args.depth c.args.slots rows c.loop-lane.lane c.args.out.now.items c.loop-lane.out.items c.push.new.out.items
    c.block_in-first.result c.block_in-second.result c.block_in-third.result c.block_in-fourth.result (omega (arith, long, c.loop-lane-test.true))
    c.block_in-first.ensures c.block_in-second.ensures c.block_in-third.ensures c.block_in-fourth.ensures c.loop-lane.invariant c.in_ok-push.ensures
