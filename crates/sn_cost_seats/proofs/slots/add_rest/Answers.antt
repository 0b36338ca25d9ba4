use Rattle.sn_cost_seats.proofs.Blocks.{key_more}
use Rattle.sn_cost_seats.proofs.slots.add_rest.Goals as goal

pub loop-place-preserved : goal.loop-place-preserved
loop-place-preserved g c =
    key_more g.R.Columns.columns c.args.depth c.args.slots c.args.keys.now c.loop-place.place c.index-keys-place.result c.loop-place.out.items c.add_one.new.out.items
    c.loop-place-test.true c.index-keys-place.is c.loop-place.invariant c.in_ok-add_one.ensures
