use Rattle.std.proofs.Common.{ℕ, List, All, map, sym, subst, arith}
use Rattle.sn_cost_seats.specs.Seats.{AreBelow}
use Rattle.sn_cost_seats.proofs.Blocks.{block_more}
use Rattle.sn_cost_seats.proofs.Marking.{all_below}
use Rattle.sn_cost_seats.proofs.slots.slots_of.Goals as goal

pub loop-at-preserved : goal.loop-at-preserved
loop-at-preserved g c = record {
  within = omega arith;
  done = block_more g.R.Columns.columns c.args.depth c.args.slots c.args.keys.now c.loop-at.at c.loop-at.out.items c.add_block.new.out.items c.loop-at.invariant.done c.in_ok-add_block.ensures;
}

pub returns-clause-below : goal.returns-clause-below
returns-clause-below g c =
    let rows = map g.R.Columns.columns c.args.keys.now in
    subst (λ (xs : List (List ℕ)). All (AreBelow c.args.depth c.args.slots) xs) (sym c.in_ok-add_rest.ensures) (all_below c.args.depth c.args.slots c.requires rows)
