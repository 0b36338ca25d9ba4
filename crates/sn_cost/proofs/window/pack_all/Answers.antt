use Rattle.std.proofs.Common.{arith}
use Rattle.sn_types.specs.Typed.{query_at}
use Rattle.sn_cost.proofs.Packing.{all_packed, none_packed, one_packed}
use Rattle.sn_cost.proofs.window.pack_all.Goals as goal

pub loop-b-init : goal.loop-b-init
loop-b-init c = none_packed (query_at c.args.t.now.queries c.args.q) c.args.tuples.now c.new-all.result.items c.new-all.ensures.items

pub loop-b-preserved : goal.loop-b-preserved
loop-b-preserved c =
    one_packed (query_at c.args.t.now.queries c.args.q) c.args.tuples.now c.loop-b.b c.loop-b.all.items c.push.new.self.items c.in_ok-packed.packed c.loop-b.invariant c.in_ok-packed.ensures c.in_ok-push.ensures.items

pub returns : goal.returns
returns c = all_packed (query_at c.args.t.now.queries c.args.q) c.args.tuples.now c.loop-b.b c.loop-b.all.items (omega (arith, c.loop-b-test.false, c.branches-b-end.ensures)) c.loop-b.invariant
