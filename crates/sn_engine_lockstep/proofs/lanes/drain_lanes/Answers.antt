use Rattle.std.proofs.Common.{◌≤◌, ◌<◌, length, refl, sym, ◌∙◌, arith, append-nil}
use Rattle.sn_engine_lockstep.proofs.Giving.{end_one, ended_all, ended_none}
use Rattle.sn_emit.specs.Senders.{frames_left}
use Rattle.sn_engine_lockstep.proofs.Sending.{left_others, sent_all, sent_more}
use Rattle.sn_engine_lockstep.proofs.lanes.drain_lanes.Goals as goal

pub loop-lane-init : goal.loop-lane-init
loop-lane-init g c = record {
  count = refl;
  queries = refl;
  closed = refl;
  prefixes = refl;
  lanes = λ queries tables pieces h. h;
  work = λ typed_for tables queries pieces kept tuples t can widths w. ended_none queries tables c.args.window pieces kept tuples c.args.emitter.now c.args.engine.now.lanes.items w;
  left = λ j le. refl;
  sent = sym (append-nil (g.W.Wire.reported c.args.wire.now));
}

pub loop-lane-preserved : goal.loop-lane-preserved
loop-lane-preserved g c =
    let v = c.loop-lane.invariant in
    let below = c.loop-lane-test.true in
    let end = c.lanes-lane-end.ensures in
    let count = v.count in
    let i = c.loop-lane.lane in
    let lt : i < length c.loop-lane.emitter = omega (arith, below, end, count) in
    let among : i < length c.args.emitter.now = omega (arith, below, end) in
    let here : i ≤ i = omega arith in
    let e = c.in_ok-drain.ensures in
    record {
      count = e.count ∙ v.count;
      queries = e.queries ∙ v.queries;
      closed = e.closed ∙ v.closed;
      prefixes = e.prefixes ∙ v.prefixes;
      lanes = λ queries tables pieces h. e.lanes queries tables pieces (v.lanes queries tables pieces h);
      work = λ typed_for tables queries pieces kept tuples t can widths w.
          end_one typed_for tables c.args.window queries pieces kept tuples i c.loop-lane.emitter c.drain.new.emitter c.loop-lane.engine.lanes.items c.drain.new.engine.lanes.items
          t can widths lt e.count e.read e.others (v.work typed_for tables queries pieces kept tuples t can widths w);
      left = left_others c.args.emitter.now c.loop-lane.emitter c.drain.new.emitter i e.others v.left;
      sent = sent_more g.W.Wire.word (λ s. frames_left s c.args.window) c.args.emitter.now c.loop-lane.emitter i (g.W.Wire.reported c.args.wire.now) (g.W.Wire.reported c.loop-lane.wire) (g.W.Wire.reported c.drain.new.wire) among (v.left i here) v.sent e.sent;
    }

pub returns-clause-work : goal.returns-clause-work
returns-clause-work g c = λ typed_for tables queries pieces kept tuples t can widths w.
    let v = c.loop-lane.invariant in
    let past = c.loop-lane-test.false in
    let end = c.lanes-lane-end.ensures in
    let count = v.count in
    ended_all queries tables c.args.window pieces kept tuples c.loop-lane.lane c.loop-lane.emitter c.loop-lane.engine.lanes.items (omega (arith, past, end, count)) (v.work typed_for tables queries pieces kept tuples t can widths w)

pub returns-clause-sent : goal.returns-clause-sent
returns-clause-sent g c =
    let past = c.loop-lane-test.false in
    let end = c.lanes-lane-end.ensures in
    sent_all g.W.Wire.word (λ s. frames_left s c.args.window) c.args.emitter.now c.loop-lane.lane (g.W.Wire.reported c.args.wire.now) (g.W.Wire.reported c.loop-lane.wire) (omega (arith, past, end)) c.loop-lane.invariant.sent
