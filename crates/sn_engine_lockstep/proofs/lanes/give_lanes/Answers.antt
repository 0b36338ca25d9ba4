use Rattle.std.proofs.Common.{◌≤◌, ◌<◌, length, refl, sym, ◌∙◌, arith, append-nil}
use Rattle.sn_emit.specs.Senders.{sender_next}
use Rattle.sn_engine_lockstep.proofs.Beginning.{next_unread, set_many, unread_at}
use Rattle.sn_engine_lockstep.proofs.Giving.{give_one, given_all, given_none}
use Rattle.sn_engine_lockstep.specs.Work.{frames_given}
use Rattle.sn_engine_lockstep.proofs.Sending.{left_more, sent_all, sent_more}
use Rattle.sn_engine_lockstep.proofs.lanes.give_lanes.Goals as goal

pub loop-lane-init : goal.loop-lane-init
loop-lane-init g c = record {
  count = refl;
  unread = c.requires;
  queries = refl;
  closed = refl;
  prefixes = refl;
  lanes = λ queries tables pieces h. h;
  work = λ queries tables pieces kept tuples w. given_none queries tables pieces kept tuples c.args.tuple.now c.args.emitter.now c.args.engine.now.lanes.items w;
  left = λ j le. refl;
  sent = sym (append-nil (g.W.Wire.reported c.args.wire.now));
}

pub give-requires-clause-unread : goal.give-requires-clause-unread
give-requires-clause-unread g c = unread_at c.loop-lane.emitter c.loop-lane.lane c.loop-lane.invariant.unread

pub loop-lane-preserved : goal.loop-lane-preserved
loop-lane-preserved g c =
    let v = c.loop-lane.invariant in
    let below = c.loop-lane-test.true in
    let end = c.lanes-lane-end.ensures in
    let count = v.count in
    let i = c.loop-lane.lane in
    let lt : i < length c.loop-lane.emitter = omega (arith, below, end, count) in
    let among : i < length c.args.emitter.now = omega (arith, below, end) in
    let here : i ≤ i = omega arith in
    let tuple = c.args.tuple.now in
    let e = c.in_ok-give.ensures in
    record {
      count = set_many c.loop-lane.emitter c.give.new.emitter i (λ s. sender_next s tuple) lt e.after ∙ v.count;
      unread = next_unread c.loop-lane.emitter c.give.new.emitter i tuple lt e.after v.unread;
      queries = e.queries ∙ v.queries;
      closed = e.closed ∙ v.closed;
      prefixes = e.prefixes ∙ v.prefixes;
      lanes = λ queries tables pieces h. e.lanes queries tables pieces (v.lanes queries tables pieces h);
      work = λ queries tables pieces kept tuples w.
          give_one queries tables pieces kept tuples tuple i c.loop-lane.emitter c.give.new.emitter c.loop-lane.engine.lanes.items c.give.new.engine.lanes.items lt e.after e.taken
          (v.work queries tables pieces kept tuples w);
      left = left_more c.args.emitter.now c.loop-lane.emitter c.give.new.emitter i (λ s. sender_next s tuple) lt e.after v.left;
      sent = sent_more g.W.Wire.word (frames_given tuple) c.args.emitter.now c.loop-lane.emitter i (g.W.Wire.reported c.args.wire.now) (g.W.Wire.reported c.loop-lane.wire) (g.W.Wire.reported c.give.new.wire) among (v.left i here) v.sent e.sent;
    }

pub returns-clause-work : goal.returns-clause-work
returns-clause-work g c = λ queries tables pieces kept tuples w.
    let v = c.loop-lane.invariant in
    let past = c.loop-lane-test.false in
    let end = c.lanes-lane-end.ensures in
    let count = v.count in
    given_all queries tables pieces kept tuples c.args.tuple.now c.loop-lane.lane c.loop-lane.emitter c.loop-lane.engine.lanes.items (omega (arith, past, end, count)) (v.work queries tables pieces kept tuples w)

pub returns-clause-sent : goal.returns-clause-sent
returns-clause-sent g c =
    let past = c.loop-lane-test.false in
    let end = c.lanes-lane-end.ensures in
    sent_all g.W.Wire.word (frames_given c.args.tuple.now) c.args.emitter.now c.loop-lane.lane (g.W.Wire.reported c.args.wire.now) (g.W.Wire.reported c.loop-lane.wire) (omega (arith, past, end)) c.loop-lane.invariant.sent
