use Rattle.std.proofs.Common.{◌<◌, length, refl, sym, subst, ◌∙◌}
use Rattle.sn_engine_lockstep.proofs.Draining.{begun, less_left, read_all, read_more}
use Rattle.sn_engine_lockstep.proofs.Sending.{sent_frame, sent_last, sent_none}
use Rattle.sn_engine_lockstep.proofs.work.drain.Goals as goal

pub frames-init : goal.frames-init
frames-init g c = record {
  read = begun c.args.window c.args.lane c.args.emitter.now c.args.engine.now.lanes.items c.requires;
  sent = sent_none g.W.Wire.word c.args.window c.args.lane c.args.emitter.now (g.W.Wire.reported c.args.wire.now) c.requires;
  count = refl;
  others = λ other differs. refl;
  lanes = λ queries tables pieces h. h;
  queries = refl;
  closed = refl;
  prefixes = refl;
}

pub frames-smaller : goal.frames-smaller
frames-smaller g c =
    let v = c.frames.invariant in
    let lt : c.args.lane < length c.frames.emitter = subst (λ n. c.args.lane < n) (sym v.count) c.requires in
    less_left c.args.window c.args.lane c.args.emitter.now c.frames.emitter c.read_out.new.self c.args.engine.now.lanes.items c.frames.engine.lanes.items c.send.new.engine.lanes.items v.read
    c.in-Some.frame c.in-Some.ensures.count lt c.in-Some.ensures.frame

pub frames-preserved : goal.frames-preserved
frames-preserved g c =
    let v = c.frames.invariant in
    let lt : c.args.lane < length c.frames.emitter = subst (λ n. c.args.lane < n) (sym v.count) c.requires in
    record {
      read = read_more c.args.window c.args.lane c.args.emitter.now c.frames.emitter c.read_out.new.self c.args.engine.now.lanes.items c.frames.engine.lanes.items c.send.new.engine.lanes.items v.read
          c.in-Some.frame c.in-Some.ensures.count lt c.in-Some.ensures.frame c.in_ok-send-in-Some.ensures.taken;
      sent = sent_frame g.W.Wire.word c.args.window c.args.lane c.args.emitter.now c.frames.emitter c.read_out.new.self (g.W.Wire.reported c.args.wire.now) (g.W.Wire.reported c.frames.wire) (g.W.Wire.reported c.send.new.wire) v.sent
          c.in-Some.frame c.in-Some.ensures.count lt c.in-Some.ensures.frame c.in_ok-send-in-Some.ensures.sent;
      count = c.in-Some.ensures.count ∙ v.count;
      others = λ other differs. c.in-Some.ensures.others other differs ∙ v.others other differs;
      lanes = λ queries tables pieces h. c.in-Some.ensures.lanes queries tables pieces (v.lanes queries tables pieces h);
      queries = c.in_ok-send-in-Some.ensures.queries ∙ v.queries;
      closed = c.in_ok-send-in-Some.ensures.closed ∙ v.closed;
      prefixes = c.in_ok-send-in-Some.ensures.prefixes ∙ v.prefixes;
    }

pub returns-in-None-clause-read : goal.returns-in-None-clause-read
returns-in-None-clause-read g c =
    let v = c.frames.invariant in
    let lt : c.args.lane < length c.frames.emitter = subst (λ n. c.args.lane < n) (sym v.count) c.requires in
    read_all c.args.window c.args.lane c.args.emitter.now c.frames.emitter c.read_out.new.self c.args.engine.now.lanes.items c.frames.engine.lanes.items c.frames.engine.lanes.items v.read
    c.in-None.ensures.count lt c.in-None.ensures.frame refl

pub returns-in-None-clause-sent : goal.returns-in-None-clause-sent
returns-in-None-clause-sent g c =
    let v = c.frames.invariant in
    let lt : c.args.lane < length c.frames.emitter = subst (λ n. c.args.lane < n) (sym v.count) c.requires in
    sent_last g.W.Wire.word c.args.window c.args.lane c.args.emitter.now c.frames.emitter c.read_out.new.self (g.W.Wire.reported c.args.wire.now) (g.W.Wire.reported c.frames.wire) (g.W.Wire.reported c.frames.wire) v.sent
    c.in-None.ensures.count lt c.in-None.ensures.frame
