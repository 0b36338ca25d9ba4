use Rattle.std.proofs.Common.{◌<◌, length, refl, sym, subst, ◌∙◌}
use Rattle.sn_engine_asked.proofs.Hearing.{heard_all, heard_more, heard_none, less_after}
use Rattle.sn_engine_lockstep.proofs.Sending.{sent_frame, sent_last, sent_none}
use Rattle.sn_report.specs.Frames.{spelling}
use Rattle.sn_engine_asked.proofs.work.drain.Goals as goal

pub frames-init : goal.frames-init
frames-init c = record {
  read = heard_none c.args.plan.now c.args.window c.args.lane c.args.emitter.now c.args.engine.now.lanes.items c.requires;
  sent = sent_none (spelling 2) c.args.window c.args.lane c.args.emitter.now c.args.bytes.now.items c.requires;
  count = refl;
  others = λ other differs. refl;
  lanes = λ queries tables pieces h. h;
  queries = refl;
  closed = refl;
  prefixes = refl;
}

pub frames-smaller : goal.frames-smaller
frames-smaller c =
    let v = c.frames.invariant in
    let lt : c.args.lane < length c.frames.emitter = subst (λ n. c.args.lane < n) (sym v.count) c.requires in
    less_after c.args.plan.now c.args.window c.args.lane c.args.emitter.now c.frames.emitter c.read_out.new.self c.args.engine.now.lanes.items c.frames.engine.lanes.items v.read
    c.in-Some.frame c.in-Some.ensures.count lt c.in-Some.ensures.frame

pub frames-preserved : goal.frames-preserved
frames-preserved c =
    let v = c.frames.invariant in
    let lt : c.args.lane < length c.frames.emitter = subst (λ n. c.args.lane < n) (sym v.count) c.requires in
    let e = c.in_ok-send-in-Some.ensures in
    record {
      read = heard_more c.args.plan.now c.args.window c.args.lane c.args.emitter.now c.frames.emitter c.read_out.new.self c.args.engine.now.lanes.items c.frames.engine.lanes.items v.read
          c.send.new.engine.lanes.items c.in-Some.frame c.in-Some.ensures.count lt c.in-Some.ensures.frame e.taken;
      sent = sent_frame (spelling 2) c.args.window c.args.lane c.args.emitter.now c.frames.emitter c.read_out.new.self c.args.bytes.now.items c.frames.bytes.items c.send.new.bytes.items v.sent
          c.in-Some.frame c.in-Some.ensures.count lt c.in-Some.ensures.frame e.sent;
      count = c.in-Some.ensures.count ∙ v.count;
      others = λ other differs. c.in-Some.ensures.others other differs ∙ v.others other differs;
      lanes = λ queries tables pieces h. c.in-Some.ensures.lanes queries tables pieces (v.lanes queries tables pieces h);
      queries = e.queries ∙ v.queries;
      closed = e.closed ∙ v.closed;
      prefixes = e.prefixes ∙ v.prefixes;
    }

pub returns-in-None-clause-read : goal.returns-in-None-clause-read
returns-in-None-clause-read c =
    let v = c.frames.invariant in
    let lt : c.args.lane < length c.frames.emitter = subst (λ n. c.args.lane < n) (sym v.count) c.requires in
    heard_all c.args.plan.now c.args.window c.args.lane c.args.emitter.now c.frames.emitter c.read_out.new.self c.args.engine.now.lanes.items c.frames.engine.lanes.items v.read
    c.in-None.ensures.count lt c.in-None.ensures.frame

pub returns-in-None-clause-sent : goal.returns-in-None-clause-sent
returns-in-None-clause-sent c =
    let v = c.frames.invariant in
    let lt : c.args.lane < length c.frames.emitter = subst (λ n. c.args.lane < n) (sym v.count) c.requires in
    sent_last (spelling 2) c.args.window c.args.lane c.args.emitter.now c.frames.emitter c.read_out.new.self c.args.bytes.now.items c.frames.bytes.items c.frames.bytes.items v.sent
    c.in-None.ensures.count lt c.in-None.ensures.frame
