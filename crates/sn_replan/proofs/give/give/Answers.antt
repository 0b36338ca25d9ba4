use Rattle.std.proofs.Common.{◌≡◌, ◌<◌, ◌≤◌, ◌+◌, ℕ, List, [], ◌∷◌, ◌++◌, length, take, ap, sym, subst, ◌∙◌, arith}
use Rattle.std.specs.List.{AllByRecursion}
use Rattle.std.proofs.lemmas.List.{take_all, take_more}
use Rattle.sn_base.proofs.Lists.{all_append}
use Rattle.sn_engine_lockstep.specs.Work.{AreAtWork}
use Rattle.sn_types.specs.Typed.{HasWidths}
use Rattle.sn_replan.proofs.give.give.Goals as goal

pub loop-tuple-preserved : goal.loop-tuple-preserved
loop-tuple-preserved c =
    let v = c.loop-tuple.invariant in
    let e = c.in_ok-packet.ensures in
    let tuples = c.args.tuples.now in
    let i = c.loop-tuple.tuple-index in
    let tuple = c.tuple-item.result in
    let within : i < length tuples = omega arith in
    let more : take (i + 1) tuples ≡ take i tuples ++ tuple ∷ [] = take_more tuples i tuple within ∙ ap (λ (t : List ℕ). take i tuples ++ t ∷ []) (sym c.tuple-item.is) in
    record {
      work = λ queries tables pieces kept w. subst (λ (ts : List (List ℕ)). AreAtWork queries tables pieces kept ts c.packet.new.self.emitter c.packet.new.self.engine.lanes.items) (sym more)
          (e.work queries tables pieces kept (take i tuples) (v.work queries tables pieces kept w));
      widths = subst (AllByRecursion HasWidths) (sym more) (all_append HasWidths (take i tuples) (tuple ∷ []) v.widths (c.widths.ensures, tt));
      unread = e.unread;
      lanes = λ queries tables pieces h. e.lanes queries tables pieces (v.lanes queries tables pieces h);
      count = e.count ∙ v.count;
      queries = e.queries ∙ v.queries;
      closed = e.closed ∙ v.closed;
      prefixes = e.prefixes ∙ v.prefixes;
      sources = e.sources ∙ v.sources;
    }

pub returns-clause-work : goal.returns-clause-work
returns-clause-work c = λ queries tables pieces kept w.
    let past = c.loop-tuple-test.false in
    let le : length c.args.tuples.now ≤ c.loop-tuple.tuple-index = omega (arith, past) in
    subst (λ (ts : List (List ℕ)). AreAtWork queries tables pieces kept ts c.loop-tuple.driver.emitter c.loop-tuple.driver.engine.lanes.items) (take_all c.loop-tuple.tuple-index c.args.tuples.now le)
    (c.loop-tuple.invariant.work queries tables pieces kept w)

pub returns-clause-widths : goal.returns-clause-widths
returns-clause-widths c =
    let past = c.loop-tuple-test.false in
    let le : length c.args.tuples.now ≤ c.loop-tuple.tuple-index = omega (arith, past) in
    subst (AllByRecursion HasWidths) (take_all c.loop-tuple.tuple-index c.args.tuples.now le) c.loop-tuple.invariant.widths
