use Rattle.std.proofs.Common.{◌≡◌, length}
use Rattle.sn_engine_lockstep.specs.Work.{AreUnread}
use Rattle.sn_test_engine.proofs.lockstep.answer.Given as goal

abbrev pub invariant-loop-tuple : goal.invariant-loop-tuple
invariant-loop-tuple l = record {
  unread : AreUnread l.driver.emitter;
  count : length l.driver.emitter ≡ length l.fn.driver.emitter;
  queries : l.driver.engine.t.queries ≡ l.fn.driver.engine.t.queries;
  sources : l.driver.sources ≡ l.fn.driver.sources;
}
