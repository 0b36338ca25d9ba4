use Rattle.std.proofs.Common.{◌≡◌, ◌<◌, IfSome, length, slice_get}
use Rattle.sn_emit.proofs.Unread.{Unread}
use Rattle.sn_test_engine.proofs.lanes.window.Given as goal

abbrev pub invariant-loop-tuple : goal.invariant-loop-tuple
invariant-loop-tuple l = record { count : length l.emitter ≡ length l.initial.emitter; unread : IfSome (slice_get l.emitter l.lane) Unread }

abbrev pub invariant-loop : goal.invariant-loop
invariant-loop l = length l.emitter ≡ length l.fn.emitter
