use Rattle.std.proofs.Common.{◌≡◌, ◌++◌, true, length, map}
use Rattle.std.specs.List.{AllByRecursion, list_all}
use Rattle.std.specs.Vec.Iter.{into_iter_items, into_iter_len}
use Rattle.sn_command_captures.specs.Counted.{share_of}
use Rattle.sn_command_captures.specs.Shares.{IsSound}
use Rattle.sn_command_captures.proofs.CountLemmas.{is_countable}
use Rattle.sn_command_captures.proofs.count.count.Given as goal

-- the first captures were counted, and none of them has a window with too many records
abbrev pub invariant-loop-capture : goal.invariant-loop-capture
invariant-loop-capture l = record {
  rest : l.yielded ++ into_iter_items l.capture-iterator ≡ into_iter_items l.initial.capture-iterator;
  count : into_iter_len l.capture-iterator ≡ length (into_iter_items l.capture-iterator);
  shares : l.shares ≡ map (share_of l.window_ns l.start) l.yielded;
  few : list_all (is_countable l.window_ns l.start) l.yielded ≡ true;
  sound : AllByRecursion IsSound l.shares;
}
