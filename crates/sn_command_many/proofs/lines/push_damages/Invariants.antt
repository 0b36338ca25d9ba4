use Rattle.std.proofs.Common.{◌≡◌, ◌++◌, ◌+◌, drop, map}
use Rattle.sn_command_captures.specs.Answered.{ending_of}
use Rattle.sn_command_many.specs.Together.{damage_lines}
use Rattle.sn_command_many.proofs.lines.push_damages.Given as goal

-- the lines of the first captures were added
abbrev pub invariant-loop-place : goal.invariant-loop-place
invariant-loop-place l =
    l.text.items ++ damage_lines (l.place + 1) (map ending_of (drop l.place l.shares)) ≡ l.fn.text.items ++ damage_lines 1 (map ending_of l.shares)
