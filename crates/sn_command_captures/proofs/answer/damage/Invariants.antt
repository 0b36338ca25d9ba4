use Rattle.std.proofs.Common.{◌≡◌, ◌+◌, drop, map}
use Rattle.sn_command_captures.specs.Answered.{damage_from, ending_of}
use Rattle.sn_command_captures.proofs.answer.damage.Given as goal

-- the captures so far have no damage
abbrev pub invariant-loop-place : goal.invariant-loop-place
invariant-loop-place l = damage_from 1 (map ending_of l.shares) ≡ damage_from (l.place + 1) (map ending_of (drop l.place l.shares))
