use Rattle.std.proofs.Common.{◌≡◌, ◌++◌, take}
use Rattle.std.specs.List.{flat_map}
use Rattle.sn_command_job.specs.Summary.{shown_part}
use Rattle.sn_command_job.proofs.summary.push_parts.Given as goal

abbrev pub invariant-loop-part : goal.invariant-loop-part
invariant-loop-part l = l.text.items ≡ l.fn.text.items ++ flat_map (shown_part l.t.queries) (take l.part-index l.parts)
