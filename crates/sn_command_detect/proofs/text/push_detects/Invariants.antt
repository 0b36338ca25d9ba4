use Rattle.std.proofs.Common.{◌≡◌, ◌++◌, take}
use Rattle.std.specs.List.{flat_map}
use Rattle.sn_command_detect.specs.Watching.{detect_text}
use Rattle.sn_command_detect.proofs.text.push_detects.Given as goal

abbrev pub invariant-loop-detect : goal.invariant-loop-detect
invariant-loop-detect l = l.text.items ≡ l.fn.text.items ++ flat_map detect_text (take l.detect-index l.detects)
