use Rattle.std.proofs.Common.{◌≡◌, ◌++◌, take}
use Rattle.std.specs.List.{flat_map}
use Rattle.sn_command_detect.specs.Detected.{stay_text}
use Rattle.sn_types.specs.Typed.{query_at}
use Rattle.sn_command_detect.proofs.text.push_stays.Given as goal

abbrev pub invariant-loop-stay : goal.invariant-loop-stay
invariant-loop-stay l = l.text.items ≡ l.fn.text.items ++ flat_map (stay_text (query_at l.t.queries l.q)) (take l.stay-index l.stays)
