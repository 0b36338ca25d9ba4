use Rattle.std.proofs.Common.{◌≡◌, List, ℕ, length}
use Rattle.sn_command_detect.specs.Detected.{detect_lines}
use Rattle.sn_command_detect.specs.Watching.{IsIdle}
use Rattle.sn_ops.proofs.Steps.{ok_weaker}
use Rattle.sn_windows.specs.Rising.{Window}
use Rattle.sn_command_detect.proofs.WatchLemmas.{stands_idle}
use Rattle.sn_command_detect.proofs.answering.WatchAnswering.last.Goals as goal

pub returns : goal.returns
returns c =
    let s = c.args.self.now in
    ok_weaker (λ (text : List ℕ). (closed : List Window) → IsIdle s closed → c.args.windows ≡ length closed → text ≡ detect_lines s.typed.queries s.plan.entries closed c.args.ending) _
    (λ text same closed stands many. same closed (stands_idle s closed stands) many) c.lines.result c.lines.ensures
