use Rattle.std.proofs.Common.{◌≡◌, ◌++◌, ℕ, List, length, Some, ap₂, ◌∙◌}
use Rattle.sn_command_capture.proofs.StandLemmas.{ok_weaker}
use Rattle.sn_command_capture.specs.Wording.{Closed}
use Rattle.sn_command_replan.specs.Replan.{replan_wording}
use Rattle.sn_command_replan.specs.Working.{IsAtHand, IsIdle, followed}
use Rattle.sn_command_replan.proofs.WorkLemmas.{all_sent}
use Rattle.sn_out.specs.Text.{damage_line, total_line}
use Rattle.sn_windows.specs.Rising.{Window}
use Rattle.sn_command_replan.proofs.answering.ReplanningAnswering.last.Goals as goal

pub returns : goal.returns
returns c =
    let a = c.args.self.now in
    ok_weaker (λ (text : List ℕ). text ≡ damage_line c.args.ending ++ total_line c.args.windows (Some a.emitted))
    (λ (text : List ℕ). (closed : List Window) → Closed (IsIdle a) (IsAtHand a) closed → c.args.windows ≡ length closed → text ≡ (replan_wording (followed a)).last closed c.args.ending) c.last_lines.result
    (λ text is closed h count. is ∙ ap₂ (λ (windows sent : ℕ). damage_line c.args.ending ++ total_line windows (Some sent)) count (all_sent a closed h)) c.last_lines.ensures
