use Rattle.std.proofs.Common.{◌≡◌, ℕ, List, ◌++◌, Some, ap₂, length, ◌∙◌}
use Rattle.sn_command_capture.proofs.StandLemmas.{ok_weaker}
use Rattle.sn_command_capture.specs.Wording.{Closed}
use Rattle.sn_out.specs.Text.{damage_line, total_line}
use Rattle.sn_command_run.specs.Along.{plan_of}
use Rattle.sn_command_run.specs.TraceWatching.{IsAtWork, IsIdle}
use Rattle.sn_command_run.specs.TraceWording.{traced_wording}
use Rattle.sn_command_run.proofs.AtWork.{all_sent, last_lines_are}
use Rattle.sn_command_run.proofs.trace_answering.TracedAnswering.last.Goals as goal
use Rattle.sn_windows.specs.Rising.{Window}

pub returns : goal.returns
returns g c =
    let a = c.args.self.now in
    let machine = g.M.Machine in
    let lines = c.as_slice.result.now in
    let text = c.as_slice-2.result.now in
    ok_weaker (λ (whole : List ℕ). whole ≡ lines ++ text)
    (λ (whole : List ℕ). (closed : List Window) → Closed (IsIdle machine a) (IsAtWork machine a) closed → c.args.windows ≡ length closed → whole ≡ (traced_wording a.schedule (plan_of a.along) machine.reported).last closed c.args.ending) c.after_lines.result
    (λ whole is closed h count.
    is ∙ ap₂ (λ (front following : List ℕ). front ++ following) (c.as_slice.ensures.value ∙ last_lines_are machine a closed h)
    (c.as_slice-2.ensures ∙ c.in_ok-text.ensures
    ∙ ap₂ (λ (windows sent : ℕ). damage_line c.args.ending ++ total_line windows (Some sent)) count (all_sent machine a closed h))) c.after_lines.ensures
