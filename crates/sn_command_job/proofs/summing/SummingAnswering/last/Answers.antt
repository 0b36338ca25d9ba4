use Rattle.std.proofs.Common.{◌≡◌, ℕ, List, length, ap, ◌∙◌}
use Rattle.sn_command_capture.proofs.StandLemmas.{ok_weaker}
use Rattle.sn_command_capture.specs.Wording.{Closed}
use Rattle.sn_command_job.specs.Summary.{summary, summary_text}
use Rattle.sn_command_job.specs.Summing.{IsAtWork, IsIdle}
use Rattle.sn_command_job.proofs.SummingLemmas.{all_sent, all_shown}
use Rattle.sn_command_run.specs.Along.{plan_of}
use Rattle.sn_command_run.specs.Planned.{reported_emitted_in}
use Rattle.sn_command_job.proofs.summing.SummingAnswering.last.Goals as goal
use Rattle.sn_windows.specs.Rising.{Window}

pub returns : goal.returns
returns g c =
    let a = c.args.self.now in
    let machine = g.M.Machine in
    let lines : ℕ → ℕ → List ℕ → List ℕ = summary_text a.number a.cost a.nodes in
    ok_weaker (λ (text : List ℕ). text ≡ lines c.args.windows a.along.emitted a.shown.items)
    (λ (text : List ℕ). (closed : List Window) → Closed (IsIdle machine a) (IsAtWork machine a) closed → c.args.windows ≡ length closed → text ≡ summary machine.reported a.number a.cost a.nodes (plan_of a.along) closed) c.summary_text.result
    (λ text is closed h count.
    is ∙ ap (λ (n : ℕ). lines n a.along.emitted a.shown.items) count ∙ ap (λ (n : ℕ). lines (length closed) n a.shown.items) (all_sent machine a closed h)
    ∙ ap (lines (length closed) (reported_emitted_in machine.reported (plan_of a.along) closed)) (all_shown machine a closed h)) c.summary_text.ensures
