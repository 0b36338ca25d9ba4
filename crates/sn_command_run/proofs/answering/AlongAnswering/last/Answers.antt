use Rattle.std.proofs.Common.{◌≡◌, ℕ, List, length}
use Rattle.sn_command_capture.proofs.StandLemmas.{ok_weaker}
use Rattle.sn_command_capture.specs.Wording.{Closed}
use Rattle.sn_command_run.specs.Along.{IsAtHand, IsIdle, plan_of}
use Rattle.sn_command_run.specs.Planned.{Planned, Telling, reported_emitted_in, wording_in}
use Rattle.sn_command_run.proofs.HandLemmas.{all_emitted}
use Rattle.sn_command_run.proofs.answering.AlongAnswering.last.Goals as goal
use Rattle.sn_windows.specs.Rising.{Window}

pub returns : goal.returns
returns g c =
    let a = c.args.self.now in
    let machine = g.M.Machine in
    ok_weaker (λ (text : List ℕ). (reported : Telling) (p : Planned) (closed : List Window) → c.args.windows ≡ length closed → a.emitted ≡ reported_emitted_in reported p closed → text ≡ (wording_in a.form reported p).last closed c.args.ending)
    (λ (text : List ℕ). (closed : List Window) → Closed (IsIdle machine a) (IsAtHand machine a) closed → c.args.windows ≡ length closed → text ≡ (wording_in a.form machine.reported (plan_of a)).last closed c.args.ending) c.last_text.result
    (λ text is closed h count. is machine.reported (plan_of a) closed count (all_emitted machine a closed h)) c.last_text.ensures
