use Rattle.std.proofs.Common.{◌≡◌, List, [], ◌∷◌, ◌++◌, ap, subst, sym}
use Rattle.sn_windows.specs.Rising.{Window}
use Rattle.sn_command_run.specs.declared.form.Form.{Form}
use Rattle.sn_command_run.specs.Along.{plan_of}
use Rattle.sn_command_run.specs.Causal.{plan_never_stops}
use Rattle.sn_command_run.specs.Planned.{Planned, wording_in}
use Rattle.sn_command_run.proofs.answering.AlongAnswering.close.Goals as goal

pub returns-clause-text : goal.returns-clause-text
returns-clause-text g c = λ closed tuples some h.
    let a = c.args.self.now in
    let number = c.args.number in
    let all : List Window = closed ++ (number, tuples) ∷ [] in
    let e = c.in_ok-answers.ensures in
    let queries : (plan_of a).queries ≡ c.close_window.new.self.typed.queries = sym (ap (λ (p : Planned). p.queries) e.plan) in
    subst (λ (form : Form). c.in_ok-text.text ≡ (wording_in form g.M.Machine.reported (plan_of a)).block all number tuples) e.form
    (c.in_ok-text.ensures g.M.Machine.reported (plan_of a) all number tuples queries (e.answers closed tuples some h))

pub returns-clause-goes_on : goal.returns-clause-goes_on
returns-clause-goes_on g c = λ closed tuples some h. plan_never_stops c.args.self.now.form g.M.Machine.reported (plan_of c.args.self.now) (closed ++ (c.args.number, tuples) ∷ []) c.args.number tuples
