use Rattle.std.proofs.Common.{◌∷◌, [], ℕ, List, Bool, Result, IfOk, refl, ap, sym, subst, ◌∙◌}
use Rattle.sn_command.specs.declared.fault.Fault.{Fault}
use Rattle.sn_command_search.specs.declared.certificate.Certificate.{Certificate}
use Rattle.sn_command_replan.specs.Replan.{Followed, planned_on}
use Rattle.sn_command_replan.specs.Searched.{searched_on}
use Rattle.sn_command_replan.specs.Working.{IsAnswered}
use Rattle.sn_command_replan.proofs.WorkLemmas.{begins_next, begins_none, goes_further}
use Rattle.sn_plan_fit.specs.Fits.{Fits}
use Rattle.sn_command_replan.proofs.replanning.Replanning.plan_next.Goals as goal

pub returns-then-not-over-clause-closed : goal.returns-then-not-over-clause-closed
returns-then-not-over-clause-closed c = λ f closed tuples same h.
    let a = c.args.self.now in
    goes_further f a closed c.args.number tuples (subst (λ (over : Bool). IsAnswered f a closed c.args.number tuples over) c.if-not-over.true h)

pub returns-in_ok-self-in-Ok-2-clause-closed : goal.returns-in_ok-self-in-Ok-2-clause-closed
returns-in_ok-self-in-Ok-2-clause-closed c = λ f closed tuples same h.
    let a = c.args.self.now in
    let number = c.args.number in
    let over = subst (λ (o : Bool). IsAnswered f a closed number tuples o) c.if-not-over.false h in
    let planned = c.in_ok-certificate.ensures in
    let is = sym c.in-Ok.is ∙ planned.verdict ∙ ap (λ (ts : List (List ℕ)). searched_on a.limits a.typed.queries a.nodes ((number, ts) ∷ [])) (c.replace-tuples.ensures.value ∙ h.held) ∙ ap (λ (g : Followed). planned_on g (number, tuples)) same in
    let fits = subst (λ (v : Result Certificate Fault). IfOk v (λ x. Fits a.typed.queries a.limits x.plan.entries)) c.in-Ok.is planned.fits in
    begins_next f a closed number tuples over _ c.in-Ok.certificate is c.requires.switch refl refl c.in_ok-self-in-Ok.ensures c.in_ok-self-in-Ok-2.ensures fits.paths c.in_ok-renew-in-Ok.ensures.runs c.in_ok-renew-in-Ok.ensures.last

pub returns-in-Err-clause-closed : goal.returns-in-Err-clause-closed
returns-in-Err-clause-closed c = λ f closed tuples same h.
    let a = c.args.self.now in
    let number = c.args.number in
    let over = subst (λ (o : Bool). IsAnswered f a closed number tuples o) c.if-not-over.false h in
    let is = sym c.in-Err.is ∙ c.in_ok-certificate.ensures.verdict ∙ ap (λ (ts : List (List ℕ)). searched_on a.limits a.typed.queries a.nodes ((number, ts) ∷ [])) (c.replace-tuples.ensures.value ∙ h.held) ∙ ap (λ (g : Followed). planned_on g (number, tuples)) same in
    begins_none f a closed number tuples over _ c.in-Err.fault is c.requires.switch refl refl
