use Rattle.std.proofs.Common.{◌<◌, ◌≤◌, ℕ, List, [], ◌∷◌, ◌++◌, length, sym, subst, ◌∙◌}
use Rattle.sn_command_replan.specs.Working.{followed}
use Rattle.sn_windows.specs.Blocks.{most_records}
use Rattle.sn_windows.specs.Rising.{Window}
use Rattle.sn_command_replan.proofs.answering.ReplanningAnswering.pass.Goals as goal

pub plan_next-requires-clause-switch : goal.plan_next-requires-clause-switch
plan_next-requires-clause-switch c = let h = c.requires.hand in (c.in_ok-text.ensures.answered h.0 h.1 h.2 h.3).switch

pub plan_next-requires-clause-some : goal.plan_next-requires-clause-some
plan_next-requires-clause-some c =
    let h = c.requires.hand in
    subst (λ (ts : List (List ℕ)). 0 < length ts) (sym (c.in_ok-text.ensures.answered h.0 h.1 h.2 h.3).held) h.2

pub plan_next-requires-clause-few : goal.plan_next-requires-clause-few
plan_next-requires-clause-few c =
    let h = c.requires.hand in
    subst (λ (ts : List (List ℕ)). length ts ≤ most_records) (sym (c.in_ok-text.ensures.answered h.0 h.1 h.2 h.3).held) h.4

pub returns-clause-begun : goal.returns-clause-begun
returns-clause-begun c = λ closed tuples some h rising.
    let f = followed c.args.self.now in
    let all : List Window = closed ++ (c.args.at_hand, tuples) ∷ [] in
    let e = c.in_ok-text.ensures in
    let n = c.in_ok-plan_next.ensures in
    c.in_ok-begin.ensures.begun f all c.args.at_hand c.args.number (n.followed ∙ e.followed) (n.closed f closed tuples e.followed (e.answered closed tuples some h)) c.requires.above rising
