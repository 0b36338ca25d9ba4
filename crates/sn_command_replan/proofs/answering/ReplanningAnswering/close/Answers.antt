use Rattle.std.proofs.Common.{◌≡◌, List, [], ◌∷◌, ◌++◌, sym, subst}
use Rattle.sn_command_replan.specs.Replan.{Followed, epochs_of, sent_in}
use Rattle.sn_command_replan.specs.Working.{followed}
use Rattle.sn_command_replan.proofs.WorkLemmas.{idle_is}
use Rattle.sn_windows.specs.Rising.{Window}
use Rattle.sn_command_replan.proofs.answering.ReplanningAnswering.close.Goals as goal

pub returns-clause-closed : goal.returns-clause-closed
returns-clause-closed c = λ closed tuples some h.
    let e = c.in_ok-text.ensures in
    let f = followed c.args.self.now in
    let b = c.end.new.self in
    let all : List Window = closed ++ (c.args.number, tuples) ∷ [] in
    subst (λ (g : Followed). b.emitted ≡ sent_in g (epochs_of g all).spans) (sym e.followed) (idle_is f b closed c.args.number tuples _ (e.answered closed tuples some h))
