use Rattle.std.proofs.Common.{◌≡◌, ℕ, List, [], ◌∷◌, ◌++◌, ap, sym, subst, ◌∙◌}
use Rattle.sn_command_replan.specs.Replan.{Followed}
use Rattle.sn_command_replan.specs.Standing.{sent_by, stands_after}
use Rattle.sn_command_replan.specs.Working.{Stands, work_of}
use Rattle.sn_command_replan.proofs.WorkLemmas.{not_empty}
use Rattle.sn_command_replan.proofs.replanning.Replanning.begin.Goals as goal

pub returns-clause-begun : goal.returns-clause-begun
returns-clause-begun c = λ f closed at_hand number same h above rising.
    let a = c.args.self.now in
    record {
      switch = h.switch;
      held = c.in_ok-push.ensures.ok ∙ ap (λ (ts : List (List ℕ)). ts ++ c.args.tuple.now ∷ []) c.new.ensures;
      widths = (c.widths.ensures, tt);
      stands = subst (λ (g : Followed). Stands (work_of a) (stands_after g closed) number) (sym same) (h.stands number above);
      sent = subst (λ (g : Followed). a.emitted ≡ sent_by g (stands_after g closed)) (sym same) h.sent;
      new = λ e. not_empty [] c.args.tuple.now e;
      rising = rising;
    }
