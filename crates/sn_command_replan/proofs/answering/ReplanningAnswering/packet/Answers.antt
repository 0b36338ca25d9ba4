use Rattle.std.proofs.Common.{ℕ, List, [], ◌∷◌, ◌++◌, ap, ◌∙◌}
use Rattle.sn_base.proofs.Lists.{all_append}
use Rattle.sn_types.specs.Typed.{HasWidths}
use Rattle.sn_command_replan.proofs.WorkLemmas.{not_empty}
use Rattle.sn_command_replan.proofs.answering.ReplanningAnswering.packet.Goals as goal

pub returns-clause-given : goal.returns-clause-given
returns-clause-given c = λ closed tuples h. record {
  switch = h.switch;
  held = c.in_ok-push.ensures.ok ∙ ap (λ (ts : List (List ℕ)). ts ++ c.args.tuple.now ∷ []) h.held;
  widths = all_append HasWidths tuples (c.args.tuple.now ∷ []) h.widths (c.widths.ensures, tt);
  stands = h.stands;
  sent = h.sent;
  new = λ e. not_empty tuples c.args.tuple.now e;
  rising = h.rising;
}
