use Rattle.std.proofs.Common.{List, ℕ, [], ◌∷◌, ◌++◌, None, ap, ◌∙◌}
use Rattle.sn_base.proofs.Lists.{all_append}
use Rattle.sn_types.specs.Typed.{HasWidths}
use Rattle.sn_command_detect.proofs.WatchLemmas.{rising_same}
use Rattle.sn_command_detect.proofs.watch.Watch.take.Goals as goal

pub returns-clause-taken : goal.returns-clause-taken
returns-clause-taken c = λ closed number tuples h. record {
  kept = c.in_ok-push.ensures.ok ∙ ap (λ (ts : List (List ℕ)). ts ++ c.args.tuple.now ∷ []) h.kept;
  widths = all_append HasWidths tuples (c.args.tuple.now ∷ []) h.widths (c.widths.ensures, tt);
  after = h.after;
  rising = rising_same None closed number tuples (tuples ++ c.args.tuple.now ∷ []) h.rising;
}
