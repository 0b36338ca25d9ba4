-- serves proofs
-- Neither the block of a window nor whether it stops depends on a later one.
use Rattle.std.specs.Prelude.{◌≡◌, ℕ, List, [], ◌∷◌, ◌++◌, Option, None, Some}
use Rattle.std.proofs.Common.{ap, sym, ◌∙◌}
use Rattle.sn_command_capture.specs.Wording.{IsCausal, StopsInTime}
use Rattle.sn_command_run.specs.TraceCausal.{up_to_front}
use Rattle.sn_command_run.specs.TraceWording.{up_to}
use Rattle.sn_command_replan.specs.Late.{epochs_late}
use Rattle.sn_command_replan.specs.Replan.{Followed, epochs_of, last_block, replan_wording}
use Rattle.sn_windows.specs.Rising.{AreRising, Window}

none_after : (last : Option ℕ) (closed : List Window) (number : ℕ) (tuples : List (List ℕ)) (more : List Window)
    → AreRising last (closed ++ (number, tuples) ∷ more) → AreRising last (closed ++ (number, tuples) ∷ [])
none_after last [] number tuples more r = (r.0, tt)
none_after last (w ∷ closed) number tuples more r = (r.0, none_after (Some w.0) closed number tuples more r.1)

up_to_same : (closed : List Window) (number : ℕ) (tuples : List (List ℕ)) (more : List Window) → AreRising None (closed ++ (number, tuples) ∷ more)
    → up_to number (closed ++ (number, tuples) ∷ more) ≡ up_to number (closed ++ (number, tuples) ∷ [])
up_to_same closed number tuples more rising =
    up_to_front None closed number tuples more rising ∙ sym (up_to_front None closed number tuples [] (none_after None closed number tuples more rising))

pub replan_is_causal : (f : Followed) → IsCausal (replan_wording f)
replan_is_causal f closed number tuples more rising =
    ap (λ (windows : List Window). last_block f 0 (epochs_of f windows).spans number) (up_to_same closed number tuples more rising)

pub replan_stops_in_time : (f : Followed) → StopsInTime (replan_wording f)
replan_stops_in_time f = record {
  causal = λ closed number tuples more rising. ap (λ (windows : List Window). (epochs_of f windows).refused) (up_to_same closed number tuples more rising);
  late = λ windows number tuples fault e. epochs_late f (up_to number windows) fault e;
}
