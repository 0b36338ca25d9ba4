-- serves proofs
-- Windows of which none stops.
use Rattle.std.specs.Prelude.{◌≡◌, [], ◌∷◌, ◌++◌, Option, None, Some}
use Rattle.std.proofs.Common.{sym, ◌∙◌}
use Rattle.sn_command.specs.declared.fault.Fault.{Fault}
use Rattle.sn_command_capture.specs.Wording.{IsLate, NeverStops, StopsInTime, Wording}

some_none : (fault : Fault) → ◌≡◌ {A = Option Fault} None (Some fault) → IsLate fault
some_none fault e = absurd cc

-- windows that never stop do it in time
pub never_stopped : (wording : Wording) → NeverStops wording → StopsInTime wording
never_stopped wording never = record {
  causal = λ closed number tuples more rising.
      never (closed ++ (number, tuples) ∷ more) number tuples ∙ sym (never (closed ++ (number, tuples) ∷ []) number tuples);
  late = λ windows number tuples fault e. some_none fault (sym (never windows number tuples) ∙ e);
}
