-- to be believed
-- Checks one after another.
use Rattle.std.specs.Prelude.{ℕ, Bool, Option, Some, None, Result, Ok, Err, if◌then◌else◌}
use Rattle.sn_plan_fit.specs.declared.misfit.Misfit.{Misfit}
use Rattle.sn_plan_fit.specs.declared.misfit.MisfitKind.{MisfitKind}

-- the misfit of a check that fails where this holds
abbrev pub failing : Bool → MisfitKind → ℕ → ℕ → Option Misfit
failing fails kind want got = if fails then Some (record { kind = kind; want = want; got = got }) else None

-- the first check that fails, of one and those after it
abbrev pub or_else : Option Misfit → Option Misfit → Option Misfit
or_else None following = following
or_else (Some misfit) following = Some misfit

-- the misfit that is answered, if any
abbrev pub reported : {A : Type 0} → Result A Misfit → Option Misfit
reported (Ok a) = None
reported (Err misfit) = Some misfit
