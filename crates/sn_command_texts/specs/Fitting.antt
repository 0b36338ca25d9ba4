-- to be believed
-- Whether a plan is refused.
use Rattle.std.specs.Prelude.{List, Option, None, Some, Result, Ok, Err}
use Rattle.sn_plan_fit.specs.Pieces.{fit_misfit, shape_misfit}
use Rattle.sn_plan_fit.specs.declared.misfit.Misfit.{Misfit}
use Rattle.sn_plan_grammar.specs.declared.plan.Plan.{Plan}
use Rattle.sn_switch.specs.declared.switch.Switch.{Switch}
use Rattle.sn_command.specs.declared.fault.Fault.{Fault}
use Rattle.sn_command.specs.declared.fault.Fault.TheVariants as faults
use Rattle.sn_command.specs.Outcomes.{Stage}
use Rattle.sn_command.specs.Stages.{Gives}
use Rattle.sn_types.specs.declared.typed_query.TypedQuery.{TypedQuery}

-- the first check that fails is a fault
abbrev pub misfit_verdict : Option Misfit → Result (Unit {0}) Fault
misfit_verdict None = Ok tt
misfit_verdict (Some misfit) = Err (faults.Misfit misfit)

-- the plan fits the switch, or is refused for the first check that fails
abbrev pub Fitting : List TypedQuery → Switch → Plan → Stage (Unit {0})
Fitting queries switch plan = Gives (misfit_verdict (fit_misfit queries switch plan.entries))

-- the plan has the shape of the queries, or is refused for the first check that fails
abbrev pub Shaping : List TypedQuery → Plan → Stage (Unit {0})
Shaping queries plan = Gives (misfit_verdict (shape_misfit queries plan.entries))
