-- serves proofs
-- The least stage that the next table may have, as the tables of a piece are gone through.
use Rattle.std.specs.Prelude.{ℕ, ◌+◌, ◌-◌, List, [], ◌∷◌, Bool, nat_lt, Option, Some, Result, Ok, Err, if◌then◌else◌}
use Rattle.sn_plan_fit.specs.declared.misfit.Misfit.{Misfit}
use Rattle.sn_plan_fit.specs.declared.misfit.MisfitKind.TheVariants.{Stage}
use Rattle.sn_plan_fit.specs.Checks.{failing}
use Rattle.sn_plan_fit.specs.Placing.{Table, stateless, register}
use Rattle.sn_plan_fit.specs.Tables.{order_misfit}

-- after these tables, of which the first may stand in stage `least`
abbrev pub least_after : ℕ → List Table → ℕ
least_after least [] = least
least_after least (stateless ∷ ts) = least_after (least + 1) ts
least_after least (register s ∷ ts) = least_after (s + 1) ts

-- the order of the tables after some, whose answer this is
abbrev pub goes_on : Result ℕ Misfit → List Table → Option Misfit
goes_on (Ok least) following = order_misfit least following
goes_on (Err misfit) following = Some misfit

-- the last stage is passed, by the least stage after all tables
abbrev pub end_misfit : ℕ → Bool → ℕ → Option Misfit
end_misfit stages registers least =
    if registers then failing (nat_lt stages least) Stage (stages - 1) (least - 1) else failing (nat_lt stages least) Stage stages least
