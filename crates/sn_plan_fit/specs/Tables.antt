-- to be believed
-- The tables of a piece, and the first that can't be placed.
use Rattle.std.specs.Prelude.{ℕ, ◌+◌, ◌-◌, List, [], ◌∷◌, ◌++◌, map, take, drop, length, Bool, true, false, ◌==◌, nat_lt, Option, Some, None, unwrap_or}
use Rattle.std.specs.Prelude.{if◌then◌else◌}
use Rattle.sn_types.specs.declared.typed_op.TOp.{TOp}
use Rattle.sn_types.specs.Cuts.{is_stateful}
use Rattle.sn_plan_fit.specs.declared.misfit.Misfit.{Misfit}
use Rattle.sn_plan_fit.specs.declared.misfit.MisfitKind.TheVariants.{Order, Stage}
use Rattle.sn_plan_fit.specs.Checks.{failing, or_else}
use Rattle.sn_plan_fit.specs.Placing.{Table, stateless, register}

-- the tables of operators in order: one without state for each filter and map, and the registers of a chain of d for each distinct and
-- reduce, with the written stages in order
abbrev pub op_tables : ℕ → List TOp → List ℕ → List Table
op_tables d [] written = []
op_tables d (op ∷ ops) written =
    if is_stateful op then map register (take d written) ++ op_tables d ops (drop d written) else stateless ∷ op_tables d ops written

abbrev pub is_first : ℕ → List ℕ → Bool
is_first level [] = false
is_first level (l ∷ ls) = level == l

-- the membership table, where the level isn't the first of its path
abbrev pub membership : ℕ → List ℕ → List Table
membership level path = if is_first level path then [] else stateless ∷ []

-- ---- order

-- The first register that stands below the least stage that it may have. With no register before it that is the number of tables
-- before it, and else the stage before, plus 1, plus the tables between.
abbrev pub order_misfit : ℕ → List Table → Option Misfit
order_misfit least [] = None
order_misfit least (stateless ∷ ts) = order_misfit (least + 1) ts
order_misfit least (register s ∷ ts) = or_else (failing (nat_lt s least) Order least s) (order_misfit (s + 1) ts)

-- ---- the last stage

-- the last register's stage plus the number of tables after it
abbrev pub end_of : List Table → Option ℕ
end_of [] = None
end_of (stateless ∷ ts) = end_of ts
end_of (register s ∷ ts) = Some (unwrap_or (end_of ts) (s + length ts))

-- with registers that sum is above the last stage; without there are more tables than stages
abbrev pub past_end : ℕ → List Table → Option ℕ → Option Misfit
past_end stages tables (Some sum) = failing (nat_lt (stages - 1) sum) Stage (stages - 1) sum
past_end stages tables None = failing (nat_lt stages (length tables)) Stage stages (length tables)

abbrev pub stage_misfit : ℕ → List Table → Option Misfit
stage_misfit stages tables = past_end stages tables (end_of tables)
