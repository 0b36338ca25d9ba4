-- serves proofs
-- Options as the code has them.
use Rattle.std.specs.Prelude.{ℕ, ◌≤◌, [], ◌∷◌, ◌++◌, length, take}
use Rattle.sn_types.specs.declared.typed_query.TypedBranch.{TypedBranch}
use Rattle.sn_types.specs.Cuts.{stateful}
use Rattle.sn_plan_choices.specs.declared.setting.Setting.{Setting}
use Rattle.sn_plan_choices.specs.Options as choices

-- an option with its cut, the number of its sizes, and two places for these, of which the others hold 0
abbrev pub written : choices.Setting → Setting
written o = record { cut = o.0; used = length o.1; sizes = take 2 (o.1 ++ 0 ∷ 0 ∷ []) }

-- no cut of the branch is above 12, and at most two stateful operators stand before one
pub record IsNarrow (b : TypedBranch) : Type 0 where
  pub cut : b.max_cut ≤ 12
  pub few : (cut : ℕ) → cut ≤ b.max_cut → stateful (take cut b.ops) ≤ 2
