-- to be believed
-- The number of a path and of an option, as they are chosen.
use Rattle.std.specs.Prelude.{ℕ, ◌+◌, ◌*◌, List, [], ◌∷◌, Bool, ◌&&◌, ◌==◌, nat_eq, if◌then◌else◌}
use Rattle.std.specs.Cmp.Lexicographic.{pointwise}
use Rattle.std.specs.List.{position_or_len}
use Rattle.sn_switch.specs.declared.switch.Switch.{Switch}
use Rattle.sn_types.specs.declared.typed_query.TypedBranch.{TypedBranch}
use Rattle.sn_plan_fit.specs.Paths.{is_among}
use Rattle.sn_plan_choices.specs.Options.{Setting, options}

-- the number of a path among those of these levels: bit i is set where level i stands on it, but for the finest
abbrev pub path_number : List ℕ → List ℕ → ℕ
path_number [] path = 0
path_number (l ∷ []) path = 0
path_number (l ∷ k ∷ ls) path = (if is_among path l then 1 else 0) + 2 * path_number (k ∷ ls) path

abbrev pub is_setting : Setting → Setting → Bool
is_setting a b = (a.0 == b.0) && pointwise nat_eq a.1 b.1

-- the number of an option: its place among the options of the branch
abbrev pub option_number : Switch → TypedBranch → Setting → ℕ
option_number s b o = position_or_len (is_setting o) (options s b)
