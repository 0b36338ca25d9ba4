-- serves proofs
-- The settings of a prefix of a branch: its cut, and the sizes of its registers.
use Rattle.std.specs.Prelude.{ℕ, ◌+◌, List, map, take}
use Rattle.std.specs.List.{flat_map, range_with_len}
use Rattle.sn_types.specs.declared.typed_op.TOp.{TOp}
use Rattle.sn_types.specs.Cuts.{stateful}
use Rattle.sn_plan_choices.specs.Options.{Setting, size_lists}

-- all settings of these operators up to a cut: by cut, and within a cut by sizes
abbrev pub settings : List ℕ → ℕ → List TOp → List Setting
settings sizes cut ops = flat_map (λ cut. map (λ chosen. (cut, chosen)) (size_lists sizes (stateful (take cut ops)))) (range_with_len 0 (cut + 1))
