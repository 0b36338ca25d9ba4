use Rattle.std.proofs.Common.{◌/◌, ◌^◌, fold, ap, ◌∙◌}
use Rattle.std.specs.Int.{to_le_bytes, w64}
use Rattle.sn_base.specs.Slot.{fnv_step}
use Rattle.sn_base.proofs.SlotLemmas.{lower_alone, lower_then_upper}
use Rattle.sn_base.proofs.slot.mix_column.Goals as goal

pub returns-then-high-eq0 : goal.returns-then-high-eq0
returns-then-high-eq0 c = c.mix_half-low.ensures ∙ lower_alone c.args.hash c.args.column c.if-high-eq0.true

pub returns-else-high-eq0 : goal.returns-else-high-eq0
returns-else-high-eq0 c =
    c.mix_half.ensures
    ∙ ap (λ h. fold fnv_step h (to_le_bytes w64 (c.args.column / 2 ^ 64))) c.mix_half-low.ensures
    ∙ lower_then_upper c.args.hash c.args.column c.if-high-eq0.false
