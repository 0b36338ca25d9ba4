use Rattle.std.proofs.Common.{◌*◌, ◌/◌, ◌%◌, ◌^◌, fold, refl, ap, ◌∙◌}
use Rattle.std.specs.Int.{to_le_bytes, w32}
use Rattle.sn_base.specs.Slot.{fnv_step}
use Rattle.sn_base.proofs.SlotLemmas.{low_alone, low_then_high}
use Rattle.sn_base.proofs.slot.mix_half.Goals as goal

pub returns-then-high-eq0 : goal.returns-then-high-eq0
returns-then-high-eq0 c =
    ap (λ h. h * 11527715348014283921 % 2 ^ 64) (c.mix_bytes-low.ensures ∙ ap (fold fnv_step c.args.hash) c.to_le_bytes.ensures)
    ∙ low_alone c.args.hash (c.args.column % 2 ^ 32) (c.args.column / 2 ^ 32) c.args.column refl refl c.if-high-eq0.true

pub returns-else-high-eq0 : goal.returns-else-high-eq0
returns-else-high-eq0 c =
    c.mix_bytes.ensures
    ∙ ap (fold fnv_step c.mix_bytes-low.result) c.to_le_bytes-else-high-eq0.ensures
    ∙ ap (λ h. fold fnv_step h (to_le_bytes w32 (c.args.column / 2 ^ 32))) (c.mix_bytes-low.ensures ∙ ap (fold fnv_step c.args.hash) c.to_le_bytes.ensures)
    ∙ low_then_high c.args.hash (c.args.column % 2 ^ 32) (c.args.column / 2 ^ 32) c.args.column refl refl
