use Rattle.std.proofs.Common.{ℕ, ◌-◌, ◌^◌, map, bit_and, ap, ◌∙◌}
use Rattle.sn_lanes.proofs.MaskLemmas.{masked_all}
use Rattle.sn_lanes.proofs.masks.masks.Goals as goal

pub returns : goal.returns
returns c =
    c.mask_all.ensures
    ∙ ap (λ (bits : ℕ). map (λ x. bit_and x bits) c.args.column.now) c.ones_above.ensures
    ∙ ap (λ (places : ℕ). map (λ x. bit_and x (2 ^ 64 - 2 ^ places)) c.args.column.now) c.min.ensures
    ∙ masked_all c.args.width c.args.keep c.args.column.now c.type_inv.column
