use Rattle.std.proofs.Common.{ℕ, List, map, nat_lt, ap, ◌∙◌}
use Rattle.std.specs.Simd.Lanes.{sel_l}
use Rattle.sn_lanes.proofs.RowLemmas.{picked_is}
use Rattle.sn_lanes.proofs.slots8.mix_place.Goals as goal

pub returns : goal.returns
returns c =
    picked_is c.args.place c.args.lengths c.mix_column-mixed.result c.args.hash c.requires.lengths
    ∙ ap (λ (m : List ℕ). sel_l {A = ℕ} (map (λ n. nat_lt c.args.place n) c.args.lengths) m c.args.hash) c.mix_column-mixed.ensures
