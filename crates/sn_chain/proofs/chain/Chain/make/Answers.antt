use Rattle.std.proofs.Common.{ℕ, sym, subst}
use Rattle.sn_chain.proofs.OfferLemmas.{made_empty, made_cells}
use Rattle.sn_chain.proofs.chain.Chain.make.Goals as goal

pub returns : goal.returns
returns g c = made_empty c.args.fold c.args.depth c.args.slots c.unit-value.result c.in_ok-cells.cells c.in_ok-marks.marks.items c.in_ok-cells.ensures c.in_ok-marks.ensures

pub invariant_of-result : goal.invariant_of-result
invariant_of-result g c =
    let q = c.requires in
    let had = subst (λ (v : ℕ). g.F.Fold.takes c.args.fold v) (sym c.unit-value.ensures) (g.met.F.Fold.laws c.args.fold).unit_had in
    made_cells (g.F.Fold.takes c.args.fold) c.args.depth c.args.slots c.unit-value.result c.in_ok-cells.cells c.in_ok-marks.marks.items q.some_depth q.most_depth q.some_slots q.most_slots had c.in_ok-cells.ensures c.in_ok-marks.ensures
