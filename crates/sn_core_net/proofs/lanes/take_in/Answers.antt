use Rattle.std.proofs.Common.{◌∙◌, ℕ, List, subst, sym}
use Rattle.sn_core_net.specs.Marks.{Sees}
use Rattle.sn_core_net.specs.declared.holder.Holder.{Holder}
use Rattle.sn_core_net.proofs.MarkLemmas.{nothing_given, ring_kept}
use Rattle.sn_core_net.proofs.lanes.take_in.Goals as goal

pub returns-else-take_tuple-clause-marks : goal.returns-else-take_tuple-clause-marks
returns-else-take_tuple-clause-marks c = λ seen.
    let h : Holder = c.args.lane.now in
    let tuple : List ℕ = c.args.tuple.now in
    subst (λ (k : Holder). Sees c.args.place c.args.room k c.args.marks.now c.args.marks.now) (sym c.take_tuple.ensures.taken)
    (nothing_given c.args.place c.args.room h tuple c.args.marks.now (ring_kept h tuple (sym c.take_tuple.ensures.gives ∙ c.if-take_tuple.false)) seen)
