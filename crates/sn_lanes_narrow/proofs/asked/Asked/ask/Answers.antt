use Rattle.std.proofs.Common.{length, ap, sym, subst, ◌∙◌}
use Rattle.sn_lanes.proofs.LaneLemmas.{length_flags}
use Rattle.sn_lanes_narrow.specs.Asked.{AreAnswersOf}
use Rattle.sn_lanes_narrow.specs.Marks.{asks, mark}
use Rattle.sn_lanes_narrow.proofs.asked.Asked.ask.Goals as goal

pub both-requires : goal.both-requires
both-requires c =
    let tuples = c.args.tuples.now in
    ap length (c.as_slice-in-Some.ensures.value ∙ c.in-Some.ensures tuples (subst (AreAnswersOf tuples) (sym c.as_slice.ensures.value) c.requires.of.1))
    ∙ length_flags (λ tuple. mark (asks c.args.condition.now tuple)) tuples
    ∙ sym c.requires.long
    ∙ sym (ap length c.as_mut_slice.ensures.value)
