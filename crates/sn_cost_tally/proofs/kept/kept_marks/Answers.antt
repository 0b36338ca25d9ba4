use Rattle.std.proofs.Common.{◌<◌, length, get_or, false, ap, ◌∙◌, arith}
use Rattle.std.proofs.lemmas.Option.{slice_get-get_or}
use Rattle.sn_cost_tally.proofs.Keeping.{all_kept, none_kept, one_kept}
use Rattle.sn_cost_tally.proofs.kept.kept_marks.Goals as goal
use Rattle.sn_cost_tally.proofs.kept.kept_marks.Goals.{then-stay-place+in_ok-push, else-stay-place}

pub loop-place-preserved : goal.loop-place-preserved
loop-place-preserved c =
    let stay = c.args.stay.now in
    let marks = c.args.marks.now in
    let i = c.loop-place.place in
    let lt : i < length stay = omega (arith, c.loop-place-test.true, c.min-place-end.ensures) in
    let within : i < length marks = omega (arith, c.loop-place-test.true, c.min-place-end.ensures) in
    elim c.if-stay-place.branch [
      | then-stay-place+in_ok-push w ↦ one_kept stay marks i (get_or marks i false) c.loop-place.out.items c.if-stay-place.out.items lt w.if-stay-place.true (slice_get-get_or marks i false within) (ap (λ v. v.items) w.out-is ∙ w.in_ok-push.ensures.items) c.loop-place.invariant
      | else-stay-place w ↦ none_kept stay marks i c.loop-place.out.items c.if-stay-place.out.items lt within w.if-stay-place.false (ap (λ v. v.items) w.out-is) c.loop-place.invariant
    ]

pub returns : goal.returns
returns c = all_kept c.args.stay.now c.args.marks.now c.loop-place.place c.loop-place.out.items (omega (arith, c.loop-place-test.false, c.min-place-end.ensures)) c.loop-place.invariant
