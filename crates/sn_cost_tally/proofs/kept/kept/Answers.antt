use Rattle.std.proofs.Common.{◌<◌, length, ◌∙◌, arith}
use Rattle.sn_base.specs.Groups.{Row}
use Rattle.sn_cost_tally.proofs.Keeping.{all_kept, none_kept, one_kept}
use Rattle.sn_cost_tally.proofs.kept.kept.Goals as goal
use Rattle.sn_cost_tally.proofs.kept.kept.Goals.{then-marks-place+in_ok-push, else-marks-place}

pub loop-place-preserved : goal.loop-place-preserved
loop-place-preserved g c =
    let marks = c.args.marks.now in
    let rows = c.args.rows.now in
    let i = c.loop-place.place in
    let lt : i < length marks = omega (arith, c.loop-place-test.true, c.min-place-end.ensures) in
    let within : i < length rows = omega (arith, c.loop-place-test.true, c.min-place-end.ensures, c.len-2.ensures) in
    elim c.if-marks-place.branch [
      | then-marks-place+in_ok-push w ↦
          (let row : Row = g.R.Columns.columns w.at.result.now in
          one_kept marks rows i row c.loop-place.out c.if-marks-place.out lt w.if-marks-place.true w.at.ensures (w.out-is ∙ w.in_ok-push.ensures.ok) c.loop-place.invariant)
      | else-marks-place w ↦ none_kept marks rows i c.loop-place.out c.if-marks-place.out lt within w.if-marks-place.false w.out-is c.loop-place.invariant
    ]

pub returns : goal.returns
returns g c = all_kept c.args.marks.now c.args.rows.now c.loop-place.place c.loop-place.out (omega (arith, c.loop-place-test.false, c.min-place-end.ensures, c.len-2.ensures)) c.loop-place.invariant
