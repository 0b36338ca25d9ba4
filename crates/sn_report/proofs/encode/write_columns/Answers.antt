use Rattle.std.proofs.Common.{◌<◌, ◌^◌, below_more, ap, ◌∙◌, subst, arith}
use Rattle.std.specs.Int.{w128, to_be_bytes}
use Rattle.sn_report.proofs.Columns.{all_below, column_written}
use Rattle.sn_report.proofs.encode.write_columns.Goals as goal

pub loop-place-preserved : goal.loop-place-preserved
loop-place-preserved g c =
    let columns = g.R.Columns.columns c.args.row.now in
    let there = c.whole-column.ensures.value ∙ c.column.ensures in
    let fits = c.whole-column.type_inv in
    record {
      below = below_more _ _ c.loop-place.invariant.below (subst (λ n. n < 2 ^ 128) there fits);
      written = column_written c.args.into.now c.loop-place.into c.copy_from_slice.new.self columns c.loop-place.place _
          c.loop-place.invariant.written (omega (arith, c.fits-into)) (omega (arith, c.len-place-end.ensures.value, c.len-place-end.ensures.most))
          (omega (arith, c.len-place-end.ensures.value, c.loop-place-test.true)) (omega arith)
          (c.copy_from_slice.ensures.after ∙ c.to_be_bytes.ensures ∙ ap (to_be_bytes w128) there);
    }

pub returns-clause-columns : goal.returns-clause-columns
returns-clause-columns g c = (
  omega (arith, c.len-place-end.ensures.value, c.len-place-end.ensures.most),
  all_below (g.R.Columns.columns c.args.row.now) (λ k lt. c.loop-place.invariant.below k (omega (arith, lt, c.loop-place-test.false, c.len-place-end.ensures.value))),
)
