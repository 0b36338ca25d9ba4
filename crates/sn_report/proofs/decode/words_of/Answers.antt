use Rattle.std.proofs.Common.{rules, ◌∙◌}
use Rattle.sn_report.proofs.Columns.{next_word, one_longer}
use Rattle.sn_report.proofs.decode.words_of.Goals as goal

pub loop-place-preserved : goal.loop-place-preserved
loop-place-preserved c = record {
  long = one_longer c.loop-place.row c.in-Some.longer _ c.loop-place.place c.in-Some.ensures.some c.loop-place.invariant.long;
  rest = next_word c.loop-place.row c.in-Some.longer c.args.bytes.now c.args.count c.loop-place.place c.loop-place-test.true (search rules) ∙ c.loop-place.invariant.rest;
}
