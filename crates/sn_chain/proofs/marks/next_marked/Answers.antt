use Rattle.std.proofs.Common.{◌/◌, ◌^◌, ◌<◌, get_or, arith}
use Rattle.std.proofs.lemmas.Nat.{shr_le}
use Rattle.sn_chain.proofs.MarkLemmas.{bit_within, first_in_word, none_in_word}
use Rattle.sn_chain.proofs.marks.next_marked.Goals as goal

pub returns-then-marks-ne0-clause-next : goal.returns-then-marks-ne0-clause-next
returns-then-marks-ne0-clause-next c =
    let words = c.args.words.now in
    let at = c.loop-at.at in
    let bit = c.loop-at.bit in
    let i = c.loop-at.invariant in
    let word : get_or words at 0 < 2 ^ 64 = omega (arith, c.type_inv.words at) in
    let left : get_or words at 0 / 2 ^ bit < 2 ^ 64 = omega (arith, word, shr_le (get_or words at 0) bit) in
    first_in_word words c.args.from at bit i.low i.small i.before word left (omega (arith, c.if-marks-ne0.true))

pub returns-then-marks-ne0-clause-within : goal.returns-then-marks-ne0-clause-within
returns-then-marks-ne0-clause-within c =
    let words = c.args.words.now in
    let at = c.loop-at.at in
    let bit = c.loop-at.bit in
    let i = c.loop-at.invariant in
    let word : get_or words at 0 < 2 ^ 64 = omega (arith, c.type_inv.words at) in
    let left : get_or words at 0 / 2 ^ bit < 2 ^ 64 = omega (arith, word, shr_le (get_or words at 0) bit) in
    let within = bit_within words c.args.from at bit i.low i.small i.before word left (omega (arith, c.if-marks-ne0.true)) in
    omega (arith, within, c.loop-at-test.true)

pub loop-at-preserved : goal.loop-at-preserved
loop-at-preserved c =
    let i = c.loop-at.invariant in
    record {
      low = omega (arith, i.low, i.small);
      small = omega arith;
      before = none_in_word c.args.words.now c.args.from c.loop-at.at c.loop-at.bit i.low i.small i.before c.if-marks-ne0.false;
    }
