use Rattle.std.proofs.Common.{ℕ, ◌+◌, arith}
use Rattle.std.proofs.lemmas.List.{length-map}
use Rattle.sn_cost.specs.Adding.{with_fee}
use Rattle.sn_cost.proofs.Growing.{all_added, counts_below, fee_within, one_added, place_at}
use Rattle.sn_cost.proofs.adding.add_counts.Goals as goal

pub entry-requires : goal.entry-requires
entry-requires c =
    let a = c.args in
    place_at a.table.now c.loop-option.table a.q a.prefix a.b c.loop-option.option (counts_below a.q a.prefix a.b (with_fee a.fee a.counts.now) c.loop-option.option) (omega (arith, c.loop-option-test.true, c.requires.few)) c.requires.query c.requires.prefix c.requires.branch c.loop-option.invariant

pub set-requires-clause-place : goal.set-requires-clause-place
set-requires-clause-place c =
    let a = c.args in
    place_at a.table.now c.loop-option.table a.q a.prefix a.b c.loop-option.option (counts_below a.q a.prefix a.b (with_fee a.fee a.counts.now) c.loop-option.option) (omega (arith, c.loop-option-test.true, c.requires.few)) c.requires.query c.requires.prefix c.requires.branch c.loop-option.invariant

pub loop-option-preserved : goal.loop-option-preserved
loop-option-preserved c =
    let a = c.args in
    let i : ℕ = c.loop-option.option in
    let here = fee_within a.fee a.counts.now i (omega (arith, c.requires.options, c.loop-option-test.true)) in
    one_added a.table.now c.loop-option.table c.set.new.self a.q a.prefix a.b (with_fee a.fee a.counts.now) i c.loop-option.invariant
    (omega (arith, c.set.ensures.written, c.entry.ensures.value, here)) c.set.ensures.others c.set.ensures.places

pub returns : goal.returns
returns c =
    let a = c.args in
    let long = length-map a.counts.now (λ n. n + a.fee) in
    all_added a.table.now c.loop-option.table a.q a.prefix a.b (with_fee a.fee a.counts.now) c.loop-option.option (omega (arith, long, c.requires.options, c.loop-option-test.false)) c.loop-option.invariant
