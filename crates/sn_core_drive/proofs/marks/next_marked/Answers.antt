use Rattle.std.proofs.Common.{◌<◌, ◌/◌, ◌^◌, arith}
use Rattle.std.proofs.lemmas.Nat.{shr_le, trailing_le}
use Rattle.sn_core_drive.proofs.BitLemmas.{from_within, next_is, next_same, next_within}
use Rattle.sn_core_drive.proofs.marks.next_marked.Goals as goal

pub overflow_shr-left : goal.overflow_shr-left
overflow_shr-left c = from_within c.args.word c.args.from c.requires

pub overflow_add-result : goal.overflow_add-result
overflow_add-result c = omega (arith, from_within c.args.word c.args.from c.requires, trailing_le 64 (c.args.word / 2 ^ c.args.from))

pub returns-clause-within : goal.returns-clause-within
returns-clause-within c =
    let whole : c.args.word < 2 ^ 64 = c.ranges.word.fits in
    let left : c.args.word / 2 ^ c.args.from < 2 ^ 64 = omega (arith, whole, shr_le c.args.word c.args.from) in
    next_within c.args.word c.args.from c.requires whole left

pub returns-clause-marked : goal.returns-clause-marked
returns-clause-marked c =
    let whole : c.args.word < 2 ^ 64 = c.ranges.word.fits in
    let left : c.args.word / 2 ^ c.args.from < 2 ^ 64 = omega (arith, whole, shr_le c.args.word c.args.from) in
    next_is c.args.word c.args.from c.requires whole left

pub returns-clause-same : goal.returns-clause-same
returns-clause-same c =
    let whole : c.args.word < 2 ^ 64 = c.ranges.word.fits in
    let left : c.args.word / 2 ^ c.args.from < 2 ^ 64 = omega (arith, whole, shr_le c.args.word c.args.from) in
    next_same c.args.word c.args.from c.requires whole left
