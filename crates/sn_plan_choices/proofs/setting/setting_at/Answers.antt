use Rattle.std.proofs.Common.{length, arith}
use Rattle.sn_plan_choices.proofs.OptionLists.{single_sizes, many_sizes, place_small, written_one, written_two}
use Rattle.sn_plan_choices.proofs.setting.setting_at.Goals as goal

pub bounds-sizes-n : goal.bounds-sizes-n
bounds-sizes-n c = let e = single_sizes c.args.sizes.now c.args.count c.if-count-eq1.true in omega arith

pub bounds-sizes-n-else-count-eq1 : goal.bounds-sizes-n-else-count-eq1
bounds-sizes-n-else-count-eq1 c =
    let e = many_sizes c.args.sizes.now c.args.count c.requires.count c.if-count-eq0.false c.if-count-eq1.false in
    place_small (length c.args.sizes.now) c.args.n (omega arith)

pub returns-then-count-eq1-clause-value : goal.returns-then-count-eq1-clause-value
returns-then-count-eq1-clause-value c = written_one c.args.sizes.now c.args.cut c.args.count c.args.n c.if-count-eq1.true c.requires.n

pub returns-else-count-eq1-clause-value : goal.returns-else-count-eq1-clause-value
returns-else-count-eq1-clause-value c = written_two c.args.sizes.now c.args.cut c.args.count c.args.n c.requires.count c.if-count-eq0.false c.if-count-eq1.false c.requires.n
