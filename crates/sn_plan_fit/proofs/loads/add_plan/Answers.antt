use Rattle.std.proofs.Common.{rules, ◌≡◌, [], ◌∷◌}
use Rattle.std.proofs.lemmas.List.{nil_from_length}
use Rattle.sn_plan_fit.proofs.LoadLaws.{entry_more, queries_end, entries_end}
use Rattle.sn_plan_fit.proofs.loads.add_plan.Goals as goal

pub returns-in_default : goal.returns-in_default
returns-in_default c =
    let none : c.loop-query.rest.now ≡ [] = nil_from_length c.loop-query.rest.now c.in_default.ensures.cases in
    entries_end c.args.depth _ c.loop-query.rest.now none c.loop-query.invariant

pub loop-query-preserved : goal.loop-query-preserved
loop-query-preserved c =
    let parts : c.loop-query.rest.now ≡ c.in-Some.entry.now ∷ c.in-Some.after.now = search rules in
    entry_more c.args.depth c.args.queries.now c.loop-query.query-index c.query-item.result c.loop-query.rest.now c.in-Some.entry.now c.in-Some.after.now
    c.loop-query-test.true c.query-item.is parts c.loop-query.invariant (let e = c.add_entry.ensures in rw c.as_slice.ensures at e)

pub returns : goal.returns
returns c = queries_end c.args.depth c.args.queries.now c.loop-query.query-index c.loop-query.rest.now c.loop-query-test.false c.loop-query.invariant
