use Rattle.std.proofs.Common.{◌++◌, length, refl}
use Rattle.sn_plan_choices.specs.Costs.{entry_in}
use Rattle.sn_types.specs.Typed.{query_at}
use Rattle.sonata_entries.specs.Table.{branches_text, options_text}
use Rattle.sonata_entries.proofs.TextLemmas.{part_written}
use Rattle.sonata_entries.proofs.table.push_branches.Goals as goal

pub loop-b-preserved : goal.loop-b-preserved
loop-b-preserved c =
    let a = c.args in
    let s = a.s.now in
    let queries = a.t.now.queries in
    let entry = entry_in a.table.now in
    part_written (options_text s entry queries a.q a.front) (a.text.now.items ++ branches_text s entry queries a.q a.front) c.loop-b.text.items c.push_options.new.text.items
    (options_text s entry queries a.q a.front c.loop-b.b) c.loop-b.b (length (query_at queries a.q).branches) c.branches-b-end.result c.loop-b-test.true c.branches-b-end.ensures c.loop-b.invariant
    c.in_ok-push_options.ensures refl
