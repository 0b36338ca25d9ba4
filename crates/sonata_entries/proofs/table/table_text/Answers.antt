use Rattle.std.proofs.Common.{length, refl}
use Rattle.sn_plan_choices.specs.Costs.{entry_in}
use Rattle.sonata_entries.specs.Table.{fronts_text, table_text}
use Rattle.sonata_entries.proofs.TextLemmas.{part_written}
use Rattle.sonata_entries.proofs.table.table_text.Goals as goal

pub loop-q-preserved : goal.loop-q-preserved
loop-q-preserved c =
    let s = c.args.s.now in
    let queries = c.args.t.now.queries in
    let entry = entry_in c.args.table.now in
    part_written (fronts_text s entry queries) (table_text s entry queries) c.loop-q.text.items c.push_fronts.new.text.items (fronts_text s entry queries c.loop-q.q) c.loop-q.q (length queries) c.queries-q-end.result
    c.loop-q-test.true c.queries-q-end.ensures c.loop-q.invariant c.in_ok-push_fronts.ensures refl
