use Rattle.std.proofs.Common.{◌≤◌, List, length, map, arith}
use Rattle.std.proofs.lemmas.List.{length-map}
use Rattle.sn_base.specs.Groups.{Row, columns_at}
use Rattle.sn_cost_seats.specs.Tallies.{marked}
use Rattle.sn_ops.specs.Flow.{grouping_of}
use Rattle.sn_windows.specs.Blocks.{most_records}
use Rattle.sn_cost_counts.proofs.Settling.{apart_keys}
use Rattle.sn_cost_counts.proofs.Sharing.{few_each, reduce_shared}
use Rattle.sn_cost_counts.proofs.again.reduce_marked.Goals as goal

pub homes_of-requires-clause-apart : goal.homes_of-requires-clause-apart
homes_of-requires-clause-apart g c = apart_keys (map (columns_at c.args.r.now.keys) (marked c.args.marks.now c.args.rows.now)) c.in_ok-groups.groups.tally.keys c.in_ok-groups.ensures.keys

pub homes_of-requires-clause-few : goal.homes_of-requires-clause-few
homes_of-requires-clause-few g c =
    let rows : List Row = marked c.args.marks.now c.args.rows.now in
    let all : List Row = map (columns_at c.args.r.now.keys) rows in
    let tally = c.in_ok-groups.groups.tally in
    let few : length all ≤ most_records = omega (arith, c.requires.few, length-map rows (columns_at c.args.r.now.keys)) in
    few_each c.args.depth c.args.slots.now all tally.keys tally.times.items few c.in_ok-groups.ensures.keys c.in_ok-groups.ensures.times

pub returns : goal.returns
returns g c =
    let groups = c.in_ok-groups.groups in
    reduce_shared c.args.depth (grouping_of c.args.r.now) (marked c.args.marks.now c.args.rows.now) groups.tally.keys groups.tally.times.items groups.rows c.in_ok-groups.ensures.keys c.in_ok-groups.ensures.times c.in_ok-groups.ensures.rows
    c.args.slots.now c.in_ok-homes.homes.items c.in_ok-homes.ensures
