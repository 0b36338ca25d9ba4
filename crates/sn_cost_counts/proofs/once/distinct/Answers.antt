use Rattle.std.specs.Option.{option_copied}
use Rattle.sn_cost_tally.specs.Weighed.{weighed}
use Rattle.sn_cost_counts.proofs.Settling.{apart_keys}
use Rattle.sn_cost_counts.proofs.Sharing.{distinct_shared, few_each}
use Rattle.sn_cost_counts.proofs.once.distinct.Goals as goal

pub homes_of-requires-clause-apart : goal.homes_of-requires-clause-apart
homes_of-requires-clause-apart g c = apart_keys (weighed c.args.rows.now (option_copied c.args.weights)) c.in_ok-tally.tally.keys c.in_ok-tally.ensures.keys

pub homes_of-requires-clause-few : goal.homes_of-requires-clause-few
homes_of-requires-clause-few g c =
    let tally = c.in_ok-tally.tally in
    few_each c.args.depth c.args.slots.now (weighed c.args.rows.now (option_copied c.args.weights)) tally.keys tally.times.items c.requires.few c.in_ok-tally.ensures.keys c.in_ok-tally.ensures.times

pub returns-clause-flows : goal.returns-clause-flows
returns-clause-flows g c =
    let tally = c.in_ok-tally.tally in
    distinct_shared c.args.depth (weighed c.args.rows.now (option_copied c.args.weights)) tally.keys tally.times.items c.in_ok-tally.ensures.keys c.in_ok-tally.ensures.times c.args.slots.now c.in_ok-homes.homes.items c.in_ok-homes.ensures
