use Rattle.sn_cost.specs.Adding.{Adds, with_fee}
use Rattle.sn_cost.proofs.Growing.{counts_below}
use Rattle.sn_cost.proofs.adding.add_counts.Given as goal

abbrev pub invariant-loop-option : goal.invariant-loop-option
invariant-loop-option l = Adds l.fn.table l.table (counts_below l.q l.prefix l.b (with_fee l.fee l.counts) l.option)
