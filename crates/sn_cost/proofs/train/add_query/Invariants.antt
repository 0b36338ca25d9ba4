use Rattle.std.proofs.Common.{drop}
use Rattle.sn_types.specs.Typed.{query_at}
use Rattle.sn_cost.proofs.Trained.{TrainedTo}
use Rattle.sn_cost.proofs.train.add_query.Given as goal

abbrev pub invariant-loop-window : goal.invariant-loop-window
invariant-loop-window l = TrainedTo l.s l.q (query_at l.t.queries l.q) l.windows l.fn.table (drop l.window-index l.windows) l.fronts.last l.fronts.sets l.table
