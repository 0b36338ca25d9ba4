use Rattle.sn_types.specs.Typed.{query_at}
use Rattle.sn_cost.specs.Training.{AddsFronts}
use Rattle.sn_cost.proofs.Counting.{Answer}
use Rattle.sn_cost.proofs.window.add_window.Given as goal

abbrev pub invariant-loop-front : goal.invariant-loop-front
invariant-loop-front l = record {
  adds : AddsFronts l.s l.q (query_at l.t.queries l.q) l.front l.fn.fronts.last l.fn.fronts.sets l.w l.tuples l.fn.table l.table;
  answer : Answer l.s l.q (query_at l.t.queries l.q) l.fn.fronts.last l.fn.fronts.sets l.w l.tuples l.front l.sets;
}
