use Rattle.std.proofs.Common.{ℕ, ◌<◌}
use Rattle.sn_cost.specs.Adding.{Adds, AreSmall, kept_counts, of_branches, with_fee}
use Rattle.sn_types.specs.Typed.{query_at}
use Rattle.sn_cost.proofs.branches.add_branches.Given as goal

abbrev pub invariant-loop-b : goal.invariant-loop-b
invariant-loop-b l = record {
  small : (b : ℕ) → b < l.b → AreSmall (kept_counts l.s (query_at l.t.queries l.q) l.level l.kept l.tuples b);
  adds : Adds l.fn.table l.table (of_branches l.q l.prefix l.b (λ b. with_fee l.fee (kept_counts l.s (query_at l.t.queries l.q) l.level l.kept l.tuples b)));
}
