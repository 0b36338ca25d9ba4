use Rattle.std.proofs.Common.{ℕ, List}
use Rattle.sn_base.specs.Groups.{Row}
use Rattle.sn_cost_counts.specs.Coming.{HaveCome}
use Rattle.sn_cost_counts.proofs.Arrivals.{AtPlace}
use Rattle.sn_cost_counts.proofs.coming.Reached.add_counts.Given as goal

abbrev pub invariant-loop-place : goal.invariant-loop-place
invariant-loop-place l = (level : ℕ) (rows out : List Row) → HaveCome level l.ops rows l.self.seen l.self.passed out → AtPlace level l.ops rows l.fn.counts l.place l.left l.counts
