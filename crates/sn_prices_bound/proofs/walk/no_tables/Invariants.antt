use Rattle.std.proofs.Common.{◌≡◌, ℕ, ◌<◌, [], length}
use Rattle.std.specs.Prelude.{slice_index}
use Rattle.sn_prices_bound.specs.Walks.{known_stages}
use Rattle.sn_prices_bound.proofs.walk.no_tables.Given as goal

abbrev pub invariant-loop-stage : goal.invariant-loop-stage
invariant-loop-stage l = record { count : length l.walk ≡ 33; each : (k : ℕ) → k < l.stage → slice_index l.walk k ≡ known_stages l.s l.p k [] }
