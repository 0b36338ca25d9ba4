-- serves proofs
-- All lanes of a plan.
use Rattle.std.specs.Prelude.{ℕ, ◌≤◌, List, map, length, sum}
use Rattle.std.specs.List.{AllByRecursion}
use Rattle.sn_emit.specs.Making.{InRange}
use Rattle.sn_emit.specs.declared.sender.Sender.{Sender}
use Rattle.sn_plan_fit.specs.Capped.{capped}

-- the sum of what the lanes gave, or the greatest number of 64 bits where the sum is above it
abbrev pub emitted_by : List Sender → ℕ
emitted_by lanes = capped (sum (map (λ s. s.given) lanes))

-- at most 64 lanes, each with numbers in range
abbrev pub AreFew : List Sender → Type 0
AreFew lanes = (length lanes ≤ 64) × AllByRecursion (λ s. InRange s.lane) lanes
