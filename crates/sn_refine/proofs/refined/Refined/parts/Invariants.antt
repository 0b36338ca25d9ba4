use Rattle.std.proofs.Common.{◌≡◌, map}
use Rattle.std.specs.List.{range_with_len}
use Rattle.sn_types.specs.Typed.{query_at}
use Rattle.sn_refine.specs.Refined.{part_at}
use Rattle.sn_refine.specs.Steps.{kept_at, rows_at}
use Rattle.sn_refine.proofs.refined.Refined.parts.Given as goal

abbrev pub invariant-loop-place : goal.invariant-loop-place
invariant-loop-place l =
    l.parts ≡ map (part_at l.self.query l.self.path (rows_at (query_at l.t.queries l.self.query) l.self.path (kept_at l.self.last l.self.kept l.w) l.tuples)) (range_with_len 0 l.place)
