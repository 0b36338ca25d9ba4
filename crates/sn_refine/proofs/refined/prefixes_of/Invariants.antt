use Rattle.std.proofs.Common.{◌≡◌, map, take}
use Rattle.sn_types.specs.Typed.{query_at}
use Rattle.sn_refine.specs.Steps.{prefixes_of}
use Rattle.sn_refine.proofs.refined.prefixes_of.Given as goal

abbrev pub invariant-loop-part : goal.invariant-loop-part
invariant-loop-part l = l.sets ≡ map (λ part. prefixes_of (query_at l.t.queries l.q) part.rows) (take l.part-index l.parts)
