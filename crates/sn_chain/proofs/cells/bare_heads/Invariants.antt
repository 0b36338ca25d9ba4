use Rattle.std.proofs.Common.{◌≡◌, replicate}
use Rattle.sn_chain.specs.Stored.{bare_head}
use Rattle.sn_chain.proofs.cells.bare_heads.Given as goal

abbrev pub invariant-loop-place : goal.invariant-loop-place
invariant-loop-place l = l.heads.items ≡ replicate l._place (bare_head l.value)
