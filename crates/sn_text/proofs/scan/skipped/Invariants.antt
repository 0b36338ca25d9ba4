use Rattle.std.proofs.Common.{◌≡◌, length}
use Rattle.sn_text.specs.Cutting.{skip, skip_from}
use Rattle.sn_text.specs.Lexing.{place}
use Rattle.sn_text.proofs.scan.skipped.Given as goal

abbrev pub invariant-loop-at : goal.invariant-loop-at
invariant-loop-at l = skip_from l.at.rest.now l.inside (place l.at) ≡ skip (place l.fn.from)

abbrev pub decreases-loop-at : goal.decreases-loop-at
decreases-loop-at l = length l.at.rest.now
