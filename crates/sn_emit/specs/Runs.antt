-- serves proofs
-- A lane over a whole window.
use Rattle.std.specs.Prelude.{◌≡◌, ℕ, List, [], ◌∷◌, drop, slice_get, Option, None, Some}
use Rattle.sn_report.specs.Items.{Frame}
use Rattle.sn_pipe.specs.Prefixes.{left_in}
use Rattle.sn_emit.specs.declared.sender.Sender.{Sender}
use Rattle.sn_emit.specs.Senders.{counted, frames_left}

-- one call of a lane's read-out gives the first frame that is left, if there is one, and leaves the others
pub record IsReadOut (window : ℕ) (s : Sender) (frame : Option Frame) (t : Sender) : Type 0 where
  pub first : frame ≡ slice_get (frames_left s window) 0
  pub others : frames_left t window ≡ drop 1 (frames_left s window)
  pub rows : left_in t.pipe.prefix ≡ drop 1 (left_in s.pipe.prefix)
  pub counts : t.given ≡ counted s.given (slice_get (left_in s.pipe.prefix) 0)

-- calls of a lane's read-out give these frames one after another, and then None
abbrev pub ReadsOut : ℕ → Sender → List Frame → Sender → Type 0
ReadsOut window s [] t = IsReadOut window s None t
ReadsOut window s (frame ∷ frames) t = (next : Sender) × IsReadOut window s (Some frame) next × ReadsOut window next frames t
