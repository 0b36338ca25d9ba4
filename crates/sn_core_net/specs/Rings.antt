-- serves proofs
-- What happens to the frames that a lane holds.
use Rattle.std.specs.Prelude.{[], ◌∷◌, ◌++◌, Option, None, Some}
use Rattle.circular_buffer.specs.Buffer.{Buffer, buffer, keep_last}
use Rattle.sn_report.specs.Items.{Frame}

-- a ring with one more frame, if there is one: a full one loses its first
abbrev pub appended : Buffer Frame → Option Frame → Buffer Frame
appended ring None = ring
appended ring (Some frame) = buffer (keep_last ring.capacity (ring.items ++ frame ∷ [])) ring.capacity
