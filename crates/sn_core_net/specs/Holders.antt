-- serves proofs
-- What happens to the lanes of the switch.
use Rattle.std.specs.Prelude.{ℕ, List, [], ◌∷◌, drop, Option, None, Some}
use Rattle.std.specs.FinSet as set
use Rattle.std.specs.Option.{option_map}
use Rattle.std.specs.Ordering.{nat_cmp}
use Rattle.circular_buffer.specs.Buffer.{buffer}
use Rattle.sn_emit.specs.declared.sender.Sender.{Sender}
use Rattle.sn_emit.specs.Senders.{row_frame, sender_next, sender_start}
use Rattle.sn_engine.specs.Intakes.{after_frame}
use Rattle.sn_engine.specs.declared.intake.Intake.{Intake}
use Rattle.sn_pipe.specs.Pipes.{item_of}
use Rattle.sn_report.specs.Items.{Frame}
use Rattle.sn_core_net.specs.Rings.{appended}
use Rattle.sn_core_net.specs.declared.holder.Holder.{Holder}

-- a lane with an empty ring of this capacity
abbrev pub with_ring : ℕ → Sender → Holder
with_ring room s = record { sender = s; ring = buffer [] room }

-- a lane that took a tuple
abbrev pub took : List ℕ → Holder → Holder
took tuple h = record h { sender = sender_next h.sender tuple; ring = appended h.ring (option_map (row_frame h.sender.lane) (item_of h.sender.pipe tuple)) }

abbrev pub all_took : List ℕ → List Holder → List Holder
all_took tuple [] = []
all_took tuple (h ∷ hs) = took tuple h ∷ all_took tuple hs

-- a lane that began a window with these prefixes
abbrev pub begun : set.FinSet nat_cmp → Holder → Holder
begun kept h = record h { sender = sender_start h.sender kept }

-- each with its prefixes, and with none where there are none for it
abbrev pub all_begun : List Holder → List (set.FinSet nat_cmp) → List Holder
all_begun [] kepts = []
all_begun (h ∷ hs) [] = begun set.empty h ∷ all_begun hs []
all_begun (h ∷ hs) (kept ∷ kepts) = begun kept h ∷ all_begun hs kepts

-- the engine's lanes after a frame, if there is one
abbrev pub after_frame_of : List Intake → Option Frame → List Intake
after_frame_of xs None = xs
after_frame_of xs (Some frame) = after_frame xs frame

-- a lane whose first frame is gone
abbrev pub without_first : Holder → Holder
without_first h = record h { ring = buffer (drop 1 h.ring.items) h.ring.capacity }
