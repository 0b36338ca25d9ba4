-- serves proofs
-- The state of a net, as it is spoken of.
use Rattle.std.specs.Prelude.{ℕ, List, [], ◌∷◌, map, is_some, Option, None, Some}
use Rattle.sn_core.specs.Nets.{Lane, Net}
use Rattle.sn_core.specs.Workings.{Workings}
use Rattle.sn_core.specs.declared.supply.Supply.{Supply}
use Rattle.sn_core.specs.declared.supply.Window.{Window}
use Rattle.sn_engine_lockstep.specs.declared.source.Source.{Source}
use Rattle.sn_engine.specs.Intakes.{emptied}
use Rattle.sn_engine.specs.declared.intake.Intake.{Intake}
use Rattle.sn_core_net.specs.PlanWorkings.{workings_of}
use Rattle.sn_core_net.specs.Settled.{settled}
use Rattle.sn_pipe.specs.Pipes.{PipeState}
use Rattle.sn_refine.specs.Steps.{Set}
use Rattle.sn_report.specs.Items.{Item}
use Rattle.sn_types.specs.declared.answers.Answers.{Answers}
use Rattle.sn_types.specs.declared.typed_query.TypedQuery.{TypedQuery}
use Rattle.sn_core_net.specs.Reports.{frame_of}
use Rattle.sn_core_net.specs.declared.holder.Holder.{Holder}

abbrev pub State : Type 0
State = Net PipeState (List ℕ) Item Set Answers

abbrev pub Works : Type 0
Works = Workings PipeState (List ℕ) Item Set Answers

-- what a net is made over: the pipes of a switch, these lanes of an engine as they are when nothing has come, and the sources of
-- their prefixes
abbrev pub works_of : List TypedQuery → List Intake → List Source → Works
works_of queries intakes sources = workings_of queries (map emptied intakes) sources

-- a lane of the switch, beside what the engine has of it
abbrev pub lane_of : Holder → Intake → Lane PipeState Item
lane_of h x = record { pipe = settled h.sender.pipe; ended = h.sender.ended; ring = map frame_of h.ring.items; taken = x.items; closed = is_some x.end }

abbrev pub lanes_of : List Holder → List Intake → List (Lane PipeState Item)
lanes_of [] xs = []
lanes_of (h ∷ hs) [] = []
lanes_of (h ∷ hs) (x ∷ xs) = lane_of h x ∷ lanes_of hs xs

-- what an engine keeps of its last close: the number of that window, and by lane the prefixes of its answers
abbrev pub last_of : Option ℕ → List Set → Option (ℕ × List Set)
last_of None sets = None
last_of (Some closed) sets = Some (closed, sets)

abbrev pub state_of : ℕ → Option (Supply (List ℕ)) → Window → List Holder → List Intake → List Set → Option (ℕ × List Set) → Option Answers → State
state_of room held window hs xs installs last waiting =
    record { room = room; held = held; window = window; lanes = lanes_of hs xs; installs = installs; last = last; waiting = waiting }
