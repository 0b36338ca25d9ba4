-- serves proofs
-- What is found of the events that may happen.
use Rattle.std.specs.Prelude.{◌≡◌, ◌==◌, ◌<◌, ◌^◌, ◌-◌, ℕ, List, [], ◌∷◌, ◌++◌, filter, map, Bool, if◌then◌else◌}
use Rattle.std.specs.Int.{bit_at}
use Rattle.std.specs.List.{range_with_len}
use Rattle.sn_core.specs.declared.event.Event.{Event}
use Rattle.sn_core.specs.declared.event.Event.TheVariants.{Packet, ReadOut, Deliver, CloseWindow, Install}
use Rattle.sn_core_net.specs.States.{State}
use Rattle.sn_core_net.specs.Marks.{bit_of}
use Rattle.sn_core_drive.specs.Schedules.{may_happen}
use Rattle.sn_core_drive.specs.declared.picking.Enabled.{Enabled}

-- the places of a word from this one on whose bit is 1
unfoldable pub marked_from : ℕ → ℕ → List ℕ
marked_from word from = filter (λ place. bit_at word place == 1) (range_with_len from (64 - from))

-- all of them
abbrev pub marked : ℕ → List ℕ
marked word = marked_from word 0

-- an event that may happen or not
abbrev pub only_if : Bool → Event → List Event
only_if may event = if may then event ∷ [] else []

-- the events that were found, in their order
abbrev pub lasts_found : Enabled → List Event
lasts_found x = only_if x.close CloseWindow ++ only_if x.install Install

abbrev pub deliveries_found : Enabled → List Event
deliveries_found x = map Deliver (marked x.deliveries) ++ lasts_found x

abbrev pub lanes_found : Enabled → List Event
lanes_found x = map ReadOut (marked x.read_outs) ++ deliveries_found x

abbrev pub events_found : Enabled → List Event
events_found x = only_if x.packet Packet ++ lanes_found x

-- what may happen in a state was found
pub record AreFound (s : State) (x : Enabled) : Type 0 where
  pub packet : x.packet ≡ may_happen s Packet
  pub read_outs : (lane : ℕ) → bit_at x.read_outs lane ≡ bit_of (may_happen s (ReadOut lane))
  pub few_read_outs : x.read_outs < 2 ^ 64
  pub deliveries : (lane : ℕ) → bit_at x.deliveries lane ≡ bit_of (may_happen s (Deliver lane))
  pub few_deliveries : x.deliveries < 2 ^ 64
  pub close : x.close ≡ may_happen s CloseWindow
  pub install : x.install ≡ may_happen s Install
