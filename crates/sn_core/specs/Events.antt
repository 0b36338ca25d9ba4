-- to be believed
-- What each event, and each other call, does to a net.
use Rattle.std.specs.Prelude.{ℕ, zero, suc, List, [], ◌∷◌, ◌++◌, map, true, false, nat_eq, Option, None, Some, if◌then◌else◌}
use Rattle.sn_core.specs.declared.event.Event.{Event}
use Rattle.sn_core.specs.declared.event.Event.TheVariants.{Packet, ReadOut, Deliver, CloseWindow, Install}
use Rattle.sn_core.specs.Nets.{Lane, Net}
use Rattle.sn_core.specs.declared.supply.Supply.{Supply}
use Rattle.sn_core.specs.declared.supply.Frame.{Frame}
use Rattle.sn_core.specs.declared.supply.Window.{Window}
use Rattle.sn_core.specs.declared.supply.Supply.TheVariants.{Numbered, End}
use Rattle.sn_core.specs.declared.supply.Frame.TheVariants.{Row, Last}
use Rattle.sn_core.specs.declared.supply.Window.TheVariants.{Idle, Begun, Closed}
use Rattle.sn_core.specs.Workings.{Workings}

-- the element of this number is changed
abbrev pub change_at : {X : Type 0} → (X → X) → List X → ℕ → List X
change_at change [] number = []
change_at change (x ∷ xs) zero = change x ∷ xs
change_at change (x ∷ xs) (suc number) = x ∷ change_at change xs number

-- ---- a lane

abbrev pub row_frames : {Item : Type 0} → Option Item → List (Frame Item)
row_frames None = []
row_frames (Some item) = Row item ∷ []

module _ {Pipe Item : Type 0} where
  -- the first frame of a lane moves to the engine
  abbrev pub delivered_of : Lane Pipe Item → List (Frame Item) → Lane Pipe Item
  delivered_of lane [] = lane
  delivered_of lane (Row item ∷ frames) = record lane { ring = frames; taken = lane.taken ++ item ∷ [] }
  delivered_of lane (Last ∷ frames) = record lane { ring = frames; closed = true }

  abbrev pub delivered : Lane Pipe Item → Lane Pipe Item
  delivered lane = delivered_of lane lane.ring

  -- the engine has nothing of a lane
  abbrev pub emptied : Lane Pipe Item → Lane Pipe Item
  emptied lane = record lane { taken = []; closed = false }

module _ {Pipe Tuple Item Kept Answers : Type 0} (w : Workings Pipe Tuple Item Kept Answers) where
  -- a lane takes a tuple, and appends the frame of the item that it gives, if there is one
  abbrev pub with_tuple : Tuple → Lane Pipe Item → Lane Pipe Item
  with_tuple tuple lane = record lane { pipe = w.after lane.pipe tuple; ring = lane.ring ++ row_frames (w.item_of lane.pipe tuple) }

  -- a lane appends its next row, or after the last row its End
  abbrev pub with_next_of : Lane Pipe Item → List Item → Lane Pipe Item
  with_next_of lane [] = record lane { ended = true; ring = lane.ring ++ Last ∷ [] }
  with_next_of lane (item ∷ items) = record lane { pipe = w.read lane.pipe; ring = lane.ring ++ Row item ∷ [] }

  abbrev pub with_next : Lane Pipe Item → Lane Pipe Item
  with_next lane = with_next_of lane (w.left lane.pipe)

  abbrev pub with_start : Kept → Lane Pipe Item → Lane Pipe Item
  with_start kept lane = record lane { pipe = w.start lane.pipe kept; ended = false }

  -- the lanes at the start of a window, each with its prefixes, and with none where there is none for it
  abbrev pub all_started : List (Lane Pipe Item) → List Kept → List (Lane Pipe Item)
  all_started [] sets = []
  all_started (lane ∷ lanes) [] = with_start w.nothing lane ∷ all_started lanes []
  all_started (lane ∷ lanes) (kept ∷ sets) = with_start kept lane ∷ all_started lanes sets

-- ---- events

-- the prefixes of a window serve the window of the next number alone
abbrev pub kept_for : {Kept : Type 0} → ℕ → List Kept → ℕ → List Kept
kept_for closed sets number = if nat_eq number (suc closed) then sets else []

-- the prefixes for a window, from the number and the prefixes of the window before, if there was one
abbrev pub kept_from : {Kept : Type 0} → Option (ℕ × List Kept) → ℕ → List Kept
kept_from None number = []
kept_from (Some before) number = kept_for before.0 before.1 number

-- the prefixes to install for what is held, and the window that it begins
abbrev pub kept_for_held : {Tuple Kept : Type 0} → ℕ → List Kept → Option (Supply Tuple) → List Kept
kept_for_held closed sets None = []
kept_for_held closed sets (Some End) = []
kept_for_held closed sets (Some (Numbered number tuple)) = kept_for closed sets number

abbrev pub window_of_held : {Tuple : Type 0} → Option (Supply Tuple) → Window
window_of_held None = Idle
window_of_held (Some End) = Idle
window_of_held (Some (Numbered number tuple)) = Begun number

module _ {Pipe Tuple Item Kept Answers : Type 0} (w : Workings Pipe Tuple Item Kept Answers) where
  abbrev pub after_packet : Net Pipe Tuple Item Kept Answers → Option (Supply Tuple) → Net Pipe Tuple Item Kept Answers
  after_packet net None = net
  after_packet net (Some End) = net
  after_packet net (Some (Numbered number tuple)) = record net { held = None; lanes = map (with_tuple w tuple) net.lanes }

  abbrev pub closes_with : Net Pipe Tuple Item Kept Answers → ℕ → Answers → Net Pipe Tuple Item Kept Answers
  closes_with net number answers =
      let sets = w.kept_of answers in
      record net { window = Closed number; lanes = map emptied net.lanes; installs = sets; last = Some (number, sets); waiting = Some answers }

  abbrev pub after_close : Net Pipe Tuple Item Kept Answers → Window → Net Pipe Tuple Item Kept Answers
  after_close net Idle = net
  after_close net (Begun number) = closes_with net number (w.answers (kept_from net.last number) number (map (λ lane. lane.taken) net.lanes))
  after_close net (Closed number) = net

  abbrev pub after_install : Net Pipe Tuple Item Kept Answers → Window → Net Pipe Tuple Item Kept Answers
  after_install net Idle = net
  after_install net (Begun number) = net
  after_install net (Closed number) =
      record net { window = window_of_held net.held; lanes = all_started w net.lanes (kept_for_held number net.installs net.held); installs = [] }

  abbrev pub after_event : Net Pipe Tuple Item Kept Answers → Event → Net Pipe Tuple Item Kept Answers
  after_event net Packet = after_packet net net.held
  after_event net (ReadOut lane) = record net { lanes = change_at (with_next w) net.lanes lane }
  after_event net (Deliver lane) = record net { lanes = change_at delivered net.lanes lane }
  after_event net CloseWindow = after_close net net.window
  after_event net Install = after_install net net.window

-- ---- the other calls

-- the first tuple begins its window
abbrev pub window_from : {Tuple : Type 0} → Window → Supply Tuple → Window
window_from Idle (Numbered number tuple) = Begun number
window_from Idle End = Idle
window_from (Begun number) supply = Begun number
window_from (Closed number) supply = Closed number

module _ {Pipe Tuple Item Kept Answers : Type 0} where
  abbrev pub given : Net Pipe Tuple Item Kept Answers → Supply Tuple → Net Pipe Tuple Item Kept Answers
  given net supply = record net { held = Some supply; window = window_from net.window supply }

  abbrev pub without_answers : Net Pipe Tuple Item Kept Answers → Net Pipe Tuple Item Kept Answers
  without_answers net = record net { waiting = None }
