-- serves proofs
-- The answers still to be taken. No schedule is named.
use Rattle.std.specs.Prelude.{ℕ, List, [], ◌∷◌, ◌++◌, map, false, nat_eq, Option, None, Some, if◌then◌else◌}
use Rattle.sn_core.specs.Nets.{Lane, Net}
use Rattle.sn_core.specs.declared.supply.Supply.{Supply}
use Rattle.sn_core.specs.declared.supply.Frame.{Frame}
use Rattle.sn_core.specs.declared.supply.Window.{Window}
use Rattle.sn_core.specs.declared.supply.Supply.TheVariants.{Numbered, End}
use Rattle.sn_core.specs.declared.supply.Frame.TheVariants.{Row, Last}
use Rattle.sn_core.specs.declared.supply.Window.TheVariants.{Idle, Begun, Closed}
use Rattle.sn_core.specs.Events.{kept_from}
use Rattle.sn_core.specs.Workings.{Workings, items_of}
use Rattle.std.specs.Option.{option_to_list}

-- ---- supplies by windows

-- the tuples of one window
pub record Tuples (Tuple : Type 0) : Type 0 where
  pub number : ℕ
  pub tuples : List Tuple

module _ {Tuple : Type 0} where
  -- a tuple joins the window after it if it is of that window
  abbrev pub before_windows : ℕ → Tuple → List (Tuples Tuple) → List (Tuples Tuple)
  before_windows number tuple [] = record { number = number; tuples = tuple ∷ [] } ∷ []
  before_windows number tuple (x ∷ xs) =
      if nat_eq x.number number then record { number = number; tuples = tuple ∷ x.tuples } ∷ xs
      else record { number = number; tuples = tuple ∷ [] } ∷ x ∷ xs

  -- the windows of the supplies, up to the first end
  abbrev pub windows_of : List (Supply Tuple) → List (Tuples Tuple)
  windows_of [] = []
  windows_of (End ∷ supplies) = []
  windows_of (Numbered number tuple ∷ supplies) = before_windows number tuple (windows_of supplies)

  -- what comes first of the window of this number, and what comes after it
  abbrev pub of_window : ℕ → List (Supply Tuple) → List Tuple
  of_window window [] = []
  of_window window (End ∷ supplies) = []
  of_window window (Numbered number tuple ∷ supplies) = if nat_eq number window then tuple ∷ of_window window supplies else []

  abbrev pub after_window : ℕ → List (Supply Tuple) → List (Supply Tuple)
  after_window window [] = []
  after_window window (End ∷ supplies) = End ∷ supplies
  after_window window (Numbered number tuple ∷ supplies) = if nat_eq number window then after_window window supplies else Numbered number tuple ∷ supplies

abbrev pub items_in : {Item : Type 0} → List (Frame Item) → List Item
items_in [] = []
items_in (Row item ∷ frames) = item ∷ items_in frames
items_in (Last ∷ frames) = items_in frames

module _ {Pipe Tuple Item Kept Answers : Type 0} where
  -- what is held and what follows it
  abbrev pub coming : Net Pipe Tuple Item Kept Answers → List (Supply Tuple) → List (Supply Tuple)
  coming net following = option_to_list net.held ++ following

module _ {Pipe Tuple Item Kept Answers : Type 0} (w : Workings Pipe Tuple Item Kept Answers) where
  -- ---- the answers of later windows

  -- a lane of which nothing has come in this window
  abbrev pub fresh : Kept → Lane Pipe Item → Lane Pipe Item
  fresh kept lane = record { pipe = w.start lane.pipe kept; ended = false; ring = []; taken = []; closed = false }

  -- the items of the lanes that start a window with these prefixes and take its tuples
  abbrev pub items_from_start : List Tuple → List (Lane Pipe Item) → List Kept → List (List Item)
  items_from_start tuples [] sets = []
  items_from_start tuples (lane ∷ lanes) [] = items_of w (w.start lane.pipe w.nothing) tuples ∷ items_from_start tuples lanes []
  items_from_start tuples (lane ∷ lanes) (kept ∷ sets) = items_of w (w.start lane.pipe kept) tuples ∷ items_from_start tuples lanes sets

  abbrev pub answers_in : List (Lane Pipe Item) → Option (ℕ × List Kept) → Tuples Tuple → Answers
  answers_in lanes before x = w.answers (kept_from before x.number) x.number (items_from_start x.tuples lanes (kept_from before x.number))

  -- the answers of windows, one after another, each along the prefixes of the window before
  abbrev pub answers_of : List (Lane Pipe Item) → Option (ℕ × List Kept) → List (Tuples Tuple) → List Answers
  answers_of lanes before [] = []
  answers_of lanes before (x ∷ xs) = answers_in lanes before x ∷ answers_of lanes (Some (x.number, w.kept_of (answers_in lanes before x))) xs

  -- ---- the answers of a begun window

  -- the items that the engine has, those on their way, and those that the pipe still gives
  abbrev pub all_items : List Tuple → Lane Pipe Item → List Item
  all_items tuples lane = lane.taken ++ items_in lane.ring ++ items_of w lane.pipe tuples

  -- ---- all of it

  abbrev pub and_later : List (Lane Pipe Item) → ℕ → List (Supply Tuple) → Answers → List Answers
  and_later lanes number supplies answers = answers ∷ answers_of lanes (Some (number, w.kept_of answers)) (windows_of (after_window number supplies))

  abbrev pub due_in : Net Pipe Tuple Item Kept Answers → List (Supply Tuple) → Window → List Answers
  due_in net supplies Idle = answers_of net.lanes None (windows_of supplies)
  due_in net supplies (Begun number) =
      and_later net.lanes number supplies (w.answers (kept_from net.last number) number (map (all_items (of_window number supplies)) net.lanes))
  due_in net supplies (Closed number) = answers_of net.lanes (Some (number, net.installs)) (windows_of supplies)

  abbrev pub due : Net Pipe Tuple Item Kept Answers → List (Supply Tuple) → List Answers
  due net following = option_to_list net.waiting ++ due_in net (coming net following) net.window
