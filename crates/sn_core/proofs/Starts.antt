-- The answers of later windows are the same whatever the lanes did before.
use Rattle.std.proofs.Common.{◌≡◌, ℕ, List, [], ◌∷◌, map, Option, Some, false, refl, ap, ap₂, sym, ◌∙◌}
use Rattle.sn_core.specs.Nets.{Lane}
use Rattle.sn_core.specs.declared.supply.Frame.{Frame}
use Rattle.sn_core.specs.declared.supply.Frame.TheVariants.{Row, Last}
use Rattle.sn_core.specs.Events.{kept_from, all_started, emptied, delivered, delivered_of, with_next, with_next_of, with_start, with_tuple}
use Rattle.sn_core.specs.Due.{Tuples, answers_in, answers_of, fresh, items_from_start}
use Rattle.sn_core.specs.Workings.{AreLawful, Workings, items_of}

abbrev pub at_pipe : {Pipe Item : Type 0} → Pipe → Lane Pipe Item
at_pipe pipe = record { pipe = pipe; ended = false; ring = []; taken = []; closed = false }

module _ {Pipe Tuple Item Kept Answers : Type 0} (w : Workings Pipe Tuple Item Kept Answers) where
  -- a lane as it starts with no prefix
  abbrev pub blank : Lane Pipe Item → Lane Pipe Item
  blank lane = fresh w w.nothing lane

module _ {Pipe Tuple Item Kept Answers : Type 0} (w : Workings Pipe Tuple Item Kept Answers) (law : AreLawful w) where
  pub blank_tuple : (tuple : Tuple) (lane : Lane Pipe Item) → blank w (with_tuple w tuple lane) ≡ blank w lane
  blank_tuple tuple lane = ap at_pipe (law.forgets_tuples lane.pipe tuple w.nothing)

  blank_next_of : (lane : Lane Pipe Item) (items : List Item) → blank w (with_next_of w lane items) ≡ blank w lane
  blank_next_of lane [] = refl
  blank_next_of lane (item ∷ items) = ap at_pipe (law.forgets_reading lane.pipe w.nothing)

  pub blank_next : (lane : Lane Pipe Item) → blank w (with_next w lane) ≡ blank w lane
  blank_next lane = blank_next_of lane (w.left lane.pipe)

  blank_first_of : (lane : Lane Pipe Item) (frames : List (Frame Item)) → blank w (delivered_of lane frames) ≡ blank w lane
  blank_first_of lane [] = refl
  blank_first_of lane (Row item ∷ frames) = refl
  blank_first_of lane (Last ∷ frames) = refl

  pub blank_first : (lane : Lane Pipe Item) → blank w (delivered lane) ≡ blank w lane
  blank_first lane = blank_first_of lane lane.ring

  pub blank_emptied : (lane : Lane Pipe Item) → blank w (emptied lane) ≡ blank w lane
  blank_emptied lane = refl

  blank_start : (kept : Kept) (lane : Lane Pipe Item) → blank w (with_start w kept lane) ≡ blank w lane
  blank_start kept lane = ap at_pipe (law.starts_again lane.pipe kept w.nothing)

  pub blank_started : (lanes : List (Lane Pipe Item)) (sets : List Kept) → map (blank w) (all_started w lanes sets) ≡ map (blank w) lanes
  blank_started [] sets = refl
  blank_started (lane ∷ lanes) [] = ap₂ (λ x xs. x ∷ xs) (blank_start w.nothing lane) (blank_started lanes [])
  blank_started (lane ∷ lanes) (kept ∷ sets) = ap₂ (λ x xs. x ∷ xs) (blank_start kept lane) (blank_started lanes sets)

  items_blank : (tuples : List Tuple) (lanes : List (Lane Pipe Item)) (sets : List Kept) → items_from_start w tuples (map (blank w) lanes) sets ≡ items_from_start w tuples lanes sets
  items_blank tuples [] sets = refl
  items_blank tuples (lane ∷ lanes) [] = ap₂ (λ p xs. items_of w p tuples ∷ xs) (law.starts_again lane.pipe w.nothing w.nothing) (items_blank tuples lanes [])
  items_blank tuples (lane ∷ lanes) (kept ∷ sets) = ap₂ (λ p xs. items_of w p tuples ∷ xs) (law.starts_again lane.pipe w.nothing kept) (items_blank tuples lanes sets)

  answers_blank : (lanes : List (Lane Pipe Item)) (before : Option (ℕ × List Kept)) (xs : List (Tuples Tuple)) → answers_of w (map (blank w) lanes) before xs ≡ answers_of w lanes before xs
  answers_blank lanes before [] = refl
  answers_blank lanes before (x ∷ xs) =
      let same : answers_in w (map (blank w) lanes) before x ≡ answers_in w lanes before x = ap (w.answers (kept_from before x.number) x.number) (items_blank x.tuples lanes (kept_from before x.number)) in
      ap (λ (a : Answers). a ∷ answers_of w (map (blank w) lanes) (Some (x.number, w.kept_of a)) xs) same
      ∙ ap (λ ys. answers_in w lanes before x ∷ ys) (answers_blank lanes (Some (x.number, w.kept_of (answers_in w lanes before x))) xs)

  pub same_answers : (lanes others : List (Lane Pipe Item)) (before : Option (ℕ × List Kept)) (xs : List (Tuples Tuple)) → map (blank w) lanes ≡ map (blank w) others → answers_of w lanes before xs ≡ answers_of w others before xs
  same_answers lanes others before xs e = sym (answers_blank lanes before xs) ∙ ap (λ ls. answers_of w ls before xs) e ∙ answers_blank others before xs
