-- No event changes the items of a window.
use Rattle.std.proofs.Common.{◌≡◌, List, [], ◌∷◌, ◌++◌, map, drop, Bool, true, false, not, Option, None, Some, refl, ap, ap₂, sym, ◌∙◌, append_assoc, append-nil}
use Rattle.std.specs.List.{AllByRecursion}
use Rattle.std.proofs.lemmas.Bool.{false≢true}
use Rattle.sn_core.specs.Nets.{Lane}
use Rattle.sn_core.specs.declared.supply.Frame.{Frame}
use Rattle.sn_core.specs.declared.supply.Frame.TheVariants.{Row, Last}
use Rattle.sn_core.specs.Events.{all_started, row_frames, delivered, delivered_of, with_next, with_next_of, with_start, with_tuple}
use Rattle.sn_core.specs.Due.{all_items, items_from_start, items_in}
use Rattle.sn_core.specs.Standing.{HasEndLast, IsAtRest, IsAtWork}
use Rattle.sn_core.specs.Workings.{AreLawful, Workings, after_all, gives, items_of}
use Rattle.std.specs.Option.{option_to_list}

module _ {Item : Type 0} where
  pub items_append : (xs ys : List (Frame Item)) → items_in (xs ++ ys) ≡ items_in xs ++ items_in ys
  items_append [] ys = refl
  items_append (Row item ∷ xs) ys = ap (λ zs. item ∷ zs) (items_append xs ys)
  items_append (Last ∷ xs) ys = items_append xs ys

  row_items : (o : Option Item) → items_in (row_frames o) ≡ option_to_list o
  row_items None = refl
  row_items (Some item) = refl

  -- what leaves one part joins the next
  moved : (a b c d e : List Item) → (a ++ (b ++ c)) ++ (d ++ e) ≡ (a ++ b) ++ ((c ++ d) ++ e)
  moved a b c d e = ap (λ xs. xs ++ (d ++ e)) (sym (append_assoc a b c)) ∙ append_assoc (a ++ b) c (d ++ e) ∙ ap (λ xs. (a ++ b) ++ xs) (sym (append_assoc c d e))

module _ {Pipe Tuple Item Kept Answers : Type 0} (w : Workings Pipe Tuple Item Kept Answers) (law : AreLawful w) where
  pub tuple_items : (tuple : Tuple) (tuples : List Tuple) (lane : Lane Pipe Item) → all_items w tuples (with_tuple w tuple lane) ≡ all_items w (tuple ∷ tuples) lane
  tuple_items tuple tuples lane =
      let next : Pipe = w.after lane.pipe tuple in
      ap (λ xs. lane.taken ++ xs ++ items_of w next tuples) (items_append lane.ring (row_frames (w.item_of lane.pipe tuple)) ∙ ap (λ xs. items_in lane.ring ++ xs) (row_items (w.item_of lane.pipe tuple)))
      ∙ moved lane.taken (items_in lane.ring) (option_to_list (w.item_of lane.pipe tuple)) (gives w next tuples) (w.left (after_all w next tuples))

  next_items_of : (lane : Lane Pipe Item) (items : List Item) → w.left lane.pipe ≡ items → all_items w [] (with_next_of w lane items) ≡ all_items w [] lane
  next_items_of lane [] e = ap (λ xs. lane.taken ++ xs ++ w.left lane.pipe) (items_append lane.ring (Last ∷ []) ∙ append-nil (items_in lane.ring))
  next_items_of lane (item ∷ items) e =
      ap₂ (λ xs ys. lane.taken ++ xs ++ ys) (items_append lane.ring (Row item ∷ [])) (law.reads lane.pipe ∙ ap (drop 1) e)
      ∙ ap (λ xs. xs ++ items) (sym (append_assoc lane.taken (items_in lane.ring) (item ∷ []))) ∙ append_assoc (lane.taken ++ items_in lane.ring) (item ∷ []) items
      ∙ ap (λ xs. lane.taken ++ items_in lane.ring ++ xs) (sym e)

  pub next_items : (lane : Lane Pipe Item) → all_items w [] (with_next w lane) ≡ all_items w [] lane
  next_items lane = next_items_of lane (w.left lane.pipe) refl

  first_items_of : (tuples : List Tuple) (lane : Lane Pipe Item) (frames : List (Frame Item)) → lane.ring ≡ frames → all_items w tuples (delivered_of lane frames) ≡ all_items w tuples lane
  first_items_of tuples lane [] e = refl
  first_items_of tuples lane (Row item ∷ frames) e =
      ap (λ xs. xs ++ items_of w lane.pipe tuples) (append_assoc lane.taken (item ∷ []) (items_in frames)) ∙ ap (λ fs. lane.taken ++ items_in fs ++ items_of w lane.pipe tuples) (sym e)
  first_items_of tuples lane (Last ∷ frames) e = ap (λ fs. lane.taken ++ items_in fs ++ items_of w lane.pipe tuples) (sym e)

  pub first_items : (tuples : List Tuple) (lane : Lane Pipe Item) → all_items w tuples (delivered lane) ≡ all_items w tuples lane
  first_items tuples lane = first_items_of tuples lane lane.ring refl

  start_items : (tuples : List Tuple) (kept : Kept) (lane : Lane Pipe Item) → IsAtRest lane → all_items w tuples (with_start w kept lane) ≡ items_of w (w.start lane.pipe kept) tuples
  start_items tuples kept lane rest = ap₂ (λ xs fs. xs ++ items_in fs ++ items_of w (w.start lane.pipe kept) tuples) rest.taken rest.ring

  pub started_items : (tuples : List Tuple) (lanes : List (Lane Pipe Item)) (sets : List Kept) → AllByRecursion IsAtRest lanes → map (all_items w tuples) (all_started w lanes sets) ≡ items_from_start w tuples lanes sets
  started_items tuples [] sets h = refl
  started_items tuples (lane ∷ lanes) [] h = ap₂ (λ x xs. x ∷ xs) (start_items tuples w.nothing lane h.0) (started_items tuples lanes [] h.1)
  started_items tuples (lane ∷ lanes) (kept ∷ sets) h = ap₂ (λ x xs. x ∷ xs) (start_items tuples kept lane h.0) (started_items tuples lanes sets h.1)

  -- of an ended lane the engine has all
  has_all : (closed : Bool) (lane : Lane Pipe Item) → not closed ≡ false → HasEndLast lane.ended closed lane.ring → (lane.ended ≡ true) × (lane.ring ≡ [])
  has_all true lane e h = h
  has_all false lane e h = absurd (false≢true (sym e))

  pub ended_lane : (over : Bool) (lane : Lane Pipe Item) → not lane.closed ≡ false → IsAtWork w over lane → (lane.ended ≡ true) × (lane.ring ≡ [])
  ended_lane over lane e h = has_all lane.closed lane e h.end

  pub closed_items : (over : Bool) (lanes : List (Lane Pipe Item)) → AllByRecursion (λ lane. not lane.closed ≡ false) lanes → AllByRecursion (IsAtWork w over) lanes → map (all_items w []) lanes ≡ map (λ lane. lane.taken) lanes
  closed_items over [] closed h = refl
  closed_items over (lane ∷ lanes) closed h =
      let all = ended_lane over lane closed.0 h.0 in
      ap₂ (λ x xs. x ∷ xs) (ap₂ (λ fs xs. lane.taken ++ items_in fs ++ xs) all.1 (h.0.read_out all.0) ∙ append-nil (lane.taken ++ []) ∙ append-nil lane.taken) (closed_items over lanes closed.1 h.1)
