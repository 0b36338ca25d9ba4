-- The engine takes what all switches have gathered, lane by lane.
use Rattle.std.proofs.Common.{◌≡◌, ℕ, ◌+◌, List, [], ◌∷◌, ◌++◌, map, fold, length, Bool, true, false, Some, refl, ap, sym, ◌∙◌, append_assoc, append-nil}
use Rattle.std.specs.List.{AllByRecursion, flat_map}
use Rattle.std.proofs.lemmas.List.Sums.{sum_by-cons}
use Rattle.sn_base.proofs.Lists.{all_append, all_weaker, by_test, map_both}
use Rattle.sn_base.specs.declared.lane.Lane.{Lane}
use Rattle.sn_emit.specs.Plans.{Placed, items_of, pieces_from}
use Rattle.sn_emit.specs.declared.tables.Tables.{Tables}
use Rattle.sn_engine.proofs.Frames.{here, later}
use Rattle.sn_base.specs.Changed.{with_first}
use Rattle.sn_engine.specs.Intakes.{after_frame, emptied, intakes_of, is_lane, shared, total, with_item}
use Rattle.sn_engine.specs.Moving.{after_lane, name_of as lane_name, with_items}
use Rattle.sn_engine.specs.Turns.{lane_tag, turn}
use Rattle.sn_engine.specs.declared.intake.Intake.{Intake}
use Rattle.sn_engine_lockstep.proofs.Changes.{after_is, own_name, same_name, same_names}
use Rattle.sn_engine_lockstep.proofs.Laws.{intakes_are}
use Rattle.sn_engine_lockstep.specs.Sources.{source_of}
use Rattle.sn_engine_lockstep.specs.Work.{AreApart, done, intake_of, name_of, taken}
use Rattle.sn_engine_lockstep.specs.declared.source.Source.{Source}
use Rattle.sn_engine_many.proofs.Sent.{all_sent, gathered, own_items}
use Rattle.sn_engine_many.specs.Answers.{shared_items, shared_sent}
use Rattle.sn_engine_many.specs.Shorts.{short_placed}
use Rattle.sn_engine_many.specs.Frames.{end_of, frames_of}
use Rattle.sn_plan_grammar.specs.declared.plan.Entry.{Entry}
use Rattle.sn_refine.specs.Steps.{Set}
use Rattle.sn_report.specs.Frames.{lane_of as lane_in}
use Rattle.sn_report.specs.Items.{Frame}
use Rattle.sn_report.specs.declared.frame.Frame.TheVariants.{Row, End}
use Rattle.sn_report.specs.Items.{Item}
use Rattle.sn_types.specs.declared.typed_query.TypedQuery.{TypedQuery}

pub fold_append : {S X : Type 0} (f : S → X → S) (s : S) (xs ys : List X) → fold f s (xs ++ ys) ≡ fold f (fold f s xs) ys
fold_append f s [] ys = refl
fold_append f s (x ∷ xs) ys = fold_append f (f s x) xs ys

flat_map_both : {A B C : Type 0} (f : A → B) (g : B → List C) (xs : List A) → flat_map g (map f xs) ≡ flat_map (λ x. g (f x)) xs
flat_map_both f g [] = refl
flat_map_both f g (x ∷ xs) = ap (λ ys. g (f x) ++ ys) (flat_map_both f g xs)

-- ---- frames of one lane, and of others

own_frames : (l : Intake) (ls : List Intake) (fs : List Frame) → AllByRecursion (λ f. is_lane (lane_in f) l ≡ true) fs → fold after_frame (l ∷ ls) fs ≡ fold taken l fs ∷ ls
own_frames l ls [] h = refl
own_frames l ls (f ∷ fs) h =
    ap (λ zs. fold after_frame zs fs) (after_is (l ∷ ls) f ∙ here (is_lane (lane_in f)) (λ m. taken m f) l ls h.0)
    ∙ own_frames (taken l f) ls fs (all_weaker (λ g. is_lane (lane_in g) l ≡ true) (λ g. is_lane (lane_in g) (taken l f) ≡ true) (λ g is. same_name (lane_in g) l f ∙ is) fs h.1)

other_frames : (l : Intake) (ls : List Intake) (fs : List Frame) → AllByRecursion (λ f. is_lane (lane_in f) l ≡ false) fs → fold after_frame (l ∷ ls) fs ≡ l ∷ fold after_frame ls fs
other_frames l ls [] h = refl
other_frames l ls (f ∷ fs) h =
    ap (λ zs. fold after_frame zs fs) (after_is (l ∷ ls) f ∙ later (is_lane (lane_in f)) (λ m. taken m f) l ls h.0 ∙ ap (λ zs. l ∷ zs) (sym (after_is ls f)))
    ∙ other_frames l (after_frame ls f) fs h.1

-- ---- the frames of all items of a lane

one_then : (n : Lane) (item : Item) (items : List Item) (ls : List Intake) → with_first (is_lane n) (with_items items) (with_first (is_lane n) (with_item item) ls) ≡ with_first (is_lane n) (with_items (item ∷ items)) ls
one_then n item items [] = refl
one_then n item items (l ∷ ls) =
    by_test (is_lane n l)
    (λ is. ap (with_first (is_lane n) (with_items items)) (here (is_lane n) (with_item item) l ls is)
    ∙ here (is_lane n) (with_items items) (with_item item l) ls is
    ∙ ap (λ (is : List Item). record l { items = is } ∷ ls) (append_assoc l.items (item ∷ []) items)
    ∙ sym (here (is_lane n) (with_items (item ∷ items)) l ls is))
    (λ isnt. ap (with_first (is_lane n) (with_items items)) (later (is_lane n) (with_item item) l ls isnt)
    ∙ later (is_lane n) (with_items items) l (with_first (is_lane n) (with_item item) ls) isnt
    ∙ ap (λ zs. l ∷ zs) (one_then n item items ls)
    ∙ sym (later (is_lane n) (with_items (item ∷ items)) l ls isnt))

none_more : (test : Intake → Bool) (ls : List Intake) → ls ≡ with_first test (with_items []) ls
none_more test [] = refl
none_more test (l ∷ ls) =
    by_test (test l)
    (λ is. ap (λ (is : List Item). record l { items = is } ∷ ls) (sym (append-nil l.items)) ∙ sym (here test (with_items []) l ls is))
    (λ isnt. ap (λ zs. l ∷ zs) (none_more test ls) ∙ sym (later test (with_items []) l ls isnt))

rows_at : (n : Lane) (t : Item → Item) (items : List Item) (ls : List Intake) → fold after_frame ls (map (λ item. Row n (t item)) items) ≡ with_first (is_lane n) (with_items (map t items)) ls
rows_at n t [] ls = none_more (is_lane n) ls
rows_at n t (item ∷ items) ls = rows_at n t items (with_first (is_lane n) (with_item (t item)) ls) ∙ one_then n (t item) (map t items) ls

-- lane by lane, or frame by frame
pub lanes_by_frames : (queries : List TypedQuery) (ls xs : List Intake) → fold (after_lane queries) ls xs ≡ fold after_frame ls (flat_map (frames_of queries) xs)
lanes_by_frames queries ls [] = refl
lanes_by_frames queries ls (x ∷ xs) =
    lanes_by_frames queries (after_lane queries ls x) xs
    ∙ ap (λ zs. fold after_frame zs (flat_map (frames_of queries) xs)) (sym (rows_at (lane_name x) (turn (lane_tag queries x)) x.items ls))
    ∙ sym (fold_append after_frame ls (frames_of queries x) (flat_map (frames_of queries) xs))

-- ---- each lane takes its own frames

module _ (frames : Placed → List Frame) (own : (x : Placed) → AllByRecursion (λ f. lane_in f ≡ name_of x) (frames x)) (before : Placed → Intake)
    (named : (n : Lane) (x : Placed) → is_lane n (before x) ≡ is_lane n (intake_of x)) where
  mine : (x : Placed) → AllByRecursion (λ f. is_lane (lane_in f) (before x) ≡ true) (frames x)
  mine x = all_weaker (λ f. lane_in f ≡ name_of x) (λ f. is_lane (lane_in f) (before x) ≡ true) (λ f is. ap (λ n. is_lane n (before x)) is ∙ named (name_of x) x ∙ own_name x) (frames x) (own x)

  others : (x : Placed) (l : Intake) → ((n : Lane) → is_lane n l ≡ is_lane n (intake_of x)) → (xs : List Placed) → AllByRecursion (λ y. is_lane (name_of y) (intake_of x) ≡ false) xs
      → AllByRecursion (λ f. is_lane (lane_in f) l ≡ false) (flat_map frames xs)
  others x l same [] h = tt
  others x l same (y ∷ xs) h =
      all_append (λ f. is_lane (lane_in f) l ≡ false) (frames y) (flat_map frames xs)
      (all_weaker (λ f. lane_in f ≡ name_of y) (λ f. is_lane (lane_in f) l ≡ false) (λ f is. ap (λ n. is_lane n l) is ∙ same (name_of y) ∙ h.0) (frames y) (own y))
      (others x l same xs h.1)

  each_takes : (xs : List Placed) → AreApart xs → fold after_frame (map before xs) (flat_map frames xs) ≡ map (λ x. fold taken (before x) (frames x)) xs
  each_takes [] apart = refl
  each_takes (x ∷ xs) apart =
      let l = fold taken (before x) (frames x) in
      fold_append after_frame (before x ∷ map before xs) (frames x) (flat_map frames xs)
      ∙ ap (λ ls. fold after_frame ls (flat_map frames xs)) (own_frames (before x) (map before xs) (frames x) (mine x))
      ∙ other_frames l (map before xs) (flat_map frames xs) (others x l (λ n. same_names n (before x) (frames x) ∙ named n x) xs apart.0)
      ∙ ap (λ ls. l ∷ ls) (each_takes xs apart.1)

-- ---- items

-- a lane of the engine of all switches that has these items, and none of its Ends
abbrev pub holding : (Placed → List Item) → Placed → Intake
holding found x = record (intake_of x) { shared = true; items = found x }

abbrev pub ended : ℕ → (Placed → List Item) → Placed → Intake
ended window found x = record (intake_of x) { shared = true; items = found x; end = Some window }

rows_taken : (l : Intake) (n : Lane) (t : Item → Item) (items : List Item) → fold taken l (map (λ item. Row n (t item)) items) ≡ record l { items = l.items ++ map t items }
rows_taken l n t [] = ap (λ (is : List Item). record l { items = is }) (sym (append-nil l.items))
rows_taken l n t (item ∷ items) =
    rows_taken (record l { items = l.items ++ t item ∷ [] }) n t items
    ∙ ap (λ (is : List Item). record l { items = is }) (append_assoc l.items (t item ∷ []) (map t items))

rows_own : (n : Lane) (t : Item → Item) (items : List Item) → AllByRecursion (λ f. lane_in f ≡ n) (map (λ item. Row n (t item)) items)
rows_own n t [] = tt
rows_own n t (item ∷ items) = (refl, rows_own n t items)

map_same : {X Y : Type 0} (f g : X → Y) → ((x : X) → f x ≡ g x) → (xs : List X) → map f xs ≡ map g xs
map_same f g same [] = refl
map_same f g same (x ∷ xs) = ap (λ y. y ∷ map f xs) (same x) ∙ ap (λ ys. g x ∷ ys) (map_same f g same xs)

module _ (queries : List TypedQuery) (tables : Tables) (kept : Source → Set) (window : ℕ) (pieces : List Placed) (apart : AreApart pieces) where
  -- the frames of what a switch has gathered in the window
  abbrev pub frames_in : List (List ℕ) → List Frame
  frames_in tuples = flat_map (frames_of queries) (map (done queries tables kept tuples window) (map (short_placed queries) pieces))

  abbrev piece_frames : List (List ℕ) → Placed → List Frame
  piece_frames tuples x = frames_of queries (done queries tables kept tuples window (short_placed queries x))

  abbrev more : (Placed → List Item) → List (List ℕ) → Placed → List Item
  more found tuples x = found x ++ own_items queries tables kept x tuples

  frames_by_piece : (tuples : List (List ℕ)) → frames_in tuples ≡ flat_map (piece_frames tuples) pieces
  frames_by_piece tuples =
      flat_map_both (done queries tables kept tuples window) (frames_of queries) (map (short_placed queries) pieces)
      ∙ flat_map_both (short_placed queries) (λ x. frames_of queries (done queries tables kept tuples window x)) pieces

  one_gathered : (found : Placed → List Item) (tuples : List (List ℕ)) → fold after_frame (map (holding found) pieces) (frames_in tuples) ≡ map (holding (more found tuples)) pieces
  one_gathered found tuples =
      ap (fold after_frame (map (holding found) pieces)) (frames_by_piece tuples)
      ∙ each_takes (piece_frames tuples) (λ x. rows_own (name_of x) _ (items_of queries tables (short_placed queries x) (kept (source_of x)) tuples)) (holding found) (λ n x. refl) pieces apart
      ∙ map_same (λ x. fold taken (holding found x) (piece_frames tuples x)) (holding (more found tuples))
      (λ x. rows_taken (holding found x) (name_of x) _ (items_of queries tables (short_placed queries x) (kept (source_of x)) tuples)) pieces

  -- of all switches, one after another
  all_gathered_after : (found : Placed → List Item) (captures : List (List (List ℕ))) → fold after_frame (map (holding found) pieces) (flat_map frames_in captures) ≡ map (holding (λ x. found x ++ gathered queries tables kept captures x)) pieces
  all_gathered_after found [] = map_same (holding found) (holding (λ x. found x ++ [])) (λ x. ap (λ (is : List Item). with_items x is) (sym (append-nil (found x)))) pieces
    where
      with_items : Placed → List Item → Intake
      with_items x is = record (intake_of x) { shared = true; items = is }
  all_gathered_after found (tuples ∷ captures) =
      fold_append after_frame (map (holding found) pieces) (frames_in tuples) (flat_map frames_in captures)
      ∙ ap (λ ls. fold after_frame ls (flat_map frames_in captures)) (one_gathered found tuples)
      ∙ all_gathered_after (more found tuples) captures
      ∙ map_same (holding (λ x. more found tuples x ++ gathered queries tables kept captures x)) (holding (λ x. found x ++ gathered queries tables kept (tuples ∷ captures) x))
      (λ x. ap (λ (is : List Item). with_items x is) (append_assoc (found x) (own_items queries tables kept x tuples) (gathered queries tables kept captures x))) pieces
    where
      with_items : Placed → List Item → Intake
      with_items x is = record (intake_of x) { shared = true; items = is }

  pub all_gathered : (captures : List (List (List ℕ))) → fold after_frame (map (holding (λ x. [])) pieces) (flat_map frames_in captures) ≡ map (holding (gathered queries tables kept captures)) pieces
  all_gathered captures = all_gathered_after (λ x. []) captures

  -- ---- the Ends

  ends_by_piece : (xs : List Placed) → map (end_of window) (map intake_of (map (short_placed queries) xs)) ≡ flat_map (λ x. End (name_of x) window ∷ []) xs
  ends_by_piece [] = refl
  ends_by_piece (x ∷ xs) = ap (λ fs. End (name_of x) window ∷ fs) (ends_by_piece xs)

  pub all_ended : (found : Placed → List Item) → fold after_frame (map (holding found) pieces) (map (end_of window) (map intake_of (map (short_placed queries) pieces))) ≡ map (ended window found) pieces
  all_ended found =
      ap (fold after_frame (map (holding found) pieces)) (ends_by_piece pieces)
      ∙ each_takes (λ x. End (name_of x) window ∷ []) (λ x. (refl, tt)) (holding found) (λ n x. refl) pieces apart

-- ---- the engine before and after

pub nothing_held : (es : List Entry) → map shared (intakes_of 0 es) ≡ map (holding (λ x. [])) (pieces_from 0 es)
nothing_held es = ap (map shared) (intakes_are 0 es) ∙ map_both intake_of shared (pieces_from 0 es)

pub ended_emptied : (window : ℕ) (found : Placed → List Item) (xs : List Placed) → map emptied (map (ended window found) xs) ≡ map (holding (λ x. [])) xs
ended_emptied window found xs = map_both (ended window found) emptied xs

pub sent_in_all : (queries : List TypedQuery) (tables : Tables) (window : ℕ) (kept : Source → Set) (captures : List (List (List ℕ))) (xs : List Placed) → total (map (ended window (gathered queries tables kept captures)) xs) ≡ shared_sent queries tables xs kept captures
sent_in_all queries tables window kept captures [] = refl
sent_in_all queries tables window kept captures (x ∷ xs) =
    let lane = ended window (gathered queries tables kept captures) in
    let count : Placed → ℕ = λ y. length (shared_items queries tables y (kept (source_of y)) captures) in
    sum_by-cons (λ (l : Intake). length l.items) (lane x) (map lane xs)
    ∙ ap (λ n. n + total (map lane xs)) (all_sent queries tables kept x captures)
    ∙ ap (λ n. count x + n) (sent_in_all queries tables window kept captures xs)
    ∙ sym (sum_by-cons (λ (n : ℕ). n) (count x) (map count xs))
