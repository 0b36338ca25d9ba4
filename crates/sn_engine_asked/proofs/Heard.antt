-- What an engine holds of lanes that takes the rows of those alone that a later level asks for.
use Rattle.std.proofs.Common.{◌≡◌, ℕ, ◌+◌, List, [], ◌∷◌, ◌&&◌, ◌==◌, map, filter, fold, length, Bool, true, false, cond, nat_lt, Option, Some, slice_get, refl, ap, sym, ◌∙◌}
use Rattle.std.specs.List.{AllByRecursion, find}
use Rattle.std.specs.Option.{option_map_or}
use Rattle.sn_base.proofs.Lists.{and_parts, by_test, nat_same}
use Rattle.sn_base.specs.Changed.{with_first}
use Rattle.sn_base.specs.Sorted.{sorted_rows}
use Rattle.sn_base.specs.declared.lane.Lane.{Lane}
use Rattle.sn_engine.proofs.Frames.{here, later}
use Rattle.sn_engine.specs.Answers.{part_of, parts_of}
use Rattle.sn_engine.specs.Intakes.{after_frame, is_lane, items_at, lane_at, with_end, with_item}
use Rattle.sn_engine.specs.Keeping.{is_part, left, rows_found, with_bits}
use Rattle.sn_engine.specs.Moving.{name_of}
use Rattle.sn_engine.specs.declared.intake.Intake.{Intake}
use Rattle.sn_engine_asked.specs.Asked.{after_heard, heard, is_asked}
use Rattle.sn_engine_split.specs.Branches.{query_value}
use Rattle.sn_engine_split.specs.Opened.{Prefixes, left_in}
use Rattle.sn_plan_grammar.specs.declared.plan.Entry.{Entry}
use Rattle.sn_refine.specs.Steps.{Set}
use Rattle.sn_report.specs.Items.{Frame, Item}
use Rattle.sn_report.specs.declared.frame.Frame.TheVariants.{Row, End}
use Rattle.sn_types.specs.declared.answers.Part.{Part}
use Rattle.sn_types.specs.declared.typed_query.TypedQuery.{TypedQuery}
use Rattle.sn_types.specs.Typed.{query_at}

-- ---- lists whose first is changed

map_first : (test : Intake → Bool) (change hold : Intake → Intake) → ((l : Intake) → test (hold l) ≡ test l) → ((l : Intake) → test l ≡ true → hold (change l) ≡ change (hold l))
    → (ls : List Intake) → map hold (with_first test change ls) ≡ with_first test change (map hold ls)
map_first test change hold same turned [] = refl
map_first test change hold same turned (l ∷ ls) =
    by_test (test l)
    (λ is. ap (map hold) (here test change l ls is) ∙ ap (λ m. m ∷ map hold ls) (turned l is) ∙ sym (here test change (hold l) (map hold ls) (same l ∙ is)))
    (λ isnt. ap (map hold) (later test change l ls isnt) ∙ ap (λ ms. hold l ∷ ms) (map_first test change hold same turned ls) ∙ sym (later test change (hold l) (map hold ls) (same l ∙ isnt)))

map_same : (test : Intake → Bool) (change hold : Intake → Intake) → ((l : Intake) → test l ≡ true → hold (change l) ≡ hold l) → (ls : List Intake) → map hold (with_first test change ls) ≡ map hold ls
map_same test change hold same [] = refl
map_same test change hold same (l ∷ ls) =
    by_test (test l)
    (λ is. ap (map hold) (here test change l ls is) ∙ ap (λ m. m ∷ map hold ls) (same l is))
    (λ isnt. ap (map hold) (later test change l ls isnt) ∙ ap (λ ms. hold l ∷ ms) (map_same test change hold same ls))

-- ---- frames

module _ (entries : List Entry) where
  abbrev asked_at : ℕ → ℕ → Bool
  asked_at query place = option_map_or (λ (e : Entry). nat_lt (place + 1) (length e.levels)) (slice_get entries query) false

  -- a lane of this name is asked for as the name is
  named : (n : Lane) (l : Intake) → is_lane n l ≡ true → is_asked entries (name_of l) ≡ is_asked entries n
  named n l is =
      let outer = and_parts ((n.query == l.query) && (n.level == l.place)) (n.branch == l.branch) is in
      let inner = and_parts (n.query == l.query) (n.level == l.place) outer.0 in
      ap (λ q. asked_at q l.place) (sym (nat_same n.query l.query inner.0)) ∙ ap (asked_at n.query) (sym (nat_same n.level l.place inner.1))

  abbrev with_items : Intake → List Item → Intake
  with_items l items = record l { items = items }

  -- of a lane that is asked for all is held, and of another nothing
  held : (l : Intake) → is_asked entries (name_of l) ≡ true → heard entries l ≡ l
  held l is = ap (λ b. with_items l (cond b l.items [])) is

  not_held : (l : Intake) → is_asked entries (name_of l) ≡ false → heard entries l ≡ with_items l []
  not_held l isnt = ap (λ b. with_items l (cond b l.items [])) isnt

  -- of lanes after a frame the engine holds what it holds of them before, after the frame
  pub heard_frame : (lanes : List Intake) (f : Frame) → map (heard entries) (after_frame lanes f) ≡ after_heard entries (map (heard entries) lanes) f
  heard_frame lanes (End lane window) = map_first (is_lane lane) (with_end window) (heard entries) (λ l. refl) (λ l is. refl) lanes
  heard_frame lanes (Row lane item) =
      by_test (is_asked entries lane)
      (λ is. map_first (is_lane lane) (with_item item) (heard entries) (λ l. refl)
      (λ l own. held (with_item item l) (named lane l own ∙ is) ∙ ap (with_item item) (sym (held l (named lane l own ∙ is)))) lanes
      ∙ sym (ap (λ b. cond b (after_frame (map (heard entries) lanes) (Row lane item)) (map (heard entries) lanes)) is))
      (λ isnt. map_same (is_lane lane) (with_item item) (heard entries)
      (λ l own. not_held (with_item item l) (named lane l own ∙ isnt) ∙ sym (not_held l (named lane l own ∙ isnt))) lanes
      ∙ sym (ap (λ b. cond b (after_frame (map (heard entries) lanes) (Row lane item)) (map (heard entries) lanes)) isnt))

  pub heard_frames : (lanes : List Intake) (fs : List Frame) → map (heard entries) (fold after_frame lanes fs) ≡ fold (after_heard entries) (map (heard entries) lanes) fs
  heard_frames lanes [] = refl
  heard_frames lanes (f ∷ fs) = heard_frames (after_frame lanes f) fs ∙ ap (λ ls. fold (after_heard entries) ls fs) (heard_frame lanes f)

  -- ---- answers

  none_left : (query : TypedQuery) (b : ℕ) (ps : Option Prefixes) (items : List Item) (asked : Bool) → left_in query b ps (cond asked items []) ≡ cond asked (left_in query b ps items) []
  none_left query b ps items true = refl
  none_left query b ps items false = refl

  -- what is left of what is held is what is held of what is left
  pub heard_left : (queries : List TypedQuery) (members : Set) (l : Intake) → left queries members (heard entries l) ≡ heard entries (left queries members l)
  heard_left queries members l =
      ap (with_items l) (none_left (query_at queries l.query) l.branch (with_bits l.before members) l.items (is_asked entries (name_of l)))

  abbrev items_in : Option Intake → List Item
  items_in o = option_map_or (λ (l : Intake). l.items) o []

  items_heard : (lanes : List Intake) (n : Lane) → is_asked entries n ≡ true → items_at (map (heard entries) lanes) n ≡ items_at lanes n
  items_heard [] n is = refl
  items_heard (l ∷ ls) n is =
      by_test (is_lane n l)
      (λ own. ap (λ b. items_in (cond b (Some (heard entries l)) (find (is_lane n) (map (heard entries) ls)))) own
      ∙ ap (λ (m : Intake). m.items) (held l (named n l own ∙ is))
      ∙ sym (ap (λ b. items_in (cond b (Some l) (find (is_lane n) ls))) own))
      (λ other. ap (λ b. items_in (cond b (Some (heard entries l)) (find (is_lane n) (map (heard entries) ls)))) other
      ∙ items_heard ls n is
      ∙ sym (ap (λ b. items_in (cond b (Some l) (find (is_lane n) ls))) other))

  module _ (queries : List TypedQuery) (lanes : List Intake) where
    abbrev all_held : List Intake
    all_held = map (heard entries) lanes

    part_heard : (l : Intake) → is_asked entries (name_of l) ≡ true → part_of queries all_held (heard entries l) ≡ part_of queries lanes l
    part_heard l is =
        ap (part_of queries all_held) (held l is)
        ∙ ap (λ (items : List Item). made l (sorted_rows (query_value (query_at queries l.query) l.level l.items items))) (items_heard lanes (lane_at l.query l.place 1) is)
      where
        made : Intake → List (List ℕ) → Part
        made l rows = record { query = l.query; level = l.level; rows = rows }

    abbrev rows_in : Option Part → List (List ℕ)
    rows_in o = option_map_or (λ (part : Part). part.rows) o []

    abbrev first : Intake → Bool
    first l = l.branch == 0

    -- the rows at a level that is asked for
    rows_among : (q level : ℕ) (ls : List Intake) → AllByRecursion (λ (l : Intake). ((l.query == q) && (l.level == level)) ≡ true → is_asked entries (name_of l) ≡ true) ls
        → rows_in (find (is_part q level) (map (part_of queries all_held) (filter first (map (heard entries) ls)))) ≡ rows_in (find (is_part q level) (map (part_of queries lanes) (filter first ls)))
    rows_among q level [] h = refl
    rows_among q level (l ∷ ls) h =
        let held_parts : List Part = map (part_of queries all_held) (filter first (map (heard entries) ls)) in
        let parts : List Part = map (part_of queries lanes) (filter first ls) in
        let rest : rows_in (find (is_part q level) held_parts) ≡ rows_in (find (is_part q level) parts) = rows_among q level ls h.1 in
        by_test (l.branch == 0)
        (λ is. ap (λ b. rows_in (find (is_part q level) (map (part_of queries all_held) (cond b (heard entries l ∷ filter first (map (heard entries) ls)) (filter first (map (heard entries) ls)))))) is
        ∙ by_test ((l.query == q) && (l.level == level))
        (λ same. ap (λ b. rows_in (cond b (Some (part_of queries all_held (heard entries l))) (find (is_part q level) held_parts))) same
        ∙ ap (λ (part : Part). part.rows) (part_heard l (h.0 same))
        ∙ sym (ap (λ b. rows_in (cond b (Some (part_of queries lanes l)) (find (is_part q level) parts))) same))
        (λ other. ap (λ b. rows_in (cond b (Some (part_of queries all_held (heard entries l))) (find (is_part q level) held_parts))) other
        ∙ rest
        ∙ sym (ap (λ b. rows_in (cond b (Some (part_of queries lanes l)) (find (is_part q level) parts))) other))
        ∙ sym (ap (λ b. rows_in (find (is_part q level) (map (part_of queries lanes) (cond b (l ∷ filter first ls) (filter first ls))))) is))
        (λ isnt. ap (λ b. rows_in (find (is_part q level) (map (part_of queries all_held) (cond b (heard entries l ∷ filter first (map (heard entries) ls)) (filter first (map (heard entries) ls)))))) isnt
        ∙ rest
        ∙ sym (ap (λ b. rows_in (find (is_part q level) (map (part_of queries lanes) (cond b (l ∷ filter first ls) (filter first ls))))) isnt))

    pub rows_heard : (q level : ℕ) → AllByRecursion (λ (l : Intake). ((l.query == q) && (l.level == level)) ≡ true → is_asked entries (name_of l) ≡ true) lanes
        → rows_found (parts_of queries all_held) q level ≡ rows_found (parts_of queries lanes) q level
    rows_heard q level h = rows_among q level lanes h
