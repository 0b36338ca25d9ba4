-- What `emit` writes of a window are frames of a window, which an engine answers.
use Rattle.std.proofs.Common.{◌≡◌, ℕ, ◌<◌, ◌≤◌, ◌^◌, List, [], ◌∷◌, ◌++◌, map, length, true, Option, Some, None, refl, ap, sym, ◌∙◌, subst, append_assoc, arith}
use Rattle.std.specs.List.{AllByRecursion, flat_map, list_any, range_with_len}
use Rattle.std.proofs.lemmas.List.{map-append}
use Rattle.sn_base.specs.declared.lane.Lane.{Lane}
use Rattle.sn_base.proofs.Lists.{all_append, all_map, all_weaker, map_both, all_front, all_rest, none_some}
use Rattle.sn_windows.specs.Rising.{Window}
use Rattle.sn_engine_lockstep.specs.declared.source.Source.{Source}
use Rattle.sn_engine_lockstep.specs.Sources.{source_of}
use Rattle.sn_engine_lockstep.specs.Windows.{window_answers}
use Rattle.sn_engine_lockstep.specs.Work.{AreKept, Recalls, done, intake_of, left_done, name_of}
use Rattle.sn_engine_lockstep.proofs.Apart.{pieces_apart}
use Rattle.sn_engine_lockstep.proofs.Laws.{answered_count, answered_parts, intakes_are}
use Rattle.sn_engine_lockstep.proofs.Recalling.{lanes_are_left, recalls_next}
use Rattle.sn_emit.specs.Making.{CanMake}
use Rattle.sn_emit.specs.Plans.{Placed, items_of, pieces_from}
use Rattle.sn_emit.specs.Senders.{row_frame}
use Rattle.sn_emit.specs.declared.tables.Tables.{Tables}
use Rattle.sn_engine.specs.declared.intake.Intake.{Intake}
use Rattle.sn_engine.specs.Answers.{parts_of}
use Rattle.sn_engine.specs.Intakes.{intakes_of, is_lane, total}
use Rattle.sn_engine.specs.Keeping.{all_left, gathered, kept_for, prefixes_for}
use Rattle.sn_engine.specs.Taking.{row_fault}
use Rattle.sn_command_finish.specs.Whole.{IsWindow, Sent, answers_to, filled, frames_of, name_of as lane_name}
use Rattle.sn_command_finish.proofs.LaneLemmas.{maps_same}
use Rattle.sn_plan_fit.specs.Fits.{AreEntriesOf}
use Rattle.sn_refine.specs.Steps.{Set}
use Rattle.sn_report.specs.Items.{Frame}
use Rattle.sn_report.specs.declared.frame.Frame.TheVariants.{Row, End}
use Rattle.sn_report.specs.Items.{Item}
use Rattle.sn_report.specs.Frames.{IsFrame, lane_of as lane_in}
use Rattle.sn_command_run.specs.Planned.{Planned}
use Rattle.sn_types.specs.declared.answers.Answers.{Answers}
use Rattle.sn_types.specs.declared.answers.Part.{Part}
use Rattle.sn_types.specs.declared.typed_query.TypedQuery.{TypedQuery}
use Rattle.sn_types.specs.Typed.{HasWidths, IsTyped}
use Rattle.sn_command_emit.specs.Sent.{frames_at, frames_after, kept_of, packet_frames, reads_out, sends_at, window_frames}
use Rattle.sn_top_laws.proofs.FrameLemmas.{IsGood, all_good, no_fault, row_is_frame}
use Rattle.sn_top_laws.proofs.NameLemmas.{AreOf, all_at, all_flat, each_among, frames_both, frames_flat, known_names, lane_among}
use Rattle.sn_top_laws.proofs.PipeLemmas.{items_are}
use Rattle.sn_types.proofs.Known.{all_parts}

-- ---- lists

pub flat_agree : {X Y : Type 0} (f g : X → List Y) → ((x : X) → f x ≡ g x) → (xs : List X) → flat_map f xs ≡ flat_map g xs
flat_agree f g same [] = refl
flat_agree f g same (x ∷ xs) = ap (λ ys. ys ++ flat_map f xs) (same x) ∙ ap (λ ys. g x ++ ys) (flat_agree f g same xs)

map_flat : {X : Type 0} (f : X → List Item) (g : Item → Frame) (xs : List X) → flat_map (λ x. map g (f x)) xs ≡ map g (flat_map f xs)
map_flat f g [] = refl
map_flat f g (x ∷ xs) = ap (λ ys. map g (f x) ++ ys) (map_flat f g xs) ∙ sym (map-append g (f x) (flat_map f xs))

all_turned : {X Y : Type 0} (P : X → Y → Type 0) (xs : List X) (ys : List Y) → AllByRecursion (λ y. AllByRecursion (λ x. P x y) xs) ys → AllByRecursion (λ x. AllByRecursion (λ y. P x y) ys) xs
all_turned P [] ys h = tt
all_turned P (x ∷ xs) ys h = (
  all_weaker (λ y. P x y × AllByRecursion (λ z. P z y) xs) (λ y. P x y) (λ y both. both.0) ys h,
  all_turned P xs ys (all_weaker (λ y. P x y × AllByRecursion (λ z. P z y) xs) (λ y. AllByRecursion (λ z. P z y) xs) (λ y both. both.1) ys h),
)

-- ---- frames and their items

abbrev pub rows_in : List Frame → List Item
rows_in [] = []
rows_in (Row lane item ∷ fs) = item ∷ rows_in fs
rows_in (End lane window ∷ fs) = rows_in fs

rows_back : (n : Lane) (w : ℕ) (items : List Item) → rows_in (map (row_frame n) items ++ End n w ∷ []) ≡ items
rows_back n w [] = refl
rows_back n w (item ∷ items) = ap (λ is. item ∷ is) (rows_back n w items)

rows_own : (n : Lane) (items : List Item) → AreOf n (map (row_frame n) items)
rows_own n [] = tt
rows_own n (item ∷ items) = (refl, rows_own n items)

-- ---- what an engine keeps

-- what is left of lanes at the end of a window, where an engine keeps the prefixes that they admitted
left_at_end : (queries : List TypedQuery) (tables : Tables) (kept : Source → Set) (tuples : List (List ℕ)) (w : ℕ) (closed : Option ℕ) (sets : List Set) (xs : List Placed) → AreKept xs kept (kept_for closed sets w)
    → all_left queries (kept_for closed sets w) (map (done queries tables kept tuples w) xs) ≡ map (left_done queries tables kept tuples w) xs
left_at_end queries tables kept tuples w closed sets [] h = refl
left_at_end queries tables kept tuples w closed sets (x ∷ xs) h = lanes_are_left queries tables kept tuples w closed sets (x ∷ xs) h

kept_of_lanes : (queries : List TypedQuery) (tables : Tables) (kept : Source → Set) (tuples : List (List ℕ)) (w : ℕ) (parts : List Part) (xs : List Placed)
    → gathered queries parts (map intake_of xs) ≡ gathered queries parts (map (done queries tables kept tuples w) xs)
kept_of_lanes queries tables kept tuples w parts [] = refl
kept_of_lanes queries tables kept tuples w parts (x ∷ xs) = ap (λ (sets : List Set). prefixes_for queries parts (intake_of x) ∷ sets) (kept_of_lanes queries tables kept tuples w parts xs)

-- what it keeps of the answers of a window is what the lanes of the next one admit
pub kept_next : (queries : List TypedQuery) (tables : Tables) (kept : Source → Set) (tuples : List (List ℕ)) (w : ℕ) (answers : Answers) (xs : List Placed) → answers.window ≡ w
    → Recalls queries xs (Some answers) (Some w) (gathered queries answers.parts (map intake_of xs))
kept_next queries tables kept tuples w answers [] is = λ v j x at. absurd (none_some at)
kept_next queries tables kept tuples w answers (x ∷ xs) is =
    recalls_next queries tables kept tuples w (x ∷ xs) answers (Some w) (gathered queries answers.parts (map intake_of (x ∷ xs))) is refl (kept_of_lanes queries tables kept tuples w answers.parts (x ∷ xs))

-- ---- the frames of a window

-- what the lanes send in a window
abbrev pub sent_of : Planned → List Window → Window → Sent
sent_of p windows w = record { window = w.0; items = λ l. rows_in (frames_of l (window_frames p windows w.0 w.1)); frames = window_frames p windows w.0 w.1 }

module _ (typed_for : ℕ) (p : Planned) (t : ∥ IsTyped typed_for p.queries ∥₁) (entries : AreEntriesOf p.queries p.entries) (can : AllByRecursion (CanMake p.queries) (pieces_from 0 p.entries)) where
  abbrev pieces : List Placed
  pieces = pieces_from 0 p.entries

  abbrev lanes : List Intake
  lanes = intakes_of 0 p.entries

  module _ (windows : List Window) (w : ℕ) (tuples : List (List ℕ)) (widths : AllByRecursion HasWidths tuples) (kept : Source → Set) (same : AllByRecursion (λ (x : Placed). kept (source_of x) ≡ kept_of p.queries windows w x) pieces) where
    abbrev known : Placed → Set
    known = kept_of p.queries windows w

    abbrev frames : List Frame
    frames = window_frames p windows w tuples

    abbrev items_in : Placed → List Item
    items_in x = items_of p.queries p.tables x (kept (source_of x)) tuples

    abbrev numbers : List ℕ
    numbers = range_with_len 0 (length tuples)

    at_own : (n : ℕ) (y : Placed) → AreOf (name_of y) (frames_at p.queries p.tables known tuples n y)
    at_own n y = rows_own (name_of y) (sends_at p.queries p.tables y (known y) tuples n)

    after_own : (y : Placed) → AreOf (name_of y) (frames_after p.queries p.tables known tuples w y)
    after_own y =
        all_append (λ (f : Frame). lane_in f ≡ name_of y) (map (row_frame (name_of y)) (reads_out p.queries p.tables y (known y) tuples)) (End (name_of y) w ∷ [])
        (rows_own (name_of y) (reads_out p.queries p.tables y (known y) tuples)) (refl, tt)

    -- the items of a piece, as they are sent
    sent_items : (x : Placed) → CanMake p.queries x → kept (source_of x) ≡ known x
        → flat_map (sends_at p.queries p.tables x (known x) tuples) numbers ++ reads_out p.queries p.tables x (known x) tuples ≡ items_in x
    sent_items x mine e = items_are typed_for p.queries p.tables x (known x) t mine tuples widths ∙ ap (λ (k : Set). items_of p.queries p.tables x k tuples) (sym e)

    -- among the frames of all lanes stand those of the items of a piece, and one End
    lane_frames : (b : List Placed) (x : Placed) (a : List Placed) → b ++ x ∷ a ≡ pieces → CanMake p.queries x → kept (source_of x) ≡ known x
        → frames_of (intake_of x) frames ≡ map (row_frame (name_of x)) (items_in x) ++ End (name_of x) w ∷ []
    lane_frames b x a e mine is =
        let l : Intake = intake_of x in
        let apart = pieces_apart p.queries 0 p.entries entries in
        let name : Lane = name_of x in
        let sends : ℕ → List Item = sends_at p.queries p.tables x (known x) tuples in
        let reads : List Item = reads_out p.queries p.tables x (known x) tuples in
        let end : List Frame = End name w ∷ [] in
        frames_both l (flat_map (packet_frames p known tuples) numbers) (flat_map (frames_after p.queries p.tables known tuples w) pieces)
        ∙ ap (λ (fs : List Frame). fs ++ frames_of l (flat_map (frames_after p.queries p.tables known tuples w) pieces))
        (frames_flat l (packet_frames p known tuples) numbers
        ∙ flat_agree (λ n. frames_of l (packet_frames p known tuples n)) (λ n. map (row_frame name) (sends n)) (λ n. lane_among (frames_at p.queries p.tables known tuples n) (at_own n) pieces x b a e apart) numbers
        ∙ map_flat sends (row_frame name) numbers)
        ∙ ap (λ (fs : List Frame). map (row_frame name) (flat_map sends numbers) ++ fs) (lane_among (frames_after p.queries p.tables known tuples w) after_own pieces x b a e apart)
        ∙ sym (append_assoc (map (row_frame name) (flat_map sends numbers)) (map (row_frame name) reads) end)
        ∙ ap (λ (fs : List Frame). fs ++ end) (sym (map-append (row_frame name) (flat_map sends numbers) reads))
        ∙ ap (λ (is : List Item). map (row_frame name) is ++ end) (sent_items x mine is)

    -- what is said of each piece
    record IsSentBy (x : Placed) : Type 0 where
      mine : CanMake p.queries x
      admits : kept (source_of x) ≡ known x
      stands : frames_of (intake_of x) frames ≡ map (row_frame (name_of x)) (items_in x) ++ End (name_of x) w ∷ []
      items : rows_in (frames_of (intake_of x) frames) ≡ items_in x
      good : AllByRecursion (IsGood p.queries x) (items_in x)

    sent_by : (b : List Placed) (x : Placed) (a : List Placed) → b ++ x ∷ a ≡ pieces → IsSentBy x
    sent_by b x a e =
        let mine : CanMake p.queries x = all_at (CanMake p.queries) b x a (subst (AllByRecursion (CanMake p.queries)) (sym e) can) in
        let is : kept (source_of x) ≡ known x = all_at (λ (y : Placed). kept (source_of y) ≡ known y) b x a (subst (AllByRecursion (λ (y : Placed). kept (source_of y) ≡ known y)) (sym e) same) in
        let stands = lane_frames b x a e mine is in
        record {
          mine = mine;
          admits = is;
          stands = stands;
          items = ap rows_in stands ∙ rows_back (name_of x) w (items_in x);
          good = all_good typed_for p.queries x t mine p.tables kept tuples widths;
        }

    all_sent : AllByRecursion IsSentBy pieces
    all_sent = each_among IsSentBy pieces sent_by

    abbrev sent : Sent
    sent = sent_of p windows (w, tuples)

    -- what holds of the lanes of all pieces holds of the engine's
    of_lanes : (P : Intake → Type 0) → AllByRecursion (λ (x : Placed). P (intake_of x)) pieces → AllByRecursion P lanes
    of_lanes P h = subst (AllByRecursion P) (sym (intakes_are 0 p.entries)) (all_map P intake_of pieces h)

    pub is_window : IsWindow p.queries lanes sent
    is_window = record {
      each = of_lanes (λ l. frames_of l frames ≡ map (Row (lane_name l)) (rows_in (frames_of l frames)) ++ End (lane_name l) w ∷ [])
          (all_weaker IsSentBy (λ (x : Placed). frames_of (intake_of x) frames ≡ map (row_frame (name_of x)) (rows_in (frames_of (intake_of x) frames)) ++ End (name_of x) w ∷ [])
          (λ x s. s.stands ∙ ap (λ (is : List Item). map (row_frame (name_of x)) is ++ End (name_of x) w ∷ []) (sym s.items)) pieces all_sent);
      known = all_append HasLane (flat_map (packet_frames p known tuples) numbers) (flat_map (frames_after p.queries p.tables known tuples w) pieces)
          (all_flat HasLane (packet_frames p known tuples) numbers (each_number (λ n. AllByRecursion HasLane (packet_frames p known tuples n)) (λ n. has_lanes (frames_at p.queries p.tables known tuples n) (at_own n)) numbers))
          (has_lanes (frames_after p.queries p.tables known tuples w) after_own);
      lawful = of_lanes (λ l. AllByRecursion (λ item. row_fault p.queries l item ≡ None) (rows_in (frames_of l frames)))
          (all_weaker IsSentBy (λ (x : Placed). AllByRecursion (λ item. row_fault p.queries (intake_of x) item ≡ None) (rows_in (frames_of (intake_of x) frames)))
          (λ x s. subst (AllByRecursion (λ item. row_fault p.queries (intake_of x) item ≡ None)) (sym s.items)
          (all_weaker (IsGood p.queries x) (λ item. row_fault p.queries (intake_of x) item ≡ None) (no_fault typed_for p.queries x t s.mine) (items_in x) s.good)) pieces all_sent);
    }
      where
        HasLane : Frame → Type 0
        HasLane f = list_any (is_lane (lane_in f)) lanes ≡ true

        named : AllByRecursion (λ (x : Placed). list_any (is_lane (name_of x)) lanes ≡ true) pieces
        named = subst (λ ls. AllByRecursion (λ (x : Placed). list_any (is_lane (name_of x)) ls ≡ true) pieces) (sym (intakes_are 0 p.entries)) (known_names pieces)

        has_lanes : (g : Placed → List Frame) → ((y : Placed) → AreOf (name_of y) (g y)) → AllByRecursion HasLane (flat_map g pieces)
        has_lanes g own =
            all_flat HasLane g pieces
            (all_weaker (λ (x : Placed). list_any (is_lane (name_of x)) lanes ≡ true) (λ (x : Placed). AllByRecursion HasLane (g x))
            (λ x is. all_weaker (λ (f : Frame). lane_in f ≡ name_of x) HasLane (λ f e. ap (λ (n : Lane). list_any (is_lane n) lanes) e ∙ is) (g x) (own x)) pieces named)

        each_number : (P : ℕ → Type 0) → ((n : ℕ) → P n) → (ns : List ℕ) → AllByRecursion P ns
        each_number P h [] = tt
        each_number P h (n ∷ ns) = (h n, each_number P h ns)

    -- they have bytes
    pub are_frames : w < 2 ^ 64 → AllByRecursion (IsFrame 2) frames
    are_frames few =
        all_append (IsFrame 2) (flat_map (packet_frames p known tuples) numbers) (flat_map (frames_after p.queries p.tables known tuples w) pieces)
        (all_flat (IsFrame 2) (packet_frames p known tuples) numbers
        (all_weaker (λ n. AllByRecursion (λ (x : Placed). AllByRecursion (IsFrame 2) (frames_at p.queries p.tables known tuples n x)) pieces) (λ n. AllByRecursion (IsFrame 2) (packet_frames p known tuples n))
        (λ n h. all_flat (IsFrame 2) (frames_at p.queries p.tables known tuples n) pieces h) numbers
        (all_turned (λ n (x : Placed). AllByRecursion (IsFrame 2) (frames_at p.queries p.tables known tuples n x)) numbers pieces (all_weaker IsSentBy (λ (x : Placed). AllByRecursion (λ n. AllByRecursion (IsFrame 2) (frames_at p.queries p.tables known tuples n x)) numbers) at_packets pieces all_sent))))
        (all_flat (IsFrame 2) (frames_after p.queries p.tables known tuples w) pieces (all_weaker IsSentBy (λ (x : Placed). AllByRecursion (IsFrame 2) (frames_after p.queries p.tables known tuples w x)) after_packets pieces all_sent))
      where
        good_parts : (x : Placed) (s : IsSentBy x) → AllByRecursion (IsGood p.queries x) (flat_map (sends_at p.queries p.tables x (known x) tuples) numbers ++ reads_out p.queries p.tables x (known x) tuples)
        good_parts x s = subst (AllByRecursion (IsGood p.queries x)) (sym (sent_items x s.mine s.admits)) s.good

        frames_are : (x : Placed) (s : IsSentBy x) (items : List Item) → AllByRecursion (IsGood p.queries x) items → AllByRecursion (IsFrame 2) (map (row_frame (name_of x)) items)
        frames_are x s items h = all_map (IsFrame 2) (row_frame (name_of x)) items (all_weaker (IsGood p.queries x) (λ item. IsFrame 2 (row_frame (name_of x) item)) (row_is_frame typed_for p.queries x t s.mine) items h)

        at_packets : (x : Placed) → IsSentBy x → AllByRecursion (λ n. AllByRecursion (IsFrame 2) (frames_at p.queries p.tables known tuples n x)) numbers
        at_packets x s =
            let sends : ℕ → List Item = sends_at p.queries p.tables x (known x) tuples in
            all_weaker (λ n. AllByRecursion (IsGood p.queries x) (sends n)) (λ n. AllByRecursion (IsFrame 2) (frames_at p.queries p.tables known tuples n x)) (λ n h. frames_are x s (sends n) h) numbers
            (all_parts (IsGood p.queries x) sends numbers (all_front (IsGood p.queries x) (flat_map sends numbers) (reads_out p.queries p.tables x (known x) tuples) (good_parts x s)))

        after_packets : (x : Placed) → IsSentBy x → AllByRecursion (IsFrame 2) (frames_after p.queries p.tables known tuples w x)
        after_packets x s =
            let reads : List Item = reads_out p.queries p.tables x (known x) tuples in
            let none : 0 ≤ 12 = omega arith in
            all_append (IsFrame 2) (map (row_frame (name_of x)) reads) (End (name_of x) w ∷ [])
            (frames_are x s reads (all_rest (IsGood p.queries x) (flat_map (sends_at p.queries p.tables x (known x) tuples) numbers) reads (good_parts x s)))
            (record { some_version = omega arith; most_version = omega arith; query = s.mine.few; level = s.mine.short; branch = s.mine.sides; operator = none; content = few }, tt)

    -- the engine answers them as the driver does, where it keeps what the lanes admitted
    abbrev at_end : List Intake
    at_end = map (done p.queries p.tables kept tuples w) pieces

    filled_is : map (filled sent) lanes ≡ at_end
    filled_is =
        ap (map (filled sent)) (intakes_are 0 p.entries)
        ∙ map_both intake_of (filled sent) pieces
        ∙ maps_same (λ (x : Placed). filled sent (intake_of x)) (done p.queries p.tables kept tuples w) pieces
        (all_weaker IsSentBy (λ (x : Placed). filled sent (intake_of x) ≡ done p.queries p.tables kept tuples w x) (λ x s. ap (λ (is : List Item). record (intake_of x) { items = is; end = Some w }) s.items) pieces all_sent)

    pub answers_are : (closed : Option ℕ) (sets : List Set) → AreKept pieces kept (kept_for closed sets w)
        → answers_to p.queries (kept_for closed sets w) lanes sent ≡ window_answers p.queries p.tables p.entries kept w tuples
    answers_are closed sets kept_so =
        let admitted : List Set = kept_for closed sets w in
        ap (λ (ls : List Intake). made (total ls) (parts_of p.queries (all_left p.queries admitted ls))) filled_is
        ∙ ap (λ n. made n (parts_of p.queries (all_left p.queries admitted at_end))) (answered_count typed_for p.tables w p.queries p.entries kept tuples t entries can widths)
        ∙ ap (made _)
        (ap (parts_of p.queries) (left_at_end p.queries p.tables kept tuples w closed sets pieces kept_so) ∙ answered_parts typed_for p.tables w p.queries p.entries kept tuples t entries can widths)
      where
        made : ℕ → List Part → Answers
        made emitted parts = record { window = w; emitted = emitted; parts = parts }
