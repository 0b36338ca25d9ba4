-- The lanes of a plan are of the branches of the queries, and so are the items that are found for a side.
use Rattle.std.proofs.Common.{◌≡◌, ℕ, suc, ◌+◌, ◌<◌, ◌≤◌, ◌==◌, ◌^◌, List, [], ◌∷◌, ◌++◌, map, length, sum_by, take, drop, Bool, true, false, cond, not, is_some, Option, None, Some, refl, ap, sym, ◌∙◌, subst, arith, length-append, append-nil, lit<}
use Rattle.std.specs.List.{AllByRecursion, find}
use Rattle.std.specs.Option.{option_map_or}
use Rattle.std.proofs.lemmas.List.{length-map, drop_all, take_all}
use Rattle.std.proofs.lemmas.List.Sums.{sum_by-cons}
use Rattle.sn_base.proofs.Lists.{all_append, all_map, all_weaker, nat_same, all_unmap, find_is as found_passes}
use Rattle.sn_base.specs.declared.lane.Lane.{Lane}
use Rattle.sn_plan_grammar.specs.declared.plan.Entry.{Entry}
use Rattle.sn_plan_grammar.specs.declared.plan.Piece.{Piece}
use Rattle.sn_report.specs.Items.{Item}
use Rattle.sn_engine_split.specs.Branches.{IsItemOf, tag_columns}
use Rattle.sn_types.specs.declared.typed_query.TypedBranch.{TypedBranch}
use Rattle.sn_types.specs.declared.typed_query.TypedQuery.{TypedQuery}
use Rattle.sn_types.specs.Typed.{IsTyped, query_at, branch_at}
use Rattle.sn_plan_fit.specs.Fits.{AreEntriesOf, IsEntryOf, HasShape}
use Rattle.sn_plan_fit.proofs.Bounds.{few_in_all}
use Rattle.sn_plan_fit.specs.Paths.{Place, piece_place, level_places, places}
use Rattle.sn_engine.specs.declared.intake.Intake.{Intake}
use Rattle.sn_engine.specs.Intakes.{intake_for, intakes_of, is_lane, items_at, with_item, with_end, emptied, shared, total, IsIntake, AreIntakes}
use Rattle.sn_base.specs.Changed.{with_first}
use Rattle.sn_engine.proofs.Firsts.{all_changed, all_found, all_kept, sum_changed, sum_cons}
use Rattle.sn_engine.proofs.Columns.{columns_of}
use Rattle.sn_engine.specs.Taking.{has_columns, is_tag_on, row_fault, take_fault}
use Rattle.sn_engine.specs.declared.fault.TakeFault.{TakeFault}
use Rattle.sn_engine.specs.declared.fault.TakeFault.TheVariants.{Stranger, Width, AfterEnd}
use Rattle.sn_report.specs.declared.frame.Frame.TheVariants as frames
use Rattle.sn_base.proofs.Tests.{three_parts}
use Rattle.sn_engine.proofs.Ends.{none_some}

-- ---- items of a side

lane_items : (queries : List TypedQuery) (lane : Lane) (x : Intake) → is_lane lane x ≡ true → IsIntake queries x → AllByRecursion (IsItemOf (branch_at queries lane.query lane.branch)) x.items
lane_items queries lane x is h =
    let parts = three_parts (lane.query == x.query) (lane.level == x.place) (lane.branch == x.branch) is in
    subst (λ (n : ℕ). AllByRecursion (IsItemOf (branch_at queries n lane.branch)) x.items) (sym (nat_same lane.query x.query parts.0))
    (subst (λ (n : ℕ). AllByRecursion (IsItemOf (branch_at queries x.query n)) x.items) (sym (nat_same lane.branch x.branch parts.2)) h.each)

pub items_at_of : (queries : List TypedQuery) (lanes : List Intake) (lane : Lane) → AreIntakes queries lanes → AllByRecursion (IsItemOf (branch_at queries lane.query lane.branch)) (items_at lanes lane)
items_at_of queries lanes lane h = by_found (find (is_lane lane) lanes) refl
  where
    by_found : (o : Option Intake) → find (is_lane lane) lanes ≡ o → AllByRecursion (IsItemOf (branch_at queries lane.query lane.branch)) (option_map_or (λ (x : Intake). x.items) o [])
    by_found None found = tt
    by_found (Some x) found = lane_items queries lane x (found_passes (is_lane lane) lanes x found) (all_found (IsIntake queries) (is_lane lane) lanes x found h)

-- ---- the pieces of an entry

abbrev Within : ℕ → Place → Type 0
Within count place = place.1 < count

level_within : (level n count : ℕ) (branches : List TypedBranch) → n + length branches ≤ count → AllByRecursion (Within count) (level_places level n branches)
level_within level n count [] le = tt
level_within level n count (b ∷ branches) le = (omega arith, level_within level (n + 1) count branches (omega arith))

places_within : (branches : List TypedBranch) (path : List ℕ) → AllByRecursion (Within (length branches)) (places branches path)
places_within branches [] = tt
places_within branches (level ∷ path) =
    all_append (Within (length branches)) (level_places level 0 branches) (places branches path) (level_within level 0 (length branches) branches (omega arith)) (places_within branches path)

pieces_within : (q : TypedQuery) (e : Entry) → IsEntryOf q e → AllByRecursion (λ (p : Piece). p.branch < length q.branches) e.pieces
pieces_within q e h = all_unmap (Within (length q.branches)) piece_place e.pieces (subst (AllByRecursion (Within (length q.branches))) (sym h.pieces) (places_within q.branches e.levels))

-- ---- the lanes of a plan

sound_from : (queries rest : List TypedQuery) (n : ℕ) (es : List Entry) → ((j : ℕ) → query_at queries (n + j) ≡ query_at rest j) → n + length rest ≡ length queries → AreEntriesOf rest es → AreIntakes queries (intakes_of n es)
sound_from queries [] n [] same count h = tt
sound_from queries [] n (e ∷ es) same count h = absurd h
sound_from queries (q ∷ rest) n [] same count h = absurd h
sound_from queries (q ∷ rest) n (e ∷ es) same count h =
    let here : query_at queries n ≡ q = ap (query_at queries) add_none ∙ same 0 in
    let intake : Piece → Intake = intake_for n e.levels in
    all_append (IsIntake queries) (map intake e.pieces) (intakes_of (n + 1) es)
    (all_map (IsIntake queries) intake e.pieces
    (all_weaker (λ (p : Piece). p.branch < length q.branches) (λ (p : Piece). IsIntake queries (intake p))
    (λ p within. record { query = some_query; branch = subst (λ (x : TypedQuery). p.branch < length x.branches) (sym here) within; each = tt }) e.pieces (pieces_within q e h.0)))
    (sound_from queries rest (n + 1) es (λ j. ap (query_at queries) (moved j) ∙ same (suc j)) (omega arith) h.1)
  where
    add_none : n ≡ n + 0
    add_none = omega arith

    moved : (j : ℕ) → n + 1 + j ≡ n + suc j
    moved j = omega arith

    some_query : n < length queries
    some_query = omega arith

pub lanes_are_sound : (queries : List TypedQuery) (es : List Entry) → HasShape queries es → AreIntakes queries (intakes_of 0 es)
lanes_are_sound queries es h = sound_from queries queries 0 es (λ j. ap (query_at queries) (none_before j)) none_more h.paths
  where
    none_before : (j : ℕ) → 0 + j ≡ j
    none_before j = omega arith

    none_more : 0 + length queries ≡ length queries
    none_more = omega arith

pub as_many_entries : (queries : List TypedQuery) (es : List Entry) → AreEntriesOf queries es → length es ≡ length queries
as_many_entries [] [] h = refl
as_many_entries [] (e ∷ es) h = absurd h
as_many_entries (q ∷ queries) [] h = absurd h
as_many_entries (q ∷ queries) (e ∷ es) h = ap suc (as_many_entries queries es h.1)

pieces_in : (n : ℕ) (es : List Entry) → length (intakes_of n es) ≡ sum_by (λ e. length e.pieces) es
pieces_in n [] = refl
pieces_in n (e ∷ es) =
    let whole = length-append (map (intake_for n e.levels) e.pieces) (intakes_of (n + 1) es) in
    let front = length-map e.pieces (intake_for n e.levels) in
    let rest = pieces_in (n + 1) es in
    let both = sum_by-cons (λ (x : Entry). length x.pieces) e es in
    omega (arith, whole, front, rest, both)

-- a lane's number fits `Unfinished`
pub few_lanes : (window : ℕ) (queries : List TypedQuery) (es : List Entry) → ∥ IsTyped window queries ∥₁ → AreEntriesOf queries es → length (intakes_of 0 es) < 2 ^ 32
few_lanes window queries es t h =
    let most = few_in_all window queries es t h in
    let is = pieces_in 0 es in
    let low : 2064 < 2 ^ 32 = lit< tt in
    omega (arith, most, is, low)

-- ---- lanes of which nothing has come

none_sum : (lanes : List Intake) → AllByRecursion (λ (x : Intake). length x.items ≡ 0) lanes → total lanes ≡ 0
none_sum [] h = refl
none_sum (x ∷ lanes) h = let front = h.0 in let rest = none_sum lanes h.1 in let both = sum_cons (λ (y : Intake). length y.items) x lanes in omega (arith, front, rest, both)

none_in : (q : ℕ) (path : List ℕ) (pieces : List Piece) → AllByRecursion (λ (x : Intake). length x.items ≡ 0) (map (intake_for q path) pieces)
none_in q path [] = tt
none_in q path (p ∷ pieces) = (refl, none_in q path pieces)

none_of : (q : ℕ) (es : List Entry) → AllByRecursion (λ (x : Intake). length x.items ≡ 0) (intakes_of q es)
none_of q [] = tt
none_of q (e ∷ es) = all_append (λ (x : Intake). length x.items ≡ 0) (map (intake_for q e.levels) e.pieces) (intakes_of (q + 1) es) (none_in q e.levels e.pieces) (none_of (q + 1) es)

pub nothing_came : (es : List Entry) → total (intakes_of 0 es) ≡ 0
nothing_came es = none_sum (intakes_of 0 es) (none_of 0 es)

pub emptied_sound : (queries : List TypedQuery) (lanes : List Intake) → AreIntakes queries lanes → AreIntakes queries (map emptied lanes)
emptied_sound queries [] h = tt
emptied_sound queries (x ∷ lanes) h = (record { query = h.0.query; branch = h.0.branch; each = tt }, emptied_sound queries lanes h.1)

pub emptied_none : (lanes : List Intake) → total (map emptied lanes) ≡ 0
emptied_none [] = refl
emptied_none (x ∷ lanes) = let rest = emptied_none lanes in let both = sum_cons (λ (y : Intake). length y.items) (emptied x) (map emptied lanes) in omega (arith, rest, both)

pub shared_sound : (queries : List TypedQuery) (lanes : List Intake) → AreIntakes queries lanes → AreIntakes queries (map shared lanes)
shared_sound queries [] h = tt
shared_sound queries (x ∷ lanes) h = (record { query = h.0.query; branch = h.0.branch; each = h.0.each }, shared_sound queries lanes h.1)

pub shared_same : (lanes : List Intake) → total (map shared lanes) ≡ total lanes
shared_same [] = refl
shared_same (x ∷ lanes) =
    sum_cons (λ (y : Intake). length y.items) (shared x) (map shared lanes) ∙ ap (λ n. length x.items + n) (shared_same lanes)
    ∙ sym (sum_cons (λ (y : Intake). length y.items) x lanes)

-- all items of a vector, changed in place
pub whole : {X : Type 0} (n : ℕ) (xs ys : List X) → length xs ≡ length ys → n ≡ length ys → take n (xs ++ drop (length xs) ys) ≡ xs
whole n xs ys same long =
    ap (λ zs. take n (xs ++ zs)) (drop_all (length xs) ys (omega (arith, same))) ∙ ap (take n) (append-nil xs) ∙ take_all n xs (omega (arith, same, long))

pub whole_again : (change : Intake → Intake) (lanes : List Intake) (n : ℕ) → n ≡ length lanes → take n (map change lanes ++ drop (length (map change lanes)) lanes) ≡ map change lanes
whole_again change lanes n count = whole n (map change lanes) lanes (length-map lanes change) count

-- ---- lanes after a frame that is taken

width_of : (a b : Bool) (rest : Option TakeFault) → cond (not a) (Some Stranger) (cond (not b) (Some Width) rest) ≡ None → b ≡ true
width_of true true rest e = refl
width_of true false rest e = absurd (none_some e)
width_of false b rest e = absurd (none_some e)

-- a lane that takes an item has its columns
pub takes_item : (queries : List TypedQuery) (x : Intake) (item : Item) → row_fault queries x item ≡ None → IsItemOf (branch_at queries x.query x.branch) item
takes_item queries x item none =
    let b = branch_at queries x.query x.branch in
    columns_of (tag_columns b.schemas item.tag) item.row
    (width_of (is_tag_on x.shared b.ops x.cut item.tag) (has_columns (tag_columns b.schemas item.tag) item.row) (cond (is_some x.end) (Some AfterEnd) None) none)

pub record Taker (queries : List TypedQuery) (lanes : List Intake) (lane : Lane) (item : Item) : Type 0 where
  pub x : Intake
  pub found : find (is_lane lane) lanes ≡ Some x
  pub takes : row_fault queries x item ≡ None

pub taker : (queries : List TypedQuery) (lanes : List Intake) (closed : Option ℕ) (lane : Lane) (item : Item) → take_fault queries lanes closed (frames.Row lane item) ≡ None → Taker queries lanes lane item
taker queries lanes closed lane item none = by_found (find (is_lane lane) lanes) refl none
  where
    by_found : (o : Option Intake) → find (is_lane lane) lanes ≡ o → option_map_or (λ (x : Intake). row_fault queries x item) o (Some Stranger) ≡ None → Taker queries lanes lane item
    by_found None found e = absurd (none_some e)
    by_found (Some x) found e = record { x = x; found = found; takes = e }

pub item_sound : (queries : List TypedQuery) (lanes : List Intake) (closed : Option ℕ) (lane : Lane) (item : Item) → take_fault queries lanes closed (frames.Row lane item) ≡ None → AreIntakes queries lanes → AreIntakes queries (with_first (is_lane lane) (with_item item) lanes)
item_sound queries lanes closed lane item none h =
    let t = taker queries lanes closed lane item none in
    all_changed (IsIntake queries) (is_lane lane) (with_item item) lanes t.x t.found
    (λ s. record { query = s.query; branch = s.branch; each = all_append (IsItemOf (branch_at queries t.x.query t.x.branch)) t.x.items (item ∷ []) s.each (takes_item queries t.x item t.takes, tt) }) h

pub item_counted : (queries : List TypedQuery) (lanes : List Intake) (closed : Option ℕ) (lane : Lane) (item : Item) → take_fault queries lanes closed (frames.Row lane item) ≡ None → total (with_first (is_lane lane) (with_item item) lanes) ≡ total lanes + 1
item_counted queries lanes closed lane item none =
    let t = taker queries lanes closed lane item none in
    sum_changed (λ (x : Intake). length x.items) (is_lane lane) (with_item item) 1 (λ x. length-append x.items (item ∷ [])) lanes t.x t.found

pub end_sound : (queries : List TypedQuery) (lanes : List Intake) (lane : Lane) (window : ℕ) → AreIntakes queries lanes → AreIntakes queries (with_first (is_lane lane) (with_end window) lanes)
end_sound queries lanes lane window h = all_kept (IsIntake queries) (is_lane lane) (with_end window) (λ x s. record { query = s.query; branch = s.branch; each = s.each }) lanes h
