-- The order of frames is free: equal bags of frames leave lanes that are alike, and these have equal answers.
use Rattle.std.proofs.Common.{◌≡◌, ℕ, suc, ◌==◌, List, [], ◌∷◌, ◌++◌, map, filter, fold, length, Bool, true, false, ◌&&◌, cond, Option, Some, refl, ap, sym, ◌∙◌, subst, append_assoc, arith}
use Rattle.std.specs.List.{AllByRecursion, find}
use Rattle.std.specs.Option.{option_map_or}
use Rattle.sn_base.specs.Bags.{SameBag}
use Rattle.sn_base.specs.Bags.SameBag.{stays, following, turned, joined}
use Rattle.sn_base.specs.declared.lane.Lane.{Lane}
use Rattle.sn_base.proofs.BagLemmas.{bag_after, bag_before, bag_same, bag_then}
use Rattle.sn_base.specs.Groups.{Row as Numbers}
use Rattle.sn_base.proofs.Lists.{by_test, nat_same}
use Rattle.sn_base.specs.Sorted.{sorted_rows}
use Rattle.sn_report.specs.Items.{Frame}
use Rattle.sn_report.specs.declared.frame.Frame.TheVariants.{Row, End}
use Rattle.sn_report.specs.Items.{Item}
use Rattle.sn_engine_split.specs.Branches.{IsItemOf, query_value}
use Rattle.sn_engine_split.proofs.Queries.{value_bags}
use Rattle.sn_types.specs.declared.answers.Part.{Part}
use Rattle.sn_types.specs.declared.typed_query.TypedQuery.{TypedQuery}
use Rattle.sn_types.specs.Typed.{IsTyped, branch_at, query_at}
use Rattle.sn_engine.specs.declared.intake.Intake.{Intake}
use Rattle.sn_engine.specs.Answers.{part_of, parts_of}
use Rattle.sn_engine.specs.Intakes.{after_frame, is_lane, items_at, lane_at, total, with_end, with_item, AreIntakes, IsIntake}
use Rattle.sn_base.specs.Changed.{with_first}
use Rattle.sn_engine.proofs.Firsts.{sum_cons}
use Rattle.sn_engine.proofs.Lanes.{items_at_of}
use Rattle.std.specs.FinSet as set
use Rattle.sn_engine_split.specs.Opened.{left_in}
use Rattle.sn_engine_split.proofs.Whole.{left_bag}
use Rattle.sn_refine.specs.Steps.{Set}
use Rattle.sn_engine.specs.Keeping.{all_left, left, with_bits}
use Rattle.sn_engine.proofs.Lefts.{lefts_sound}

-- ---- lanes that are alike: of the same pieces, with equal bags of items

pub record Like (x y : Intake) : Type 0 where
  query : x.query ≡ y.query
  place : x.place ≡ y.place
  level : x.level ≡ y.level
  branch : x.branch ≡ y.branch
  before : x.before ≡ y.before
  items : SameBag x.items y.items

abbrev pub Alike : List Intake → List Intake → Type 0
Alike [] [] = Unit {0}
Alike [] (y ∷ ys) = ⊥
Alike (x ∷ xs) [] = ⊥
Alike (x ∷ xs) (y ∷ ys) = Like x y × Alike xs ys

like_self : (x : Intake) → Like x x
like_self x = record { query = refl; place = refl; level = refl; branch = refl; before = refl; items = stays x.items }

alike_self : (xs : List Intake) → Alike xs xs
alike_self [] = tt
alike_self (x ∷ xs) = (like_self x, alike_self xs)

like_then : (x y z : Intake) → Like x y → Like y z → Like x z
like_then x y z a b = record { query = a.query ∙ b.query; place = a.place ∙ b.place; level = a.level ∙ b.level; branch = a.branch ∙ b.branch; before = a.before ∙ b.before; items = bag_then a.items b.items }

alike_then : (xs ys zs : List Intake) → Alike xs ys → Alike ys zs → Alike xs zs
alike_then [] [] zs a b = b
alike_then [] (y ∷ ys) zs a b = absurd a
alike_then (x ∷ xs) [] zs a b = absurd a
alike_then (x ∷ xs) (y ∷ ys) [] a b = absurd b
alike_then (x ∷ xs) (y ∷ ys) (z ∷ zs) a b = (like_then x y z a.0 b.0, alike_then xs ys zs a.1 b.1)

like_lane : (lane : Lane) (x y : Intake) → Like x y → is_lane lane x ≡ is_lane lane y
like_lane lane x y a =
    ap (λ n. (lane.query == n) && (lane.level == x.place) && (lane.branch == x.branch)) a.query
    ∙ ap (λ n. (lane.query == y.query) && (lane.level == n) && (lane.branch == x.branch)) a.place
    ∙ ap (λ n. (lane.query == y.query) && (lane.level == y.place) && (lane.branch == n)) a.branch

-- ---- one frame

-- what a frame makes of its lane
abbrev lane_of : Frame → Lane
lane_of (Row lane item) = lane
lane_of (End lane window) = lane

abbrev changed : Frame → Intake → Intake
changed (Row lane item) x = with_item item x
changed (End lane window) x = with_end window x

after : (lanes : List Intake) (frame : Frame) → after_frame lanes frame ≡ with_first (is_lane (lane_of frame)) (changed frame) lanes
after lanes (Row lane item) = refl
after lanes (End lane window) = refl

same_lane : (lane : Lane) (frame : Frame) (x : Intake) → is_lane lane (changed frame x) ≡ is_lane lane x
same_lane lane (Row other item) x = refl
same_lane lane (End other window) x = refl

like_changed : (frame : Frame) (x y : Intake) → Like x y → Like (changed frame x) (changed frame y)
like_changed (Row lane item) x y a = record { query = a.query; place = a.place; level = a.level; branch = a.branch; before = a.before; items = bag_after (item ∷ []) x.items y.items a.items }
like_changed (End lane window) x y a = record { query = a.query; place = a.place; level = a.level; branch = a.branch; before = a.before; items = a.items }

first_alike : (frame : Frame) (xs ys : List Intake) → Alike xs ys → Alike (with_first (is_lane (lane_of frame)) (changed frame) xs) (with_first (is_lane (lane_of frame)) (changed frame) ys)
first_alike frame [] [] a = tt
first_alike frame [] (y ∷ ys) a = absurd a
first_alike frame (x ∷ xs) [] a = absurd a
first_alike frame (x ∷ xs) (y ∷ ys) a =
    let t : Intake → Bool = is_lane (lane_of frame) in
    let c : Intake → Intake = changed frame in
    subst (λ b. Alike (cond (t x) (c x ∷ xs) (x ∷ with_first t c xs)) (cond b (c y ∷ ys) (y ∷ with_first t c ys))) (like_lane (lane_of frame) x y a.0)
    (elim (t x) as (λ b. Alike (cond b (c x ∷ xs) (x ∷ with_first t c xs)) (cond b (c y ∷ ys) (y ∷ with_first t c ys))) [
      | true ↦ (like_changed frame x y a.0, a.1)
      | false ↦ (a.0, first_alike frame xs ys a.1)
    ])

frame_alike : (frame : Frame) (xs ys : List Intake) → Alike xs ys → Alike (after_frame xs frame) (after_frame ys frame)
frame_alike (Row lane item) xs ys a = first_alike (Row lane item) xs ys a
frame_alike (End lane window) xs ys a = first_alike (End lane window) xs ys a

-- ---- two frames in either order

like_swapped : (f g : Frame) (x : Intake) → Like (changed g (changed f x)) (changed f (changed g x))
like_swapped (Row l a) (Row m b) x = record {
  query = refl;
  place = refl;
  level = refl;
  branch = refl;
  before = refl;
  items = bag_then (bag_same (append_assoc x.items (a ∷ []) (b ∷ [])))
      (bag_then (bag_before x.items (a ∷ b ∷ []) (b ∷ a ∷ []) (turned a b [])) (bag_same (sym (append_assoc x.items (b ∷ []) (a ∷ [])))));
}
like_swapped (Row l a) (End m v) x = record { query = refl; place = refl; level = refl; branch = refl; before = refl; items = stays (x.items ++ a ∷ []) }
like_swapped (End l w) (Row m b) x = record { query = refl; place = refl; level = refl; branch = refl; before = refl; items = stays (x.items ++ b ∷ []) }
like_swapped (End l w) (End m v) x = record { query = refl; place = refl; level = refl; branch = refl; before = refl; items = stays x.items }

-- one frame and then the other
both : Frame → Frame → List Intake → List Intake
both f g xs = with_first (is_lane (lane_of g)) (changed g) (with_first (is_lane (lane_of f)) (changed f) xs)

here : (frame : Frame) (x : Intake) (xs : List Intake) → is_lane (lane_of frame) x ≡ true → with_first (is_lane (lane_of frame)) (changed frame) (x ∷ xs) ≡ changed frame x ∷ xs
here frame x xs is = ap (λ b. cond b (changed frame x ∷ xs) (x ∷ with_first (is_lane (lane_of frame)) (changed frame) xs)) is

later : (frame : Frame) (x : Intake) (xs : List Intake) → is_lane (lane_of frame) x ≡ false
    → with_first (is_lane (lane_of frame)) (changed frame) (x ∷ xs) ≡ x ∷ with_first (is_lane (lane_of frame)) (changed frame) xs
later frame x xs isnt = ap (λ b. cond b (changed frame x ∷ xs) (x ∷ with_first (is_lane (lane_of frame)) (changed frame) xs)) isnt

-- of the first lane, by the frames that it takes
takes_both : (f g : Frame) (x : Intake) (xs : List Intake) → is_lane (lane_of f) x ≡ true → is_lane (lane_of g) x ≡ true → both f g (x ∷ xs) ≡ changed g (changed f x) ∷ xs
unfolding both
takes_both f g x xs is also = ap (with_first (is_lane (lane_of g)) (changed g)) (here f x xs is) ∙ here g (changed f x) xs (same_lane (lane_of g) f x ∙ also)

takes_first : (f g : Frame) (x : Intake) (xs : List Intake) → is_lane (lane_of f) x ≡ true → is_lane (lane_of g) x ≡ false → both f g (x ∷ xs) ≡ changed f x ∷ with_first (is_lane (lane_of g)) (changed g) xs
unfolding both
takes_first f g x xs is isnt = ap (with_first (is_lane (lane_of g)) (changed g)) (here f x xs is) ∙ later g (changed f x) xs (same_lane (lane_of g) f x ∙ isnt)

takes_second : (f g : Frame) (x : Intake) (xs : List Intake) → is_lane (lane_of f) x ≡ false → is_lane (lane_of g) x ≡ true → both f g (x ∷ xs) ≡ changed g x ∷ with_first (is_lane (lane_of f)) (changed f) xs
unfolding both
takes_second f g x xs isnt is = ap (with_first (is_lane (lane_of g)) (changed g)) (later f x xs isnt) ∙ here g x (with_first (is_lane (lane_of f)) (changed f) xs) is

takes_none : (f g : Frame) (x : Intake) (xs : List Intake) → is_lane (lane_of f) x ≡ false → is_lane (lane_of g) x ≡ false → both f g (x ∷ xs) ≡ x ∷ both f g xs
unfolding both
takes_none f g x xs isnt nor = ap (with_first (is_lane (lane_of g)) (changed g)) (later f x xs isnt) ∙ later g x (with_first (is_lane (lane_of f)) (changed f) xs) nor

alike_is : (xs xs' ys ys' : List Intake) → xs ≡ xs' → ys ≡ ys' → Alike xs' ys' → Alike xs ys
alike_is xs xs' ys ys' e f a = subst (λ zs. Alike zs ys) (sym e) (subst (λ zs. Alike xs' zs) (sym f) a)

swapped : (f g : Frame) (xs : List Intake) → Alike (both f g xs) (both g f xs)
unfolding both
swapped f g [] = tt
swapped f g (x ∷ xs) =
    by_test (is_lane (lane_of f) x)
    (λ is. by_test (is_lane (lane_of g) x)
    (λ also. alike_is (both f g (x ∷ xs)) (changed g (changed f x) ∷ xs) (both g f (x ∷ xs)) (changed f (changed g x) ∷ xs) (takes_both f g x xs is also) (takes_both g f x xs also is) (like_swapped f g x, alike_self xs))
    (λ isnt. alike_is (both f g (x ∷ xs)) (changed f x ∷ with_first (is_lane (lane_of g)) (changed g) xs) (both g f (x ∷ xs)) (changed f x ∷ with_first (is_lane (lane_of g)) (changed g) xs)
    (takes_first f g x xs is isnt) (takes_second g f x xs isnt is) (alike_self (changed f x ∷ with_first (is_lane (lane_of g)) (changed g) xs))))
    (λ isnt. by_test (is_lane (lane_of g) x)
    (λ is. alike_is (both f g (x ∷ xs)) (changed g x ∷ with_first (is_lane (lane_of f)) (changed f) xs) (both g f (x ∷ xs)) (changed g x ∷ with_first (is_lane (lane_of f)) (changed f) xs)
    (takes_second f g x xs isnt is) (takes_first g f x xs is isnt) (alike_self (changed g x ∷ with_first (is_lane (lane_of f)) (changed f) xs)))
    (λ nor. alike_is (both f g (x ∷ xs)) (x ∷ both f g xs) (both g f (x ∷ xs)) (x ∷ both g f xs) (takes_none f g x xs isnt nor) (takes_none g f x xs nor isnt) (like_self x, swapped f g xs)))

-- ---- all frames

all_alike : (frames : List Frame) (xs ys : List Intake) → Alike xs ys → Alike (fold after_frame xs frames) (fold after_frame ys frames)
all_alike [] xs ys a = a
all_alike (f ∷ frames) xs ys a = all_alike frames (after_frame xs f) (after_frame ys f) (frame_alike f xs ys a)

after_both : (f g : Frame) (xs : List Intake) → after_frame (after_frame xs f) g ≡ both f g xs
unfolding both
after_both f g xs = after (after_frame xs f) g ∙ ap (with_first (is_lane (lane_of g)) (changed g)) (after xs f)

orders_alike : (frames others : List Frame) → SameBag frames others → (lanes : List Intake) → Alike (fold after_frame lanes frames) (fold after_frame lanes others)
orders_alike _ _ (stays xs) lanes = alike_self (fold after_frame lanes xs)
orders_alike _ _ (following f xs ys b) lanes = orders_alike xs ys b (after_frame lanes f)
orders_alike _ _ (turned f g xs) lanes =
    all_alike xs (after_frame (after_frame lanes f) g) (after_frame (after_frame lanes g) f)
    (alike_is (after_frame (after_frame lanes f) g) (both f g lanes) (after_frame (after_frame lanes g) f) (both g f lanes) (after_both f g lanes) (after_both g f lanes) (swapped f g lanes))
orders_alike _ _ (joined xs ys zs a b) lanes =
    alike_then (fold after_frame lanes xs) (fold after_frame lanes ys) (fold after_frame lanes zs) (orders_alike xs ys a lanes) (orders_alike ys zs b lanes)

-- ---- answers of lanes that are alike

items_alike : (lane : Lane) (xs ys : List Intake) → Alike xs ys → SameBag (items_at xs lane) (items_at ys lane)
items_alike lane [] [] a = stays []
items_alike lane [] (y ∷ ys) a = absurd a
items_alike lane (x ∷ xs) [] a = absurd a
items_alike lane (x ∷ xs) (y ∷ ys) a =
    let t : Intake → Bool = is_lane lane in
    let items_in : Option Intake → List Item = λ o. option_map_or (λ (z : Intake). z.items) o [] in
    subst (λ b. SameBag (items_in (cond (t x) (Some x) (find t xs))) (items_in (cond b (Some y) (find t ys)))) (like_lane lane x y a.0)
    (elim (t x) as (λ b. SameBag (items_in (cond b (Some x) (find t xs))) (items_in (cond b (Some y) (find t ys)))) [
      | true ↦ a.0.items
      | false ↦ items_alike lane xs ys a.1
    ])

bag_length : (xs ys : List Item) → SameBag xs ys → length xs ≡ length ys
bag_length _ _ (stays xs) = refl
bag_length _ _ (following x xs ys b) = ap suc (bag_length xs ys b)
bag_length _ _ (turned x y xs) = refl
bag_length _ _ (joined xs ys zs a b) = bag_length xs ys a ∙ bag_length ys zs b

total_alike : (xs ys : List Intake) → Alike xs ys → total xs ≡ total ys
total_alike [] [] a = refl
total_alike [] (y ∷ ys) a = absurd a
total_alike (x ∷ xs) [] a = absurd a
total_alike (x ∷ xs) (y ∷ ys) a =
    let left = sum_cons (λ (z : Intake). length z.items) x xs in
    let right = sum_cons (λ (z : Intake). length z.items) y ys in
    let front = bag_length x.items y.items a.0.items in
    let rest = total_alike xs ys a.1 in
    omega (arith, left, right, front, rest)

part_with : List TypedQuery → List Intake → ℕ → ℕ → ℕ → List Item → Part
part_with queries lanes q level place found =
    record { query = q; level = level; rows = sorted_rows (query_value (query_at queries q) level found (items_at lanes (lane_at q place 1))) }

part_alike : (window : ℕ) (queries : List TypedQuery) (xs ys : List Intake) (x y : Intake) → ∥ IsTyped window queries ∥₁ → AreIntakes queries xs → Alike xs ys → IsIntake queries x → Like x y → (x.branch == 0) ≡ true
    → part_of queries xs x ≡ part_of queries ys y
unfolding part_with
part_alike window queries xs ys x y t sound alike here like first =
    let right = lane_at x.query x.place 1 in
    let rows = value_bags window queries x.query x.level x.items y.items (items_at xs right) (items_at ys right) t here.query
    (subst (λ (b : ℕ). AllByRecursion (IsItemOf (branch_at queries x.query b)) x.items) (nat_same x.branch 0 first) here.each) like.items
    (items_at_of queries xs right sound) (items_alike right xs ys alike) in
    ap (one x.query x.level) rows
    ∙ ap (λ q. part_with queries ys q x.level x.place y.items) like.query
    ∙ ap (λ level. part_with queries ys y.query level x.place y.items) like.level
    ∙ ap (λ place. part_with queries ys y.query y.level place y.items) like.place
  where
    one : ℕ → ℕ → List Numbers → Part
    one q level rows = record { query = q; level = level; rows = rows }

parts_from : (window : ℕ) (queries : List TypedQuery) (xs ys us vs : List Intake) → ∥ IsTyped window queries ∥₁ → AreIntakes queries xs → Alike xs ys → AreIntakes queries us → Alike us vs
    → map (part_of queries xs) (filter (λ (x : Intake). x.branch == 0) us) ≡ map (part_of queries ys) (filter (λ (x : Intake). x.branch == 0) vs)
parts_from window queries xs ys [] [] t sound alike s a = refl
parts_from window queries xs ys [] (v ∷ vs) t sound alike s a = absurd a
parts_from window queries xs ys (u ∷ us) [] t sound alike s a = absurd a
parts_from window queries xs ys (u ∷ us) (v ∷ vs) t sound alike s a =
    let first : Intake → Bool = λ x. x.branch == 0 in
    let f : Intake → Part = part_of queries xs in
    let g : Intake → Part = part_of queries ys in
    let rest = parts_from window queries xs ys us vs t sound alike s.1 a.1 in
    let same : first u ≡ first v = ap (λ (n : ℕ). n == 0) a.0.branch in
    by_test (first u)
    (λ is. ap (λ b. map f (cond b (u ∷ filter first us) (filter first us))) is
    ∙ ap (λ p. p ∷ map f (filter first us)) (part_alike window queries xs ys u v t sound alike s.0 a.0 is) ∙ ap (λ ps. g v ∷ ps) rest
    ∙ sym (ap (λ b. map g (cond b (v ∷ filter first vs) (filter first vs))) (sym same ∙ is)))
    (λ isnt. ap (λ b. map f (cond b (u ∷ filter first us) (filter first us))) isnt ∙ rest
    ∙ sym (ap (λ b. map g (cond b (v ∷ filter first vs) (filter first vs))) (sym same ∙ isnt)))

-- ---- lanes without the items of other prefixes

like_left : (queries : List TypedQuery) (members : Set) (x y : Intake) → Like x y → Like (left queries members x) (left queries members y)
like_left queries members x y a = record {
  query = a.query;
  place = a.place;
  level = a.level;
  branch = a.branch;
  before = a.before;
  items = bag_then (bag_same (ap (λ q. left_in (query_at queries q) x.branch (with_bits x.before members) x.items) a.query))
      (bag_then (bag_same (ap (λ b. left_in (query_at queries y.query) b (with_bits x.before members) x.items) a.branch))
      (bag_then (bag_same (ap (λ o. left_in (query_at queries y.query) y.branch (with_bits o members) x.items) a.before))
      (left_bag (query_at queries y.query) y.branch (with_bits y.before members) x.items y.items a.items)));
}

lefts_alike : (queries : List TypedQuery) (sets : List Set) (xs ys : List Intake) → Alike xs ys → Alike (all_left queries sets xs) (all_left queries sets ys)
lefts_alike queries sets [] [] a = tt
lefts_alike queries sets [] (y ∷ ys) a = absurd a
lefts_alike queries sets (x ∷ xs) [] a = absurd a
lefts_alike queries [] (x ∷ xs) (y ∷ ys) a = (like_left queries set.empty x y a.0, lefts_alike queries [] xs ys a.1)
lefts_alike queries (members ∷ sets) (x ∷ xs) (y ∷ ys) a = (like_left queries members x y a.0, lefts_alike queries sets xs ys a.1)

-- lanes that are alike have equal answers with the same prefixes, and equally many items
pub parts_alike : (window : ℕ) (queries : List TypedQuery) (sets : List Set) (xs ys : List Intake) → ∥ IsTyped window queries ∥₁ → AreIntakes queries xs → Alike xs ys
    → (parts_of queries (all_left queries sets xs) ≡ parts_of queries (all_left queries sets ys)) × (total xs ≡ total ys)
parts_alike window queries sets xs ys t sound alike =
    let ls : List Intake = all_left queries sets xs in
    let ms : List Intake = all_left queries sets ys in
    let same = lefts_alike queries sets xs ys alike in
    let of = lefts_sound queries sets xs sound in
    (parts_from window queries ls ms ls ms t of same of same, total_alike xs ys alike)

pub order_is_free : (window : ℕ) (queries : List TypedQuery) (sets : List Set) (lanes : List Intake) (frames others : List Frame) → ∥ IsTyped window queries ∥₁ → AreIntakes queries (fold after_frame lanes frames) → SameBag frames others
    → (parts_of queries (all_left queries sets (fold after_frame lanes frames)) ≡ parts_of queries (all_left queries sets (fold after_frame lanes others))) × (total (fold after_frame lanes frames) ≡ total (fold after_frame lanes others))
order_is_free window queries sets lanes frames others t sound same =
    parts_alike window queries sets (fold after_frame lanes frames) (fold after_frame lanes others) t sound (orders_alike frames others same lanes)
