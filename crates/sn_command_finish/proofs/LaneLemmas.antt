-- The lanes of an engine while the frames of a window come.
use Rattle.std.proofs.Common.{◌≡◌, ℕ, ◌+◌, nat_lt, List, [], ◌∷◌, ◌++◌, ◌&&◌, ◌||◌, ◌==◌, map, fold, drop, get_or, length, Bool, true, false, cond, not, Option, None, Some, is_none, is_some, position, refl, ap, sym, ◌∙◌, subst, arith, append_assoc, append-nil, inl, inr}
use Rattle.std.specs.Prelude.{◌⊎◌}
use Rattle.std.specs.List.{AllByRecursion, find, list_all, list_any, position_or_len}
use Rattle.std.specs.Option.{option_map_or}
use Rattle.std.proofs.lemmas.Bool.{false≢true, le-ltb}
use Rattle.std.proofs.lemmas.List.{length-append}
use Rattle.std.proofs.lemmas.List.Elements.{filter-append}
use Rattle.std.proofs.lemmas.List.Sums.{fold-append}
use Rattle.sn_base.specs.declared.lane.Lane.{Lane}
use Rattle.sn_base.proofs.Lists.{by_test, nat_same, nat_self}
use Rattle.sn_engine.specs.declared.fault.TakeFault.TheVariants as takes
use Rattle.sn_engine.specs.declared.intake.Intake.{Intake}
use Rattle.sn_engine.specs.Intakes.{after_frame, agrees, emptied, first_open, has_started, is_lane, with_end, with_item}
use Rattle.sn_base.specs.Changed.{with_first}
use Rattle.sn_engine.specs.Taking.{end_fault, is_above, row_fault, take_fault}
use Rattle.sn_engine.proofs.Firsts.{found_none}
use Rattle.sn_report.specs.Items.{Frame}
use Rattle.sn_report.specs.declared.frame.Frame.TheVariants.{Row, End}
use Rattle.sn_report.specs.Items.{Item}
use Rattle.sn_report.specs.Frames.{lane_of}
use Rattle.sn_types.specs.declared.typed_query.TypedQuery.{TypedQuery}
use Rattle.sn_command_finish.specs.Whole.{HaveNames, IsIdle, IsWindow, Sent, filled, frames_of, name_of}
use Rattle.sn_base.proofs.Tests.{three_parts}

-- ---- lists

pub maps_same : {A B : Type 0} (f g : A → B) (xs : List A) → AllByRecursion (λ x. f x ≡ g x) xs → map f xs ≡ map g xs
maps_same f g [] h = refl
maps_same f g (x ∷ xs) h = ap (λ y. y ∷ map f xs) h.0 ∙ ap (λ ys. g x ∷ ys) (maps_same f g xs h.1)

pub all_each : {A : Type 0} (P : A → Type 0) (xs : List A) → ((x : A) → P x) → AllByRecursion P xs
all_each P [] h = tt
all_each P (x ∷ xs) h = (h x, all_each P xs h)

all_two : {A : Type 0} (P Q R : A → Type 0) (xs : List A) → ((x : A) → P x → Q x → R x) → AllByRecursion P xs → AllByRecursion Q xs → AllByRecursion R xs
all_two P Q R [] h p q = tt
all_two P Q R (x ∷ xs) h p q = (h x p.0 q.0, all_two P Q R xs h p.1 q.1)

first_same : {A : Type 0} (x y : A) (xs ys : List A) → x ∷ xs ≡ y ∷ ys → x ≡ y
first_same x y xs ys e = ap (λ l. get_or l 0 x) e

rest_same : {A : Type 0} (x y : A) (xs ys : List A) → x ∷ xs ≡ y ∷ ys → xs ≡ ys
rest_same x y xs ys e = ap (λ l. drop 1 l) e

not_nothing : {A : Type 0} (xs ys : List A) (x : A) → xs ++ x ∷ ys ≡ [] → ⊥
not_nothing xs ys x e = let none = ap length e in omega (arith, none, length-append xs (x ∷ ys))

-- ---- one lane after frames of its own

abbrev pub came : Intake → Frame → Intake
came x (Row lane item) = with_item item x
came x (End lane window) = with_end window x

-- what came of a lane among frames
abbrev pub after : List Frame → Intake → Intake
after frames x = fold came x (frames_of x frames)

keeps_name : (lane : Lane) (frames : List Frame) (x : Intake) → is_lane lane (fold came x frames) ≡ is_lane lane x
keeps_name lane [] x = refl
keeps_name lane (Row other item ∷ frames) x = keeps_name lane frames (with_item item x)
keeps_name lane (End other window ∷ frames) x = keeps_name lane frames (with_end window x)

rows_came : (n : Lane) (items : List Item) (x : Intake) → fold came x (map (Row n) items) ≡ record x { items = x.items ++ items }
rows_came n [] x = ap (λ (is : List Item). record x { items = is }) (sym (append-nil x.items))
rows_came n (item ∷ items) x = rows_came n items (with_item item x) ∙ ap (λ (is : List Item). record x { items = is }) (append_assoc x.items (item ∷ []) items)

idle_rows : (n : Lane) (items : List Item) (x : Intake) → IsIdle x → fold came x (map (Row n) items) ≡ record x { items = items; end = None }
idle_rows n items x idle = rows_came n items x ∙ ap (λ (is : List Item). record x { items = is ++ items }) idle.items ∙ ap (λ (e : Option ℕ). record x { items = items; end = e }) idle.end

-- frames before one of them, among those of a window: rows alone, and that one is a row too, or the End after them all
abbrev IsRowOf : Lane → List Item → List Frame → Frame → Type 0
IsRowOf n items us f = (done more : List Item) × (item : Item) × (items ≡ done ++ item ∷ more) × (us ≡ map (Row n) done) × (f ≡ Row n item)

abbrev IsEndOf : Lane → ℕ → List Item → List Frame → Frame → List Frame → Type 0
IsEndOf n w items us f vs = (us ≡ map (Row n) items) × (f ≡ End n w) × (vs ≡ [])

abbrev Among : Lane → ℕ → List Item → List Frame → Frame → List Frame → Type 0
Among n w items us f vs = IsRowOf n items us f ⊎ IsEndOf n w items us f vs

among : (n : Lane) (w : ℕ) (items : List Item) (us : List Frame) (f : Frame) (vs : List Frame) → us ++ f ∷ vs ≡ map (Row n) items ++ End n w ∷ [] → Among n w items us f vs
among n w [] [] f vs e = inr (refl, first_same f (End n w) vs [] e, rest_same f (End n w) vs [] e)
among n w (item ∷ items) [] f vs e = inl ([], items, item, refl, refl, first_same f (Row n item) vs (map (Row n) items ++ End n w ∷ []) e)
among n w [] (u ∷ us) f vs e = absurd (not_nothing us vs f (rest_same u (End n w) (us ++ f ∷ vs) [] e))
among n w (item ∷ items) (u ∷ us) f vs e =
    let here : u ≡ Row n item = first_same u (Row n item) (us ++ f ∷ vs) (map (Row n) items ++ End n w ∷ []) e in
    elim (among n w items us f vs (rest_same u (Row n item) (us ++ f ∷ vs) (map (Row n) items ++ End n w ∷ []) e)) [
      | inl r ↦ inl (item ∷ r.0, r.1, r.2, ap (λ (is : List Item). item ∷ is) r.3, ap (λ (g : Frame). g ∷ us) here ∙ ap (λ (gs : List Frame). Row n item ∷ gs) r.4, r.5)
      | inr r ↦ inr (ap (λ (g : Frame). g ∷ us) here ∙ ap (λ (gs : List Frame). Row n item ∷ gs) r.0, r.1, r.2)
    ]

-- a lane that is to send more hasn't ended the window
open_before : (n : Lane) (w : ℕ) (items : List Item) (us : List Frame) (f : Frame) (vs : List Frame) (x : Intake) → IsIdle x → us ++ f ∷ vs ≡ map (Row n) items ++ End n w ∷ [] → is_none (fold came x us).end ≡ true
open_before n w items us f vs x idle e =
    elim (among n w items us f vs e) [
      | inl r ↦ ap (λ (gs : List Frame). is_none (fold came x gs).end) r.4 ∙ ap (λ (y : Intake). is_none y.end) (idle_rows n r.0 x idle)
      | inr r ↦ ap (λ (gs : List Frame). is_none (fold came x gs).end) r.0 ∙ ap (λ (y : Intake). is_none y.end) (idle_rows n items x idle)
    ]

-- it has ended no other window
agrees_before : (n : Lane) (w : ℕ) (items : List Item) (us vs : List Frame) (x : Intake) → x.end ≡ None → us ++ vs ≡ map (Row n) items ++ End n w ∷ [] → agrees w (fold came x us) ≡ true
agrees_before n w items [] vs x unended e = ap (λ (o : Option ℕ). option_map_or (λ end. end == w) o true) unended
agrees_before n w [] (u ∷ us) vs x unended e = ended us vs u (first_same u (End n w) (us ++ vs) [] e) (rest_same u (End n w) (us ++ vs) [] e)
  where
    ended : (us vs : List Frame) (u : Frame) → u ≡ End n w → us ++ vs ≡ [] → agrees w (fold came x (u ∷ us)) ≡ true
    ended [] vs u is none = ap (λ (g : Frame). agrees w (came x g)) is ∙ nat_self w
    ended (v ∷ us) vs u is none = absurd (not_nothing [] (us ++ vs) v none)
agrees_before n w (item ∷ items) (u ∷ us) vs x unended e =
    let here : u ≡ Row n item = first_same u (Row n item) (us ++ vs) (map (Row n) items ++ End n w ∷ []) e in
    ap (λ (g : Frame). agrees w (fold came (came x g) us)) here
    ∙ agrees_before n w items us vs (with_item item x) unended (rest_same u (Row n item) (us ++ vs) (map (Row n) items ++ End n w ∷ []) e)

-- at the end of the window all of it came
all_came : (n : Lane) (w : ℕ) (items : List Item) (x : Intake) → IsIdle x → fold came x (map (Row n) items ++ End n w ∷ []) ≡ record x { items = items; end = Some w }
all_came n w items x idle = fold-append came x (map (Row n) items) (End n w ∷ []) ∙ ap (with_end w) (idle_rows n items x idle)

-- ---- all lanes after frames

same_name : (lane : Lane) (x y : Intake) → is_lane lane x ≡ true → is_lane lane y ≡ is_lane (name_of x) y
same_name lane x y e =
    let p = three_parts (lane.query == x.query) (lane.level == x.place) (lane.branch == x.branch) e in
    ap (λ n. (n == y.query) && (lane.level == y.place) && (lane.branch == y.branch)) (nat_same lane.query x.query p.0)
    ∙ ap (λ n. (x.query == y.query) && (n == y.place) && (lane.branch == y.branch)) (nat_same lane.level x.place p.1)
    ∙ ap (λ n. (x.query == y.query) && (x.place == y.place) && (n == y.branch)) (nat_same lane.branch x.branch p.2)

abbrev changed : (Intake → Intake) → Lane → (Intake → Intake) → Intake → Intake
changed g lane change x = cond (is_lane lane x) (change (g x)) (g x)

others_same : (g : Intake → Intake) (lane : Lane) (change : Intake → Intake) (xs : List Intake) → AllByRecursion (λ y. is_lane lane y ≡ false) xs → map g xs ≡ map (changed g lane change) xs
others_same g lane change xs h = maps_same g (changed g lane change) xs (all_two (λ y. is_lane lane y ≡ false) (λ y. Unit {0}) (λ y. g y ≡ changed g lane change y) xs (λ y is t. sym (ap (λ b. cond b (change (g y)) (g y)) is)) h (all_each (λ y. Unit {0}) xs (λ y. tt)))

first_changed : (g : Intake → Intake) (lane : Lane) → ((x : Intake) → is_lane lane (g x) ≡ is_lane lane x) → (change : Intake → Intake) (xs : List Intake) → HaveNames xs → with_first (is_lane lane) change (map g xs) ≡ map (changed g lane change) xs
first_changed g lane keeps change [] names = refl
first_changed g lane keeps change (x ∷ xs) names =
    by_test (is_lane lane x)
    (λ is.
    let others = all_two (λ y. is_lane (name_of x) y ≡ false) (λ y. Unit {0}) (λ y. is_lane lane y ≡ false) xs (λ y isnt t. same_name lane x y is ∙ isnt) names.0 (all_each (λ y. Unit {0}) xs (λ y. tt)) in
    ap (λ b. cond b (change (g x) ∷ map g xs) (g x ∷ with_first (is_lane lane) change (map g xs))) (keeps x ∙ is)
    ∙ ap (λ ys. change (g x) ∷ ys) (others_same g lane change xs others)
    ∙ sym (ap (λ b. cond b (change (g x)) (g x) ∷ map (changed g lane change) xs) is))
    (λ isnt.
    ap (λ b. cond b (change (g x) ∷ map g xs) (g x ∷ with_first (is_lane lane) change (map g xs))) (keeps x ∙ isnt)
    ∙ ap (λ ys. g x ∷ ys) (first_changed g lane keeps change xs names.1)
    ∙ sym (ap (λ b. cond b (change (g x)) (g x) ∷ map (changed g lane change) xs) isnt))

one_after : (us : List Frame) (f : Frame) (x : Intake) → cond (is_lane (lane_of f) x) (came (after us x) f) (after us x) ≡ after (us ++ f ∷ []) x
one_after us f x =
    let own = frames_of x us in
    let parts : frames_of x (us ++ f ∷ []) ≡ own ++ cond (is_lane (lane_of f) x) (f ∷ []) [] = filter-append (λ (g : Frame). is_lane (lane_of g) x) us (f ∷ []) in
    by_test (is_lane (lane_of f) x)
    (λ is. ap (λ b. cond b (came (after us x) f) (after us x)) is ∙ sym (ap (fold came x) (parts ∙ ap (λ b. own ++ cond b (f ∷ []) []) is) ∙ fold-append came x own (f ∷ [])))
    (λ isnt. ap (λ b. cond b (came (after us x) f) (after us x)) isnt ∙ sym (ap (fold came x) (parts ∙ ap (λ b. own ++ cond b (f ∷ []) []) isnt ∙ append-nil own)))

change_is : (f : Frame) (lanes : List Intake) → after_frame lanes f ≡ with_first (is_lane (lane_of f)) (λ x. came x f) lanes
change_is (Row lane item) lanes = refl
change_is (End lane window) lanes = refl

pub lanes_after : (us : List Frame) (f : Frame) (lanes : List Intake) → HaveNames lanes → after_frame (map (after us) lanes) f ≡ map (after (us ++ f ∷ [])) lanes
lanes_after us f lanes names =
    change_is f (map (after us) lanes)
    ∙ first_changed (after us) (lane_of f) (λ x. keeps_name (lane_of f) (frames_of x us) x) (λ x. came x f) lanes names
    ∙ maps_same (changed (after us) (lane_of f) (λ x. came x f)) (after (us ++ f ∷ [])) lanes (all_each _ lanes (one_after us f))

-- ---- the lane of a frame

pub data IsIn {A : Type 0} (x : A) : List A → Type 0 where
  first : (xs : List A) → IsIn x (x ∷ xs)
  following : (y : A) (xs : List A) → IsIn x xs → IsIn x (y ∷ xs)

all_in : {A : Type 0} (P : A → Type 0) (x : A) (xs : List A) → IsIn x xs → AllByRecursion P xs → P x
all_in P x _ (first xs) h = h.0
all_in P x _ (following y xs i) h = all_in P x xs i h.1

pub record FoundLane (lanes : List Intake) (lane : Lane) (g : Intake → Intake) : Type 0 where
  pub x : Intake
  pub named : is_lane lane x ≡ true
  pub found : find (is_lane lane) (map g lanes) ≡ Some (g x)
  pub there : IsIn x lanes

pub lane_found : (lanes : List Intake) (lane : Lane) (g : Intake → Intake) → ((x : Intake) → is_lane lane (g x) ≡ is_lane lane x) → list_any (is_lane lane) lanes ≡ true → FoundLane lanes lane g
lane_found [] lane g keeps known = absurd (false≢true known)
lane_found (x ∷ xs) lane g keeps known =
    by_test (is_lane lane x)
    (λ is. record { x = x; named = is; found = ap (λ b. cond b (Some (g x)) (find (is_lane lane) (map g xs))) (keeps x ∙ is); there = first xs })
    (λ isnt. let rest = lane_found xs lane g keeps (sym (ap (λ b. b || list_any (is_lane lane) xs) isnt) ∙ known) in
    record { x = rest.x; named = rest.named; found = ap (λ b. cond b (Some (g x)) (find (is_lane lane) (map g xs))) (keeps x ∙ isnt) ∙ rest.found; there = following x xs rest.there })

-- its own frames, when this one is next
own_next : (us vs : List Frame) (f : Frame) (x : Intake) → is_lane (lane_of f) x ≡ true → frames_of x (us ++ f ∷ vs) ≡ frames_of x us ++ f ∷ frames_of x vs
own_next us vs f x is = filter-append (λ (g : Frame). is_lane (lane_of g) x) us (f ∷ vs) ∙ ap (λ b. frames_of x us ++ cond b (f ∷ frames_of x vs) (frames_of x vs)) is

own_parts : (us vs : List Frame) (x : Intake) → frames_of x (us ++ vs) ≡ frames_of x us ++ frames_of x vs
own_parts us vs x = filter-append (λ (g : Frame). is_lane (lane_of g) x) us vs

all_mid : {A : Type 0} (P : A → Type 0) (xs ys : List A) (x : A) → AllByRecursion P (xs ++ x ∷ ys) → P x
all_mid P [] ys x h = h.0
all_mid P (y ∷ xs) ys x h = all_mid P xs ys x h.1

-- ---- a window's frames are taken

module _ (queries : List TypedQuery) (lanes : List Intake) (sent : Sent) (names : HaveNames lanes) (idle : AllByRecursion IsIdle lanes) (window : IsWindow queries lanes sent) where
  abbrev w : ℕ
  w = sent.window

  agree : (us vs : List Frame) → us ++ vs ≡ sent.frames → (xs : List Intake) → AllByRecursion IsIdle xs → AllByRecursion (λ x. frames_of x sent.frames ≡ map (Row (name_of x)) (sent.items x) ++ End (name_of x) w ∷ []) xs → list_all (agrees w) (map (after us) xs) ≡ true
  agree us vs whole [] i e = refl
  agree us vs whole (x ∷ xs) i e =
      let own : frames_of x us ++ frames_of x vs ≡ map (Row (name_of x)) (sent.items x) ++ End (name_of x) w ∷ [] = sym (own_parts us vs x) ∙ ap (frames_of x) whole ∙ e.0 in
      let here : agrees w (after us x) ≡ true = agrees_before (name_of x) w (sent.items x) (frames_of x us) (frames_of x vs) x i.0.end own in
      ap (λ b. b && list_all (agrees w) (map (after us) xs)) here ∙ agree us vs whole xs i.1 e.1

  module _ (closed : Option ℕ) (above : is_above closed w ≡ true) (us : List Frame) (f : Frame) (vs : List Frame) (whole : us ++ f ∷ vs ≡ sent.frames) where
    abbrev here : List Intake
    here = map (after us) lanes

    found : FoundLane lanes (lane_of f) (after us)
    found = lane_found lanes (lane_of f) (after us) (λ x. keeps_name (lane_of f) (frames_of x us) x)
        (all_mid (λ g. list_any (is_lane (lane_of g)) lanes ≡ true) us vs f (subst (λ (gs : List Frame). AllByRecursion (λ g. list_any (is_lane (lane_of g)) lanes ≡ true) gs) (sym whole) window.known))

    at_found : (P : Intake → Type 0) → AllByRecursion P lanes → P found.x
    at_found P h = all_in P found.x lanes found.there h

    own : frames_of found.x us ++ f ∷ frames_of found.x vs ≡ map (Row (name_of found.x)) (sent.items found.x) ++ End (name_of found.x) w ∷ []
    own = sym (own_next us vs f found.x found.named) ∙ ap (frames_of found.x) whole ∙ at_found (λ x. frames_of x sent.frames ≡ map (Row (name_of x)) (sent.items x) ++ End (name_of x) w ∷ []) window.each

    row_taken : (lane : Lane) (item : Item) (done more : List Item) → f ≡ Row lane item → sent.items found.x ≡ done ++ item ∷ more → after us found.x ≡ record found.x { items = done; end = None } → take_fault queries here closed f ≡ None
    row_taken lane item done more is items now =
        let lawful : row_fault queries found.x item ≡ None = all_mid (λ i. row_fault queries found.x i ≡ None) done more item (subst (λ (is : List Item). AllByRecursion (λ i. row_fault queries found.x i ≡ None) is) items (at_found (λ x. AllByRecursion (λ i. row_fault queries x i ≡ None) (sent.items x)) window.lawful)) in
        let at : find (is_lane lane) here ≡ Some (after us found.x) = subst (λ (g : Frame). find (is_lane (lane_of g)) here ≡ Some (after us found.x)) is found.found in
        let unended : found.x.end ≡ None = (at_found IsIdle idle).end in
        ap (take_fault queries here closed) is
        ∙ ap (λ (o : Option Intake). option_map_or (λ x. row_fault queries x item) o (Some takes.Stranger)) (at ∙ ap (λ (x : Intake). Some x) now)
        ∙ sym (ap (λ (e : Option ℕ). row_fault queries (record found.x { end = e }) item) unended)
        ∙ lawful

    end_taken : (lane : Lane) (items : List Item) → f ≡ End lane w → after us found.x ≡ record found.x { items = items; end = None } → take_fault queries here closed f ≡ None
    end_taken lane items is now =
        let at : find (is_lane lane) here ≡ Some (after us found.x) = subst (λ (g : Frame). find (is_lane (lane_of g)) here ≡ Some (after us found.x)) is found.found in
        let all : list_all (agrees w) here ≡ true = agree us (f ∷ vs) whole lanes idle window.each in
        ap (take_fault queries here closed) is
        ∙ ap (λ (o : Option Intake). option_map_or (λ x. end_fault here closed x w) o (Some takes.Stranger)) (at ∙ ap (λ (x : Intake). Some x) now)
        ∙ ap (λ b. cond (not (b && list_all (agrees w) here)) (Some takes.Window) None) above
        ∙ ap (λ b. cond (not b) (Some takes.Window) None) all

    pub frame_taken : take_fault queries here closed f ≡ None
    frame_taken =
        elim (among (name_of found.x) w (sent.items found.x) (frames_of found.x us) f (frames_of found.x vs) own) [
          | inl r ↦ row_taken (name_of found.x) r.2 r.0 r.1 r.5 r.3 (ap (fold came found.x) r.4 ∙ idle_rows (name_of found.x) r.0 found.x (at_found IsIdle idle))
          | inr r ↦ end_taken (name_of found.x) (sent.items found.x) r.1 (ap (fold came found.x) r.0 ∙ idle_rows (name_of found.x) (sent.items found.x) found.x (at_found IsIdle idle))
        ]

    -- while a frame is to come, its lane is open
    pub still_open : first_open here ≡ None → ⊥
    still_open none =
        let all : AllByRecursion (λ x. is_none (after us x).end ≡ false) lanes = all_found (λ x. is_none x.end) (after us) lanes (found_none (λ x. is_none x.end) here none) in
        false≢true (sym (at_found (λ x. is_none (after us x).end ≡ false) all) ∙ open_before (name_of found.x) w (sent.items found.x) (frames_of found.x us) f (frames_of found.x vs) found.x (at_found IsIdle idle) own)
      where
        all_found : (test : Intake → Bool) (g : Intake → Intake) (xs : List Intake) → find test (map g xs) ≡ None → AllByRecursion (λ x. test (g x) ≡ false) xs
        all_found test g [] none = tt
        all_found test g (x ∷ xs) none =
            by_test (test (g x))
            (λ is. absurd (let e = sym (ap (λ b. cond b (Some (g x)) (find test (map g xs))) is) ∙ none in cc))
            (λ isnt. (isnt, all_found test g xs (sym (ap (λ b. cond b (Some (g x)) (find test (map g xs))) isnt) ∙ none)))

  -- at the end of the window
  pub lanes_filled : map (after sent.frames) lanes ≡ map (filled sent) lanes
  lanes_filled =
      maps_same (after sent.frames) (filled sent) lanes
      (all_two IsIdle (λ x. frames_of x sent.frames ≡ map (Row (name_of x)) (sent.items x) ++ End (name_of x) w ∷ []) (λ x. after sent.frames x ≡ filled sent x) lanes
      (λ x i e. ap (fold came x) e ∙ all_came (name_of x) w (sent.items x) x i) idle window.each)

none_at : {A : Type 0} (test : A → Bool) (xs : List A) → AllByRecursion (λ x. test x ≡ false) xs → position_or_len test xs ≡ length xs
none_at test [] h = refl
none_at test (x ∷ xs) h = ap (λ b. cond (not b) (1 + position_or_len test xs) 0) h.0 ∙ (let rest = none_at test xs h.1 in omega (arith, rest))

none_passes : {A : Type 0} (test : A → Bool) (xs : List A) → AllByRecursion (λ x. test x ≡ false) xs → position test xs ≡ None
none_passes test xs h =
    let past : nat_lt (position_or_len test xs) (length xs) ≡ false = le-ltb (position_or_len test xs) (length xs) (let e = none_at test xs h in omega (arith, e)) in
    ap (λ b. cond b (Some (position_or_len test xs)) None) past

-- no lane is open
pub none_open : (sent : Sent) (lanes : List Intake) → first_open (map (filled sent) lanes) ≡ None
none_open sent lanes = none_passes (λ x. is_none x.end) (map (filled sent) lanes) (all_filled lanes)
  where
    all_filled : (xs : List Intake) → AllByRecursion (λ (x : Intake). is_none x.end ≡ false) (map (filled sent) xs)
    all_filled [] = tt
    all_filled (x ∷ xs) = (refl, all_filled xs)

-- an idle lane that is emptied is the same
idle_emptied : (sent : Sent) (x : Intake) → IsIdle x → emptied (filled sent x) ≡ x
idle_emptied sent x idle = sym (ap (λ (is : List Item). record x { items = is }) idle.items ∙ ap (λ (e : Option ℕ). record x { items = []; end = e }) idle.end)

pub lanes_emptied : (sent : Sent) (lanes : List Intake) → AllByRecursion IsIdle lanes → map emptied (map (filled sent) lanes) ≡ lanes
lanes_emptied sent [] idle = refl
lanes_emptied sent (x ∷ xs) idle = ap (λ (y : Intake). y ∷ map emptied (map (filled sent) xs)) (idle_emptied sent x idle.0) ∙ ap (λ (ys : List Intake). x ∷ ys) (lanes_emptied sent xs idle.1)

-- before any frame
pub lanes_before : (lanes : List Intake) → map (after []) lanes ≡ lanes
lanes_before [] = refl
lanes_before (x ∷ xs) = ap (λ (ys : List Intake). x ∷ ys) (lanes_before xs)

pub none_started : (lanes : List Intake) → AllByRecursion IsIdle lanes → list_any has_started lanes ≡ false
none_started [] idle = refl
none_started (x ∷ xs) idle =
    let here : has_started x ≡ false = ap (λ (is : List Item). not (length is == 0) || is_some x.end) idle.0.items ∙ ap (λ (e : Option ℕ). is_some e) idle.0.end in
    ap (λ b. b || list_any has_started xs) here ∙ none_started xs idle.1
