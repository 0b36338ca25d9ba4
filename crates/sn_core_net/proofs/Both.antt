-- What happens to the lanes happens to both sides.
use Rattle.std.proofs.Common.{◌≡◌, ℕ, suc, ◌<◌, ◌==◌, ◌&&◌, List, [], ◌∷◌, ◌++◌, map, length, Bool, true, false, not, is_some, nat_lt, Option, None, Some, refl, ap, ap₂, sym, ◌∙◌, arith, append-nil, take, drop, nat_eq, ◌-◌, eq-eqb}
use Rattle.std.specs.FinSet as set
use Rattle.std.specs.List.{AllByRecursion, list_all}
use Rattle.std.specs.Option.{option_map, option_map_or}
use Rattle.std.specs.Ordering.{nat_cmp}
use Rattle.std.proofs.lemmas.Bool.{false≢true, eqb-false, eqb-true, ne_eqb}
use Rattle.std.proofs.lemmas.List.{drop_all, length-map, map-append, take_all}
use Rattle.circular_buffer.specs.Buffer.{Buffer}
use Rattle.sn_base.proofs.Lists.{and_both, and_parts, nat_same, nat_self, not_false}
use Rattle.sn_base.specs.declared.lane.Lane.{Lane as Name}
use Rattle.sn_core.specs.Events as core
use Rattle.sn_core.specs.Events.{all_started, row_frames, with_start, with_tuple}
use Rattle.sn_core.specs.Needs.{has_room}
use Rattle.sn_core.specs.declared.supply.Frame.{Frame}
use Rattle.sn_engine_lockstep.specs.declared.source.Source.{Source}
use Rattle.sn_emit.specs.Senders.{row_frame}
use Rattle.sn_engine.specs.Intakes.{agrees, emptied}
use Rattle.sn_engine.specs.declared.intake.Intake.{Intake}
use Rattle.sn_core_net.proofs.Settling.{unread_settled}
use Rattle.sn_core_net.specs.PlanWorkings.{all_ended, workings_of}
use Rattle.sn_pipe.specs.Pipes.{PipeState, after_packet, at_start, item_of}
use Rattle.sn_report.specs.Items.{Frame as Report}
use Rattle.sn_report.specs.Items.{Item}
use Rattle.sn_types.specs.declared.typed_query.TypedQuery.{TypedQuery}
use Rattle.sn_core_net.specs.declared.holder.Holder.{Holder}
use Rattle.sn_core_net.specs.Facts.{are_own, are_roomy, are_unread, names_of}
use Rattle.sn_core_net.specs.Holders.{all_begun, all_took, begun, took}
use Rattle.sn_core_net.specs.Rings.{appended}
use Rattle.sn_core_net.specs.Reports.{are_same, frame_of, is_own}
use Rattle.sn_core_net.specs.States.{lane_of, lanes_of}
use Rattle.sn_core_net.proofs.Rings.{kept_whole}
use Rattle.sn_core_net.proofs.Zips.{all_appended, all_dropped, fits}

abbrev pub Set : Type 0
Set = set.FinSet nat_cmp

pub emptied_lanes : (hs : List Holder) (xs : List Intake) → lanes_of hs (map emptied xs) ≡ map core.emptied (lanes_of hs xs)
emptied_lanes [] xs = refl
emptied_lanes (h ∷ hs) [] = refl
emptied_lanes (h ∷ hs) (x ∷ xs) = ap (λ lanes. core.emptied (lane_of h x) ∷ lanes) (emptied_lanes hs xs)

-- ---- the start of a window

module _ (queries : List TypedQuery) (intakes : List Intake) (sources : List Source) where
  begun_lane : (kept : Set) (h : Holder) (x : Intake) → lane_of (begun kept h) x ≡ with_start (workings_of queries intakes sources) kept (lane_of h x)
  begun_lane kept h x = ap (λ (p : PipeState). record (lane_of h x) { pipe = p; ended = false }) (unread_settled (at_start h.sender.pipe kept) refl)

  pub begun_lanes : (hs : List Holder) (xs : List Intake) (kepts : List Set) → lanes_of (all_begun hs kepts) xs ≡ all_started (workings_of queries intakes sources) (lanes_of hs xs) kepts
  begun_lanes [] xs kepts = refl
  begun_lanes (h ∷ hs) [] [] = refl
  begun_lanes (h ∷ hs) [] (kept ∷ kepts) = refl
  begun_lanes (h ∷ hs) (x ∷ xs) [] = ap₂ (λ lane lanes. lane ∷ lanes) (begun_lane set.empty h x) (begun_lanes hs xs [])
  begun_lanes (h ∷ hs) (x ∷ xs) (kept ∷ kepts) = ap₂ (λ lane lanes. lane ∷ lanes) (begun_lane kept h x) (begun_lanes hs xs kepts)

pub length_begun : (hs : List Holder) (kepts : List Set) → length (all_begun hs kepts) ≡ length hs
length_begun [] kepts = refl
length_begun (h ∷ hs) [] = ap suc (length_begun hs [])
length_begun (h ∷ hs) (kept ∷ kepts) = ap suc (length_begun hs kepts)

pub roomy_begun : (room : ℕ) (hs : List Holder) (kepts : List Set) → are_roomy room (all_begun hs kepts) ≡ are_roomy room hs
roomy_begun room [] kepts = refl
roomy_begun room (h ∷ hs) [] = ap (λ b. (h.ring.capacity == room) && b) (roomy_begun room hs [])
roomy_begun room (h ∷ hs) (kept ∷ kepts) = ap (λ b. (h.ring.capacity == room) && b) (roomy_begun room hs kepts)

pub names_begun : (hs : List Holder) (kepts : List Set) → names_of (all_begun hs kepts) ≡ names_of hs
names_begun [] kepts = refl
names_begun (h ∷ hs) [] = ap (λ names. h.sender.lane ∷ names) (names_begun hs [])
names_begun (h ∷ hs) (kept ∷ kepts) = ap (λ names. h.sender.lane ∷ names) (names_begun hs kepts)

pub unread_begun : (hs : List Holder) (kepts : List Set) → are_unread (all_begun hs kepts) ≡ true
unread_begun [] kepts = refl
unread_begun (h ∷ hs) [] = unread_begun hs []
unread_begun (h ∷ hs) (kept ∷ kepts) = unread_begun hs kepts

pub own_begun : (window : ℕ) (hs : List Holder) (kepts : List Set) → are_own window (all_begun hs kepts) ≡ are_own window hs
own_begun window [] kepts = refl
own_begun window (h ∷ hs) [] = ap (λ b. list_all (is_own h.sender.lane window) h.ring.items && b) (own_begun window hs [])
own_begun window (h ∷ hs) (kept ∷ kepts) = ap (λ b. list_all (is_own h.sender.lane window) h.ring.items && b) (own_begun window hs kepts)

-- ---- a tuple

pub length_took : (tuple : List ℕ) (hs : List Holder) → length (all_took tuple hs) ≡ length hs
length_took tuple [] = refl
length_took tuple (h ∷ hs) = ap suc (length_took tuple hs)

same_capacity : (ring : Buffer Report) (o : Option Report) → (appended ring o).capacity ≡ ring.capacity
same_capacity ring None = refl
same_capacity ring (Some frame) = refl

pub roomy_took : (room : ℕ) (tuple : List ℕ) (hs : List Holder) → are_roomy room (all_took tuple hs) ≡ are_roomy room hs
roomy_took room tuple [] = refl
roomy_took room tuple (h ∷ hs) = ap₂ (λ n b. (n == room) && b) (same_capacity h.ring (option_map (row_frame h.sender.lane) (item_of h.sender.pipe tuple))) (roomy_took room tuple hs)

pub names_took : (tuple : List ℕ) (hs : List Holder) → names_of (all_took tuple hs) ≡ names_of hs
names_took tuple [] = refl
names_took tuple (h ∷ hs) = ap (λ names. h.sender.lane ∷ names) (names_took tuple hs)

pub unread_took : (tuple : List ℕ) (hs : List Holder) → are_unread (all_took tuple hs) ≡ are_unread hs
unread_took tuple [] = refl
unread_took tuple (h ∷ hs) = ap (λ b. (h.sender.pipe.prefix.place == 0) && b) (unread_took tuple hs)

-- each frame is one of the lane's own
pub own_name : (name : Name) → are_same name name ≡ true
own_name name = and_both ((name.query == name.query) && (name.level == name.level)) (name.branch == name.branch) (and_both (name.query == name.query) (name.level == name.level) (nat_self name.query) (nat_self name.level)) (nat_self name.branch)

own_appended : (name : Name) (window : ℕ) (ring : Buffer Report) (o : Option Item) → list_all (is_own name window) ring.items ≡ true → list_all (is_own name window) (appended ring (option_map (row_frame name) o)).items ≡ true
own_appended name window ring None e = e
own_appended name window ring (Some item) e =
    let all : List Report = ring.items ++ row_frame name item ∷ [] in
    all_dropped (is_own name window) (length all - ring.capacity) all (all_appended (is_own name window) ring.items (row_frame name item ∷ []) e (and_both (are_same name name) true (own_name name) refl))

pub own_took : (window : ℕ) (tuple : List ℕ) (hs : List Holder) → are_own window hs ≡ true → are_own window (all_took tuple hs) ≡ true
own_took window tuple [] e = refl
own_took window tuple (h ∷ hs) e =
    let parts = and_parts (list_all (is_own h.sender.lane window) h.ring.items) (are_own window hs) e in
    and_both (list_all (is_own h.sender.lane window) (took tuple h).ring.items) (are_own window (all_took tuple hs)) (own_appended h.sender.lane window h.ring (item_of h.sender.pipe tuple) parts.0) (own_took window tuple hs parts.1)

row_items : (name : Name) (ring : Buffer Report) (o : Option Item) → length ring.items < ring.capacity → map frame_of (appended ring (option_map (row_frame name) o)).items ≡ map frame_of ring.items ++ row_frames o
row_items name ring None room = sym (append-nil (map frame_of ring.items))
row_items name ring (Some item) room = ap (map frame_of) (kept_whole ring.capacity ring.items (row_frame name item) room) ∙ map-append frame_of ring.items (row_frame name item ∷ [])

module _ (queries : List TypedQuery) (intakes : List Intake) (sources : List Source) where
  took_lane : (tuple : List ℕ) (h : Holder) (x : Intake) → h.sender.pipe.prefix.place ≡ 0 → length h.ring.items < h.ring.capacity → lane_of (took tuple h) x ≡ with_tuple (workings_of queries intakes sources) tuple (lane_of h x)
  took_lane tuple h x unread fit =
      ap₂ (λ (p : PipeState) (frames : List (Frame Item)). record (lane_of h x) { pipe = p; ring = frames }) (unread_settled (after_packet h.sender.pipe tuple) unread) (row_items h.sender.lane h.ring (item_of h.sender.pipe tuple) fit)
      ∙ ap (λ (p : PipeState). record (lane_of h x) { pipe = after_packet p tuple; ring = map frame_of h.ring.items ++ row_frames (item_of p tuple) }) (sym (unread_settled h.sender.pipe unread))

  pub took_lanes : (room : ℕ) (tuple : List ℕ) (hs : List Holder) (xs : List Intake) → are_roomy room hs ≡ true → are_unread hs ≡ true → AllByRecursion (λ lane. not (has_room room lane) ≡ false) (lanes_of hs xs) →
      lanes_of (all_took tuple hs) xs ≡ map (with_tuple (workings_of queries intakes sources) tuple) (lanes_of hs xs)
  took_lanes room tuple [] xs roomy unread free = refl
  took_lanes room tuple (h ∷ hs) [] roomy unread free = refl
  took_lanes room tuple (h ∷ hs) (x ∷ xs) roomy unread free =
      let parts = and_parts (h.ring.capacity == room) (are_roomy room hs) roomy in
      let places = and_parts (h.sender.pipe.prefix.place == 0) (are_unread hs) unread in
      let fit : length h.ring.items < h.ring.capacity = fits (length h.ring.items) room h.ring.capacity (not_false (nat_lt (length h.ring.items) room) (ap (λ n. not (nat_lt n room)) (sym (length-map h.ring.items frame_of)) ∙ free.0)) parts.0 in
      ap₂ (λ lane lanes. lane ∷ lanes) (took_lane tuple h x (nat_same h.sender.pipe.prefix.place 0 places.0) fit) (took_lanes room tuple hs xs parts.1 places.1 free.1)

pub whole : {X : Type 0} (n : ℕ) (xs ys : List X) → length xs ≡ length ys → n ≡ length ys → take n (xs ++ drop (length xs) ys) ≡ xs
whole n xs ys same long =
    ap (λ zs. take n (xs ++ zs)) (drop_all (length xs) ys (omega (arith, same))) ∙ ap (take n) (append-nil xs) ∙ take_all n xs (omega (arith, same, long))

-- ---- the end of a window

end_is : (n : ℕ) (o : Option ℕ) → not (is_some o) ≡ false → option_map_or (λ end. end == n) o true ≡ true → Some n ≡ o
end_is n None closed agreed = absurd (false≢true (sym closed))
end_is n (Some end) closed agreed = ap Some (sym (nat_same end n agreed))

-- where all lanes have ended a window, their items are those of the window's end
pub ended_again : (n : ℕ) (hs : List Holder) (xs : List Intake) → length hs ≡ length xs → AllByRecursion (λ lane. not lane.closed ≡ false) (lanes_of hs xs) → list_all (agrees n) xs ≡ true →
    all_ended n (map emptied xs) (map (λ lane. lane.taken) (lanes_of hs xs)) ≡ xs
ended_again n [] [] e closed agreed = refl
ended_again n [] (x ∷ xs) e closed agreed = absurd (omega (arith, e))
ended_again n (h ∷ hs) [] e closed agreed = absurd (omega (arith, e))
ended_again n (h ∷ hs) (x ∷ xs) e closed agreed =
    let parts = and_parts (agrees n x) (list_all (agrees n) xs) agreed in
    ap₂ (λ (end : Option ℕ) (ys : List Intake). record x { end = end } ∷ ys) (end_is n x.end closed.0 parts.0) (ended_again n hs xs (omega (arith, e)) closed.1 parts.1)

-- the number after another
pub is_next : (number closed : ℕ) → 0 < number → (b : Bool) → nat_eq (number - 1) closed ≡ b → b ≡ nat_eq number (suc closed)
is_next number closed some true e = sym (eq-eqb number (suc closed) (omega (arith, some, eqb-true (number - 1) closed e)))
is_next number closed some false e = sym (ne_eqb number (suc closed) (λ s. eqb-false (number - 1) closed e (omega (arith, some, s))))
