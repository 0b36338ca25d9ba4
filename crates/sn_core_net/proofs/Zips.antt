-- A test of one side of the lanes.
use Rattle.std.proofs.Common.{◌≡◌, ℕ, zero, suc, ◌+◌, ◌<◌, List, [], ◌∷◌, map, length, Bool, true, not, cond, nat_lt, slice_get, is_some, position, get_or, set, drop, ◌==◌, ◌&&◌, ◌++◌, OnOk, subst, unwrap_or, Result, Ok, Err, None, Some, refl, ap, ap₂, sym, ◌∙◌, arith}
use Rattle.std.specs.List.{list_all, position_or_len}
use Rattle.std.proofs.lemmas.Bool.{eqb-true, ltb-true}
use Rattle.sn_base.proofs.Lists.{and_both, and_parts}
use Rattle.sn_base.specs.declared.lane.Lane.{Lane as Name}
use Rattle.sn_core.specs.Nets.{Lane}
use Rattle.sn_core.proofs.Tests.{some_not_none}
use Rattle.sn_core.specs.Events.{change_at, delivered_of}
use Rattle.sn_core.specs.declared.supply.Frame.{Frame}
use Rattle.sn_core.specs.declared.supply.Frame.TheVariants.{Row, Last}
use Rattle.sn_core.specs.Needs.{passes}
use Rattle.sn_engine_lockstep.specs.Work.{taken}
use Rattle.sn_engine.specs.declared.intake.Intake.{Intake}
use Rattle.sn_core_net.specs.Settled.{settled}
use Rattle.sn_pipe.specs.Pipes.{PipeState}
use Rattle.sn_report.specs.Items.{Frame as Report}
use Rattle.sn_report.specs.declared.frame.Frame.TheVariants.{Row as Sent, End}
use Rattle.sn_report.specs.Items.{Item}
use Rattle.sn_core_net.specs.declared.holder.Holder.{Holder}
use Rattle.sn_core_net.specs.States.{lane_of, lanes_of}
use Rattle.sn_core_net.specs.Reports.{frame_of, report_of}

pub length_lanes : (hs : List Holder) (xs : List Intake) → length hs ≡ length xs → length (lanes_of hs xs) ≡ length hs
length_lanes [] xs e = refl
length_lanes (h ∷ hs) [] e = absurd (omega (arith, e))
length_lanes (h ∷ hs) (x ∷ xs) e = ap suc (length_lanes hs xs (omega (arith, e)))

len_left : (test : Holder → Bool) (both : Lane PipeState Item → Bool) → ((h : Holder) (x : Intake) → both (lane_of h x) ≡ test h) → (hs : List Holder) (xs : List Intake) → length hs ≡ length xs → position_or_len both (lanes_of hs xs) ≡ position_or_len test hs
len_left test both same [] xs e = refl
len_left test both same (h ∷ hs) [] e = absurd (omega (arith, e))
len_left test both same (h ∷ hs) (x ∷ xs) e = ap₂ (λ b n. cond (not b) (1 + n) 0) (same h x) (len_left test both same hs xs (omega (arith, e)))

pub position_left : (test : Holder → Bool) (both : Lane PipeState Item → Bool) → ((h : Holder) (x : Intake) → both (lane_of h x) ≡ test h) → (hs : List Holder) (xs : List Intake) → length hs ≡ length xs → position both (lanes_of hs xs) ≡ position test hs
position_left test both same hs xs e = ap₂ (λ n l. cond (nat_lt n l) (Some n) None) (len_left test both same hs xs e) (length_lanes hs xs e)

len_right : (test : Intake → Bool) (both : Lane PipeState Item → Bool) → ((h : Holder) (x : Intake) → both (lane_of h x) ≡ test x) → (hs : List Holder) (xs : List Intake) → length hs ≡ length xs → position_or_len both (lanes_of hs xs) ≡ position_or_len test xs
len_right test both same [] [] e = refl
len_right test both same [] (x ∷ xs) e = absurd (omega (arith, e))
len_right test both same (h ∷ hs) [] e = absurd (omega (arith, e))
len_right test both same (h ∷ hs) (x ∷ xs) e = ap₂ (λ b n. cond (not b) (1 + n) 0) (same h x) (len_right test both same hs xs (omega (arith, e)))

pub position_right : (test : Intake → Bool) (both : Lane PipeState Item → Bool) → ((h : Holder) (x : Intake) → both (lane_of h x) ≡ test x) → (hs : List Holder) (xs : List Intake) → length hs ≡ length xs → position both (lanes_of hs xs) ≡ position test xs
position_right test both same hs xs e = ap₂ (λ n l. cond (nat_lt n l) (Some n) None) (len_right test both same hs xs e) (length_lanes hs xs e ∙ e)

pub passes_left : (test : Holder → Bool) (both : Lane PipeState Item → Bool) → ((h : Holder) (x : Intake) → both (lane_of h x) ≡ test h) → (hs : List Holder) (xs : List Intake) (n : ℕ) (d : Holder) → length hs ≡ length xs → n < length hs → passes both (lanes_of hs xs) n ≡ test (get_or hs n d)
passes_left test both same [] xs n d e within = absurd (omega arith)
passes_left test both same (h ∷ hs) [] n d e within = absurd (omega (arith, e))
passes_left test both same (h ∷ hs) (x ∷ xs) zero d e within = same h x
passes_left test both same (h ∷ hs) (x ∷ xs) (suc n) d e within = passes_left test both same hs xs n d (omega (arith, e)) (omega arith)

pub ok_then : {A E : Type 0} (P Q : Type 0) (r : Result A E) → (P → Q) → OnOk r P → OnOk r Q
ok_then P Q (Ok a) k h = k h
ok_then P Q (Err e) k h = h

-- ---- a lane that changes on one side, and on both

pub change_left : (change : Lane PipeState Item → Lane PipeState Item) (hs : List Holder) (xs : List Intake) (n : ℕ) (d h : Holder) → length hs ≡ length xs → n < length hs → ((x : Intake) → change (lane_of (get_or hs n d) x) ≡ lane_of h x) →
    lanes_of (set hs n h) xs ≡ change_at change (lanes_of hs xs) n
change_left change [] xs n d h e within same = absurd (omega arith)
change_left change (k ∷ hs) [] n d h e within same = absurd (omega (arith, e))
change_left change (k ∷ hs) (x ∷ xs) zero d h e within same = ap (λ lane. lane ∷ lanes_of hs xs) (sym (same x))
change_left change (k ∷ hs) (x ∷ xs) (suc n) d h e within same = ap (λ lanes. lane_of k x ∷ lanes) (change_left change hs xs n d h (omega (arith, e)) (omega arith) same)

pub change_both : (change : Lane PipeState Item → Lane PipeState Item) (other : Intake → Intake) (hs : List Holder) (xs : List Intake) (n : ℕ) (d h : Holder) → length hs ≡ length xs → n < length hs → ((x : Intake) → change (lane_of (get_or hs n d) x) ≡ lane_of h (other x)) →
    lanes_of (set hs n h) (change_at other xs n) ≡ change_at change (lanes_of hs xs) n
change_both change other [] xs n d h e within same = absurd (omega arith)
change_both change other (k ∷ hs) [] n d h e within same = absurd (omega (arith, e))
change_both change other (k ∷ hs) (x ∷ xs) zero d h e within same = ap (λ lane. lane ∷ lanes_of hs xs) (sym (same x))
change_both change other (k ∷ hs) (x ∷ xs) (suc n) d h e within same = ap (λ lanes. lane_of k x ∷ lanes) (change_both change other hs xs n d h (omega (arith, e)) (omega arith) same)

-- ---- tests of all holders

pub all_at : {X : Type 0} (test : X → Bool) (xs : List X) (n : ℕ) (d : X) → list_all test xs ≡ true → n < length xs → test (get_or xs n d) ≡ true
all_at test [] n d e within = absurd (omega arith)
all_at test (x ∷ xs) zero d e within = (and_parts (test x) (list_all test xs) e).0
all_at test (x ∷ xs) (suc n) d e within = all_at test xs n d (and_parts (test x) (list_all test xs) e).1 (omega arith)

pub all_set : {X : Type 0} (test : X → Bool) (xs : List X) (n : ℕ) (y : X) → list_all test xs ≡ true → test y ≡ true → list_all test (set xs n y) ≡ true
all_set test [] n y e passes = refl
all_set test (x ∷ xs) zero y e passes = ap₂ (λ a b. a && b) passes (and_parts (test x) (list_all test xs) e).1
all_set test (x ∷ xs) (suc n) y e passes = ap₂ (λ a b. a && b) (and_parts (test x) (list_all test xs) e).0 (all_set test xs n y (and_parts (test x) (list_all test xs) e).1 passes)

pub all_appended : {X : Type 0} (test : X → Bool) (xs ys : List X) → list_all test xs ≡ true → list_all test ys ≡ true → list_all test (xs ++ ys) ≡ true
all_appended test [] ys e f = f
all_appended test (x ∷ xs) ys e f =
    let parts = and_parts (test x) (list_all test xs) e in
    and_both (test x) (list_all test (xs ++ ys)) parts.0 (all_appended test xs ys parts.1 f)

pub all_dropped : {X : Type 0} (test : X → Bool) (n : ℕ) (xs : List X) → list_all test xs ≡ true → list_all test (drop n xs) ≡ true
all_dropped test zero xs e = e
all_dropped test (suc n) [] e = e
all_dropped test (suc n) (x ∷ xs) e = all_dropped test n xs (and_parts (test x) (list_all test xs) e).1

pub all_first : {X : Type 0} (test : X → Bool) (xs : List X) (x : X) → list_all test xs ≡ true → slice_get xs 0 ≡ Some x → test x ≡ true
all_first test [] x e first = some_not_none x (sym first)
all_first test (y ∷ xs) x e first = ap test (ap (λ o. unwrap_or o x) (sym first)) ∙ (and_parts (test y) (list_all test xs) e).0

-- a list in which an item is put where the same one stands
pub set_same : {X : Type 0} (xs : List X) (n : ℕ) (x y : X) → n < length xs → x ≡ get_or xs n x → y ≡ x → set xs n y ≡ xs
set_same [] n x y within at is = absurd (omega arith)
set_same (z ∷ xs) zero x y within at is = ap (λ w. w ∷ xs) (is ∙ at)
set_same (z ∷ xs) (suc n) x y within at is = ap (λ zs. z ∷ zs) (set_same xs n x y (omega arith) at is)

pub fits : (len room capacity : ℕ) → nat_lt len room ≡ true → (capacity == room) ≡ true → len < capacity
fits len room capacity less same = omega (arith, ltb-true len room less, eqb-true capacity room same)

-- ---- the first frame of a lane

abbrev lane_with : Holder → List (Frame Item) → Intake → Lane PipeState Item
lane_with h frames x = record { pipe = settled h.sender.pipe; ended = h.sender.ended; ring = frames; taken = x.items; closed = is_some x.end }

module _ (name : Name) (window : ℕ) (h : Holder) (x : Intake) where
  pub first_moves : (frame : Report) (frames : List Report) → slice_get frames 0 ≡ Some frame → delivered_of (lane_of h x) (map frame_of frames) ≡ lane_with h (map frame_of (drop 1 frames)) (taken x (report_of name window (frame_of frame)))
  first_moves frame [] e = some_not_none frame (sym e)
  first_moves frame (Sent other item ∷ frames) e =
      subst (λ (f : Report). delivered_of (lane_of h x) (Row item ∷ map frame_of frames) ≡ lane_with h (map frame_of frames) (taken x (report_of name window (frame_of f)))) (ap (λ o. unwrap_or o frame) e) refl
  first_moves frame (End other number ∷ frames) e =
      subst (λ (f : Report). delivered_of (lane_of h x) (Last ∷ map frame_of frames) ≡ lane_with h (map frame_of frames) (taken x (report_of name window (frame_of f)))) (ap (λ o. unwrap_or o frame) e) refl
