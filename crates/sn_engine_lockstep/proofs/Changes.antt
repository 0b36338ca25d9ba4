-- One place of a list changed, and the lane of a frame found by its place.
use Rattle.std.proofs.Common.{◌≡◌, ℕ, zero, suc, List, [], ◌∷◌, ◌&&◌, ◌==◌, fold, length, true, false, Some, slice_get, slice_set, refl, ap, sym, ◌∙◌, subst}
use Rattle.std.specs.List.{AllByRecursion}
use Rattle.sn_base.specs.declared.lane.Lane.{Lane}
use Rattle.sn_base.proofs.Lists.{nat_self, some_same, none_some}
use Rattle.sn_emit.specs.Plans.{Placed}
use Rattle.sn_engine.specs.declared.intake.Intake.{Intake}
use Rattle.sn_engine.specs.Intakes.{after_frame, is_lane}
use Rattle.sn_base.specs.Changed.{with_first}
use Rattle.sn_report.specs.Frames.{lane_of as lane_in}
use Rattle.sn_report.specs.Items.{Frame}
use Rattle.sn_report.specs.declared.frame.Frame.TheVariants.{Row, End}
use Rattle.sn_engine_lockstep.specs.Work.{AreApart, intake_of, name_of, taken}
use Rattle.sn_engine.proofs.Frames.{here, later}

-- ---- one place changed

pub set_here : {X : Type 0} (xs : List X) (i : ℕ) (x y : X) → slice_get xs i ≡ Some x → slice_get (slice_set xs i y) i ≡ Some y
set_here [] i x y e = absurd (none_some e)
set_here (z ∷ xs) zero x y e = refl
set_here (z ∷ xs) (suc i) x y e = set_here xs i x y e

pub set_there : {X : Type 0} (xs : List X) (i j : ℕ) (y : X) → (j ≡ i → ⊥) → slice_get (slice_set xs i y) j ≡ slice_get xs j
set_there [] i j y other = refl
set_there (z ∷ xs) zero zero y other = absurd (other refl)
set_there (z ∷ xs) zero (suc j) y other = refl
set_there (z ∷ xs) (suc i) zero y other = refl
set_there (z ∷ xs) (suc i) (suc j) y other = set_there xs i j y (λ e. other (ap suc e))

pub set_length : {X : Type 0} (xs : List X) (i : ℕ) (y : X) → length (slice_set xs i y) ≡ length xs
set_length [] i y = refl
set_length (z ∷ xs) zero y = refl
set_length (z ∷ xs) (suc i) y = ap suc (set_length xs i y)

set_same : {X : Type 0} (xs : List X) (i : ℕ) (x : X) → slice_get xs i ≡ Some x → xs ≡ slice_set xs i x
set_same [] i x e = absurd (none_some e)
set_same (z ∷ xs) zero x e = ap (λ y. y ∷ xs) (some_same z x e)
set_same (z ∷ xs) (suc i) x e = ap (λ ys. z ∷ ys) (set_same xs i x e)

set_twice : {X : Type 0} (xs : List X) (i : ℕ) (x y : X) → slice_set (slice_set xs i x) i y ≡ slice_set xs i y
set_twice [] i x y = refl
set_twice (z ∷ xs) zero x y = refl
set_twice (z ∷ xs) (suc i) x y = ap (λ ys. z ∷ ys) (set_twice xs i x y)

-- what holds of all holds at a place
pub all_get : {X : Type 0} (P : X → Type 0) (xs : List X) (i : ℕ) (x : X) → AllByRecursion P xs → slice_get xs i ≡ Some x → P x
all_get P [] i x h e = absurd (none_some e)
all_get P (z ∷ xs) zero x h e = subst P (some_same z x e) h.0
all_get P (z ∷ xs) (suc i) x h e = all_get P xs i x h.1 e

-- ---- lanes with the names of pieces

abbrev pub AreNamed : List Placed → List Intake → Type 0
AreNamed [] [] = Unit {0}
AreNamed [] (l ∷ ls) = ⊥
AreNamed (x ∷ xs) [] = ⊥
AreNamed (x ∷ xs) (l ∷ ls) = ((n : Lane) → is_lane n l ≡ is_lane n (intake_of x)) × AreNamed xs ls

pub own_name : (x : Placed) → is_lane (name_of x) (intake_of x) ≡ true
own_name x =
    ap (λ b. b && (lane_place == lane_place) && (x.piece.branch == x.piece.branch)) (nat_self x.query)
    ∙ ap (λ b. b && (x.piece.branch == x.piece.branch)) (nat_self lane_place)
    ∙ nat_self x.piece.branch
  where
    lane_place : ℕ
    lane_place = (name_of x).level

pub same_name : (n : Lane) (l : Intake) (f : Frame) → is_lane n (taken l f) ≡ is_lane n l
same_name n l (Row lane item) = refl
same_name n l (End lane window) = refl

pub same_names : (n : Lane) (l : Intake) (fs : List Frame) → is_lane n (fold taken l fs) ≡ is_lane n l
same_names n l [] = refl
same_names n l (f ∷ fs) = same_names n (taken l f) fs ∙ same_name n l f

-- the lane of a piece is the first that has its name
first_is : (c : Intake → Intake) (xs : List Placed) (ls : List Intake) (i : ℕ) (x : Placed) (l : Intake) → AreApart xs → AreNamed xs ls → slice_get xs i ≡ Some x → slice_get ls i ≡ Some l
    → with_first (is_lane (name_of x)) c ls ≡ slice_set ls i (c l)
first_is c [] ls i x l apart named at lane = absurd (none_some at)
first_is c (y ∷ xs) [] i x l apart named at lane = absurd named
first_is c (y ∷ xs) (m ∷ ls) zero x l apart named at lane =
    here (is_lane (name_of x)) c m ls (named.0 (name_of x) ∙ ap (λ z. is_lane (name_of x) (intake_of z)) (some_same y x at) ∙ own_name x)
    ∙ ap (λ z. c z ∷ ls) (some_same m l lane)
first_is c (y ∷ xs) (m ∷ ls) (suc i) x l apart named at lane =
    later (is_lane (name_of x)) c m ls (named.0 (name_of x) ∙ all_get (λ z. is_lane (name_of z) (intake_of y) ≡ false) xs i x apart.0 at)
    ∙ ap (λ zs. m ∷ zs) (first_is c xs ls i x l apart.1 named.1 at lane)

pub after_is : (lanes : List Intake) (f : Frame) → after_frame lanes f ≡ with_first (is_lane (lane_in f)) (λ l. taken l f) lanes
after_is lanes (Row lane item) = refl
after_is lanes (End lane window) = refl

pub frame_at : (xs : List Placed) (ls : List Intake) (i : ℕ) (x : Placed) (l : Intake) (f : Frame) → AreApart xs → AreNamed xs ls → slice_get xs i ≡ Some x → slice_get ls i ≡ Some l → lane_in f ≡ name_of x
    → after_frame ls f ≡ slice_set ls i (taken l f)
frame_at xs ls i x l f apart named at lane own =
    after_is ls f ∙ ap (λ n. with_first (is_lane n) (λ z. taken z f) ls) own ∙ first_is (λ z. taken z f) xs ls i x l apart named at lane

named_set : (xs : List Placed) (ls : List Intake) (i : ℕ) (l m : Intake) → slice_get ls i ≡ Some l → ((n : Lane) → is_lane n m ≡ is_lane n l) → AreNamed xs ls → AreNamed xs (slice_set ls i m)
named_set [] [] i l m at same h = tt
named_set [] (k ∷ ls) i l m at same h = absurd h
named_set (x ∷ xs) [] i l m at same h = absurd h
named_set (x ∷ xs) (k ∷ ls) zero l m at same h = (λ n. same n ∙ ap (is_lane n) (sym (some_same k l at)) ∙ h.0 n, h.1)
named_set (x ∷ xs) (k ∷ ls) (suc i) l m at same h = (h.0, named_set xs ls i l m at same h.1)

-- frames of one lane change it alone
pub frames_at : (xs : List Placed) (ls : List Intake) (i : ℕ) (x : Placed) (l : Intake) (fs : List Frame) → AreApart xs → AreNamed xs ls → slice_get xs i ≡ Some x → slice_get ls i ≡ Some l
    → AllByRecursion (λ f. lane_in f ≡ name_of x) fs → fold after_frame ls fs ≡ slice_set ls i (fold taken l fs)
frames_at xs ls i x l [] apart named at lane own = set_same ls i l lane
frames_at xs ls i x l (f ∷ fs) apart named at lane own =
    let one : after_frame ls f ≡ slice_set ls i (taken l f) = frame_at xs ls i x l f apart named at lane own.0 in
    ap (λ zs. fold after_frame zs fs) one
    ∙ frames_at xs (slice_set ls i (taken l f)) i x (taken l f) fs apart (named_set xs ls i l (taken l f) lane (λ n. same_name n l f) named) at (set_here ls i l (taken l f) lane) own.1
    ∙ set_twice ls i (taken l f) (fold taken (taken l f) fs)
