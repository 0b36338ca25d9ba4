-- A frame is taken by the engine's lane of its own place.
use Rattle.std.proofs.Common.{◌≡◌, ℕ, zero, suc, ◌<◌, ◌||◌, ◌==◌, List, [], ◌∷◌, map, length, Bool, true, false, not, cond, get_or, set, refl, ap, sym, ◌∙◌, arith}
use Rattle.std.specs.List.{list_all}
use Rattle.std.proofs.lemmas.Bool.{false≢true}
use Rattle.std.proofs.lemmas.List.{length-map}
use Rattle.sn_base.specs.declared.lane.Lane.{Lane}
use Rattle.sn_base.proofs.Lists.{nat_same, nat_self, and_parts, and_both}
use Rattle.sn_core.specs.Events.{change_at}
use Rattle.sn_core.specs.declared.supply.Frame.{Frame}
use Rattle.sn_core.specs.declared.supply.Frame.TheVariants.{Row, Last}
use Rattle.sn_core.specs.declared.supply.Window.{Window}
use Rattle.sn_core.specs.declared.supply.Window.TheVariants.{Idle, Begun, Closed}
use Rattle.sn_core.proofs.Tests.{change_same}
use Rattle.sn_engine_lockstep.specs.Work.{taken}
use Rattle.sn_engine.specs.Intakes.{after_frame, agrees, emptied, is_lane, lane_at}
use Rattle.sn_base.specs.Changed.{with_first}
use Rattle.sn_engine.specs.declared.intake.Intake.{Intake}
use Rattle.sn_report.specs.Items.{Frame as Report}
use Rattle.sn_report.specs.declared.frame.Frame.TheVariants.{Row as Sent, End}
use Rattle.sn_report.specs.Items.{Item}
use Rattle.sn_core_net.specs.declared.holder.Holder.{Holder}
use Rattle.sn_core_net.specs.Facts.{are_named, ends_agree, names_of}
use Rattle.sn_core_net.specs.Reports.{are_same, frame_of, is_own, report_of, window_number}
use Rattle.sn_core_net.proofs.Zips.{all_at}
use Rattle.sn_base.proofs.Tests.{three_parts}

pub no_more : (b : Bool) → not b ≡ true → b ≡ false
no_more true e = sym e
no_more false e = refl

get_name : (hs : List Holder) (n : ℕ) (d : Lane) (h : Holder) → n < length hs → get_or (names_of hs) n d ≡ (get_or hs n h).sender.lane
get_name [] n d h within = absurd (omega arith)
get_name (k ∷ hs) zero d h within = refl
get_name (k ∷ hs) (suc n) d h within = get_name hs n d h (omega arith)

-- the lane of a name is the first that has it
first_named : (change : Intake → Intake) (names : List Lane) (xs : List Intake) (n : ℕ) (d : Lane) → are_named names (map emptied xs) ≡ true → n < length names → with_first (is_lane (get_or names n d)) change xs ≡ change_at change xs n
first_named change [] xs n d named within = absurd (omega arith)
first_named change (name ∷ names) [] n d named within = absurd (false≢true named)
first_named change (name ∷ names) (x ∷ xs) zero d named within =
    let parts = three_parts (is_lane name x) (list_all (λ other. not (is_lane other x)) names) (are_named names (map emptied xs)) named in
    ap (λ b. cond b (change x ∷ xs) (x ∷ with_first (is_lane name) change xs)) parts.0
first_named change (name ∷ names) (x ∷ xs) (suc n) d named within =
    let parts = three_parts (is_lane name x) (list_all (λ other. not (is_lane other x)) names) (are_named names (map emptied xs)) named in
    let other : Lane = get_or names n d in
    ap (λ b. cond b (change x ∷ xs) (x ∷ with_first (is_lane other) change xs)) (no_more (is_lane other x) (all_at (λ o. not (is_lane o x)) names n d parts.1 (omega arith)))
    ∙ ap (λ ys. x ∷ ys) (first_named change names xs n d parts.2 (omega arith))

reported : (xs : List Intake) (name : Lane) (window : ℕ) (frame : Frame Item) → after_frame xs (report_of name window frame) ≡ with_first (is_lane name) (λ x. taken x (report_of name window frame)) xs
reported xs name window (Row item) = refl
reported xs name window Last = refl

-- the engine's lanes after a frame of the lane of this number
pub frame_taken : (hs : List Holder) (xs : List Intake) (n window : ℕ) (h : Holder) (frame : Frame Item) → are_named (names_of hs) (map emptied xs) ≡ true → n < length hs → h ≡ get_or hs n h →
    after_frame xs (report_of h.sender.lane window frame) ≡ change_at (λ x. taken x (report_of h.sender.lane window frame)) xs n
frame_taken hs xs n window h frame named within own =
    let change : Intake → Intake = λ x. taken x (report_of h.sender.lane window frame) in
    reported xs h.sender.lane window frame
    ∙ ap (λ name. with_first (is_lane name) change xs) (ap (λ (k : Holder). k.sender.lane) own ∙ sym (get_name hs n h.sender.lane h within))
    ∙ first_named change (names_of hs) xs n h.sender.lane named (omega (arith, within, length-map hs (λ (k : Holder). k.sender.lane)))

-- ---- what a frame leaves

still_empty : (x : Intake) (name : Lane) (window : ℕ) (frame : Frame Item) → emptied (taken x (report_of name window frame)) ≡ emptied x
still_empty x name window (Row item) = refl
still_empty x name window Last = refl

pub taken_emptied : (name : Lane) (window : ℕ) (frame : Frame Item) (xs : List Intake) (n : ℕ) → map emptied (change_at (λ x. taken x (report_of name window frame)) xs n) ≡ map emptied xs
taken_emptied name window frame xs n = change_same (λ x. taken x (report_of name window frame)) emptied (λ x. still_empty x name window frame) xs n

pub all_change : {X : Type 0} (test : X → Bool) (change : X → X) → ((x : X) → test x ≡ true → test (change x) ≡ true) → (xs : List X) (n : ℕ) → list_all test xs ≡ true → list_all test (change_at change xs n) ≡ true
all_change test change keeps [] n e = e
all_change test change keeps (x ∷ xs) zero e =
    let parts = and_parts (test x) (list_all test xs) e in
    and_both (test (change x)) (list_all test xs) (keeps x parts.0) parts.1
all_change test change keeps (x ∷ xs) (suc n) e =
    let parts = and_parts (test x) (list_all test xs) e in
    and_both (test x) (list_all test (change_at change xs n)) parts.0 (all_change test change keeps xs n parts.1)

agrees_still : (name : Lane) (window : ℕ) (frame : Frame Item) (x : Intake) → agrees window x ≡ true → agrees window (taken x (report_of name window frame)) ≡ true
agrees_still name window (Row item) x e = e
agrees_still name window Last x e = nat_self window

pub taken_agrees : (window : Window) (name : Lane) (frame : Frame Item) (xs : List Intake) (n : ℕ) → ends_agree window xs ≡ true → ends_agree window (change_at (λ x. taken x (report_of name (window_number window) frame)) xs n) ≡ true
taken_agrees Idle name frame xs n e = refl
taken_agrees (Begun number) name frame xs n e = all_change (agrees number) (λ x. taken x (report_of name number frame)) (agrees_still name number frame) xs n e
taken_agrees (Closed number) name frame xs n e = refl

-- a lane of the switch is changed, and keeps its name
pub names_set : (hs : List Holder) (n : ℕ) (d h : Holder) → n < length hs → h.sender.lane ≡ (get_or hs n d).sender.lane → names_of (set hs n h) ≡ names_of hs
names_set [] n d h within e = absurd (omega arith)
names_set (k ∷ hs) zero d h within e = ap (λ name. name ∷ names_of hs) e
names_set (k ∷ hs) (suc n) d h within e = ap (λ names. k.sender.lane ∷ names) (names_set hs n d h (omega arith) e)

pub or_kept : (a b c : Bool) → (a || b) ≡ true → (b ≡ true → c ≡ true) → (a || c) ≡ true
or_kept true b c e f = refl
or_kept false b c e f = f e

-- ---- frames of a lane

same_name : (a b : Lane) → are_same a b ≡ true → a ≡ b
same_name a b e =
    let parts = three_parts (a.query == b.query) (a.level == b.level) (a.branch == b.branch) e in
    ap (λ q. lane_at q a.level a.branch) (nat_same a.query b.query parts.0) ∙ ap (λ l. lane_at b.query l a.branch) (nat_same a.level b.level parts.1) ∙ ap (lane_at b.query b.level) (nat_same a.branch b.branch parts.2)

-- what the engine takes is what it learns from the frame
pub own_frame : (name : Lane) (window : ℕ) (frame : Report) → is_own name window frame ≡ true → frame ≡ report_of name window (frame_of frame)
own_frame name window (Sent other item) e = ap (λ (n : Lane). Sent n item) (same_name other name e)
own_frame name window (End other number) e =
    let parts = and_parts (are_same other name) (number == window) e in
    ap (λ (n : Lane). End n number) (same_name other name parts.0) ∙ ap (End name) (nat_same number window parts.1)
