-- The Ends of the lanes are of one window.
use Rattle.std.proofs.Common.{◌≡◌, ℕ, ◌+◌, ◌==◌, List, [], ◌∷◌, map, Bool, true, false, ◌&&◌, ◌||◌, not, cond, is_some, is_none, Option, None, Some, unwrap_or, refl, ap, sym, ◌∙◌, subst, eq-eqb}
use Rattle.std.specs.List.{AllByRecursion, find, list_all, list_any}
use Rattle.std.specs.Option.{option_map_or}
use Rattle.std.proofs.lemmas.Bool.{and_parts, false≢true}
use Rattle.sn_base.proofs.Lists.{by_test, nat_same, all_append, and_both}
use Rattle.sn_base.specs.declared.lane.Lane.{Lane}
use Rattle.sn_plan_grammar.specs.declared.plan.Entry.{Entry}
use Rattle.sn_plan_grammar.specs.declared.plan.Piece.{Piece}
use Rattle.sn_report.specs.declared.frame.Frame.TheVariants as frames
use Rattle.sn_report.specs.Items.{Item}
use Rattle.sn_types.specs.declared.typed_query.TypedQuery.{TypedQuery}
use Rattle.sn_engine.specs.declared.fault.TakeFault.{TakeFault}
use Rattle.sn_engine.specs.declared.fault.TakeFault.TheVariants.{Stranger, AfterEnd, Window}
use Rattle.sn_engine.specs.declared.intake.Intake.{Intake}
use Rattle.sn_engine.specs.Answers.{window_of}
use Rattle.sn_engine.specs.Intakes.{intake_for, intakes_of, is_lane, with_item, with_end, emptied, shared, has_ended, agrees, first_open, EndsAgree}
use Rattle.sn_base.specs.Changed.{with_first}
use Rattle.sn_engine.specs.Taking.{is_above, end_fault, take_fault}
use Rattle.sn_engine.proofs.Firsts.{found_none}

-- ---- one lane

same_window : (a b : ℕ) (o : Option ℕ) → option_map_or (λ end. end == a) o true ≡ true → option_map_or (λ end. end == b) o false ≡ true → b ≡ a
same_window a b None agreed ended = absurd (false≢true ended)
same_window a b (Some e) agreed ended = sym (nat_same e b ended) ∙ nat_same e a agreed

where_some : (window : ℕ) (o : Option ℕ) → is_some o ≡ true → option_map_or (λ end. end == window) o true ≡ option_map_or (λ end. end == window) o false
where_some window None some = absurd (false≢true some)
where_some window (Some e) some = refl

some_where : (o : Option ℕ) → is_none o ≡ false → is_some o ≡ true
some_where None e = absurd (false≢true (sym e))
some_where (Some n) e = refl

or_true : (a b : Bool) → (a || b) ≡ true → a ≡ false → b ≡ true
or_true a b h isnt = sym (ap (λ x. x || b) isnt) ∙ h

-- ---- lanes without an End

none_ended : (window : ℕ) (lanes : List Intake) → AllByRecursion (λ (x : Intake). x.end ≡ None) lanes → list_any (has_ended window) lanes ≡ false
none_ended window [] h = refl
none_ended window (x ∷ lanes) h =
    ap (λ (o : Option ℕ). option_map_or (λ end. end == window) o false || list_any (has_ended window) lanes) h.0 ∙ none_ended window lanes h.1

pub open_agree : (lanes : List Intake) → AllByRecursion (λ (x : Intake). x.end ≡ None) lanes → EndsAgree lanes
open_agree lanes h = λ window any. absurd (false≢true (sym (none_ended window lanes h) ∙ any))

open_in : (q : ℕ) (path : List ℕ) (pieces : List Piece) → AllByRecursion (λ (x : Intake). x.end ≡ None) (map (intake_for q path) pieces)
open_in q path [] = tt
open_in q path (p ∷ pieces) = (refl, open_in q path pieces)

open_of : (q : ℕ) (es : List Entry) → AllByRecursion (λ (x : Intake). x.end ≡ None) (intakes_of q es)
open_of q [] = tt
open_of q (e ∷ es) = all_append (λ (x : Intake). x.end ≡ None) (map (intake_for q e.levels) e.pieces) (intakes_of (q + 1) es) (open_in q e.levels e.pieces) (open_of (q + 1) es)

pub plan_agrees : (es : List Entry) → EndsAgree (intakes_of 0 es)
plan_agrees es = open_agree (intakes_of 0 es) (open_of 0 es)

open_emptied : (lanes : List Intake) → AllByRecursion (λ (x : Intake). x.end ≡ None) (map emptied lanes)
open_emptied [] = tt
open_emptied (x ∷ lanes) = (refl, open_emptied lanes)

-- ends are the same where several switches send
any_shared : (window : ℕ) (lanes : List Intake) → list_any (has_ended window) (map shared lanes) ≡ list_any (has_ended window) lanes
any_shared window [] = refl
any_shared window (x ∷ lanes) = ap (λ b. has_ended window x || b) (any_shared window lanes)

all_shared : (window : ℕ) (lanes : List Intake) → list_all (agrees window) (map shared lanes) ≡ list_all (agrees window) lanes
all_shared window [] = refl
all_shared window (x ∷ lanes) = ap (λ b. agrees window x && b) (all_shared window lanes)

pub shared_agree : (lanes : List Intake) → EndsAgree lanes → EndsAgree (map shared lanes)
shared_agree lanes h window ended = all_shared window lanes ∙ h window (sym (any_shared window lanes) ∙ ended)

pub emptied_agree : (lanes : List Intake) → EndsAgree (map emptied lanes)
emptied_agree lanes = open_agree (map emptied lanes) (open_emptied lanes)

-- ---- after an item

pub any_same : (p test : Intake → Bool) (change : Intake → Intake) → ((x : Intake) → p (change x) ≡ p x) → (xs : List Intake) → list_any p (with_first test change xs) ≡ list_any p xs
any_same p test change keeps [] = refl
any_same p test change keeps (x ∷ xs) =
    elim (test x) as (λ b. list_any p (cond b (change x ∷ xs) (x ∷ with_first test change xs)) ≡ (p x || list_any p xs)) [
      | true ↦ ap (λ b. b || list_any p xs) (keeps x)
      | false ↦ ap (λ b. p x || b) (any_same p test change keeps xs)
    ]

pub all_same : (p test : Intake → Bool) (change : Intake → Intake) → ((x : Intake) → p (change x) ≡ p x) → (xs : List Intake) → list_all p (with_first test change xs) ≡ list_all p xs
all_same p test change keeps [] = refl
all_same p test change keeps (x ∷ xs) =
    elim (test x) as (λ b. list_all p (cond b (change x ∷ xs) (x ∷ with_first test change xs)) ≡ (p x && list_all p xs)) [
      | true ↦ ap (λ b. b && list_all p xs) (keeps x)
      | false ↦ ap (λ b. p x && b) (all_same p test change keeps xs)
    ]

pub item_agrees : (test : Intake → Bool) (item : Item) (lanes : List Intake) → EndsAgree lanes → EndsAgree (with_first test (with_item item) lanes)
item_agrees test item lanes h = λ window any.
    all_same (agrees window) test (with_item item) (λ x. refl) lanes ∙ h window (sym (any_same (has_ended window) test (with_item item) (λ x. refl) lanes) ∙ any)

-- ---- after an End

one_window : (a b : ℕ) (lanes : List Intake) → list_all (agrees a) lanes ≡ true → list_any (has_ended b) lanes ≡ true → b ≡ a
one_window a b [] all any = absurd (false≢true any)
one_window a b (x ∷ lanes) all any =
    let parts = and_parts (agrees a x) (list_all (agrees a) lanes) all in
    by_test (has_ended b x)
    (λ is. same_window a b x.end parts.0 is)
    (λ isnt. one_window a b lanes parts.1 (or_true (has_ended b x) (list_any (has_ended b) lanes) any isnt))

all_ended_so : (test : Intake → Bool) (window : ℕ) (lanes : List Intake) → list_all (agrees window) lanes ≡ true → list_all (agrees window) (with_first test (with_end window) lanes) ≡ true
all_ended_so test window [] all = refl
all_ended_so test window (x ∷ lanes) all =
    let parts = and_parts (agrees window x) (list_all (agrees window) lanes) all in
    elim (test x) as (λ b. list_all (agrees window) (cond b (with_end window x ∷ lanes) (x ∷ with_first test (with_end window) lanes)) ≡ true) [
      | true ↦ and_both (window == window) (list_all (agrees window) lanes) (eq-eqb window window refl) parts.1
      | false ↦ and_both (agrees window x) (list_all (agrees window) (with_first test (with_end window) lanes)) parts.0 (all_ended_so test window lanes parts.1)
    ]

pub end_agrees : (test : Intake → Bool) (window : ℕ) (lanes : List Intake) → list_all (agrees window) lanes ≡ true → EndsAgree (with_first test (with_end window) lanes)
end_agrees test window lanes all = λ other any.
    let now = all_ended_so test window lanes all in
    let same = one_window window other (with_first test (with_end window) lanes) now any in
    subst (λ (w : ℕ). list_all (agrees w) (with_first test (with_end window) lanes) ≡ true) (sym same) now

pub none_some : {f : TakeFault} → Some f ≡ None → ⊥
none_some e = cc

all_of : (a b c : Bool) → cond a (Some AfterEnd) (cond (not (b && c)) (Some Window) None) ≡ None → c ≡ true
all_of true b c e = absurd (none_some e)
all_of false true true e = refl
all_of false true false e = absurd (none_some e)
all_of false false c e = absurd (none_some e)

-- an End is taken where no lane has ended another window
pub end_taken : (queries : List TypedQuery) (lanes : List Intake) (closed : Option ℕ) (lane : Lane) (window : ℕ) → take_fault queries lanes closed (frames.End lane window) ≡ None → list_all (agrees window) lanes ≡ true
end_taken queries lanes closed lane window none = by_found (find (is_lane lane) lanes) none
  where
    by_found : (o : Option Intake) → option_map_or (λ (x : Intake). end_fault lanes closed x window) o (Some Stranger) ≡ None → list_all (agrees window) lanes ≡ true
    by_found None e = absurd (none_some e)
    by_found (Some x) e = all_of (is_some x.end) (is_above closed window) (list_all (agrees window) lanes) e

-- ---- at a close

all_some : (lanes : List Intake) → find (λ (x : Intake). is_none x.end) lanes ≡ None → list_all (λ (x : Intake). is_some x.end) lanes ≡ true
all_some [] none = refl
all_some (x ∷ lanes) none =
    let open_at : Intake → Bool = λ (y : Intake). is_none y.end in
    by_test (is_none x.end)
    (λ is. absurd (no_some (sym (ap (λ b. cond b (Some x) (find open_at lanes)) is) ∙ none)))
    (λ isnt. and_both (is_some x.end) (list_all (λ (y : Intake). is_some y.end) lanes) (some_where x.end isnt) (all_some lanes (sym (ap (λ b. cond b (Some x) (find open_at lanes)) isnt) ∙ none)))
  where
    no_some : {y : Intake} → Some y ≡ None → ⊥
    no_some e = cc

all_in : (window : ℕ) (lanes : List Intake) → list_all (λ (x : Intake). is_some x.end) lanes ≡ true → list_all (agrees window) lanes ≡ true → list_all (has_ended window) lanes ≡ true
all_in window [] some all = refl
all_in window (x ∷ lanes) some all =
    let s = and_parts (is_some x.end) (list_all (λ (y : Intake). is_some y.end) lanes) some in
    let a = and_parts (agrees window x) (list_all (agrees window) lanes) all in
    and_both (has_ended window x) (list_all (has_ended window) lanes) (sym (where_some window x.end s.0) ∙ a.0) (all_in window lanes s.1 a.1)

first_in : (o : Option ℕ) → is_some o ≡ true → option_map_or (λ end. end == unwrap_or o 0) o false ≡ true
first_in None some = absurd (false≢true some)
first_in (Some e) some = eq-eqb e e refl

some_first : (x : Intake) (lanes : List Intake) → list_all (λ (y : Intake). is_some y.end) (x ∷ lanes) ≡ true → list_any (has_ended (window_of (x ∷ lanes))) (x ∷ lanes) ≡ true
some_first x lanes some =
    let s = and_parts (is_some x.end) (list_all (λ (y : Intake). is_some y.end) lanes) some in
    ap (λ b. b || list_any (has_ended (unwrap_or x.end 0)) lanes) (first_in x.end s.0)

-- where no lane is open, all have ended the window of the first
pub all_closed : (lanes : List Intake) → EndsAgree lanes → first_open lanes ≡ None → list_all (has_ended (window_of lanes)) lanes ≡ true
all_closed [] h none = refl
all_closed (x ∷ lanes) h none =
    let some = all_some (x ∷ lanes) (found_none (λ (y : Intake). is_none y.end) (x ∷ lanes) none) in
    all_in (window_of (x ∷ lanes)) (x ∷ lanes) some (h (window_of (x ∷ lanes)) (some_first x lanes some))
