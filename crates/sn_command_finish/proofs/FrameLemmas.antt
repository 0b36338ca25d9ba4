-- One frame of the reports, over plain values.
use Rattle.std.proofs.Common.{◌≡◌, ℕ, ◌+◌, ◌≤◌, List, [], length, cond, IfOk, Option, None, Some, is_none, Result, Ok, Err, refl, ap, sym, ◌∙◌, subst, arith, append-nil, inl, inr}
use Rattle.sn_engine.specs.declared.fault.TakeFault.{TakeFault}
use Rattle.sn_engine.specs.declared.fault.TakeFault.TheVariants as takes
use Rattle.sn_engine.specs.declared.intake.Intake.{Intake}
use Rattle.sn_engine.specs.Intakes.{after_frame, first_open, is_lane, total, with_end}
use Rattle.sn_engine.specs.Taking.{Refuses, take_fault}
use Rattle.sn_engine.proofs.Firsts.{sum_same}
use Rattle.sn_engine.proofs.Lanes.{item_counted}
use Rattle.sn_report.specs.Items.{Frame}
use Rattle.sn_report.specs.declared.frame.Frame.TheVariants.{Row, End}
use Rattle.sn_command.specs.declared.fault.Fault.{Fault}
use Rattle.sn_command.specs.declared.refusal.Refusal.{Refusal}
use Rattle.sn_command.specs.declared.refusal.Refusal.TheVariants.{Memory, Usage, Missing, ReadFault, WriteFault, Refused}
use Rattle.sn_command.specs.Outcomes.{Outcome, silent}
use Rattle.sn_command.specs.Runs.{Answers, Runs}
use Rattle.sn_command.specs.Stages.{Adds, Does}
use Rattle.sn_command.specs.Worlds.{World}
use Rattle.sn_command.proofs.StageLemmas.{MayCome, runs_chance, runs_gives, text_stops, text_then}
use Rattle.sn_refine.specs.Steps.{Set}
use Rattle.sn_types.specs.declared.typed_query.TypedQuery.{TypedQuery}
use Rattle.sn_command_finish.specs.Taken.{Standing, close, close_ended, fault_at, kind_of, take_frame, take_verdict, taken_unless}

-- ---- text that goes out

module _ {A : Type 0} (text : List ℕ) (end : Result A Refusal) {before now : World} where
  pub block_stops : {refusal : Refusal} → Runs [] (Adds text) before (Err refusal) now → Runs [] (Does (record { text = text; end = end })) before (Err refusal) now
  block_stops {refusal} r = subst (λ (t : List ℕ). Runs [] (Does (record { text = t; end = end })) before (Err refusal) now) (append-nil text) (text_stops text (silent end) r)

pub block_then : {A : Type 0} (text : List ℕ) (value : A) {before now : World} → Runs [] (Adds text) before (Ok tt) now → Runs [] (Does (record { text = text; end = Ok value })) before (Ok value) now
block_then text value {before} {now} r =
    subst (λ (t : List ℕ). Runs [] (Does (record { text = t; end = Ok value })) before (Ok value) now) (append-nil text) (text_then text (silent (Ok value)) r (runs_gives (Ok value) now tt))

-- ---- a frame that isn't taken

pub refused_verdict : (at : ℕ) (f : TakeFault) (fault : Option TakeFault) → (f ≡ takes.Memory → ⊥) → Refuses {A = Unit {0}} (Err f) fault → Err (fault_at (kind_of f) at) ≡ take_verdict at fault
refused_verdict at f fault other (inl memory) = absurd (other memory.0)
refused_verdict at f fault other (inr is) = sym (ap (take_verdict at) is)

err_is : (fault : Option TakeFault) (at : ℕ) (f : Fault) → Err f ≡ take_verdict at fault → (taken : Outcome Standing) → taken_unless at fault taken ≡ silent (Err (Refused f))
err_is None at f e taken = absurd cc
err_is (Some g) at f e taken = ap (λ (x : Fault). silent (Err (Refused x))) (same (fault_at (kind_of g) at) f e)
  where
    same : (x y : Fault) → ◌≡◌ {A = Result (Unit {0}) Fault} (Err y) (Err x) → x ≡ y
    same x y e = cc

ok_is : (fault : Option TakeFault) (at : ℕ) → Ok tt ≡ take_verdict at fault → (taken : Outcome Standing) → taken_unless at fault taken ≡ taken
ok_is None at e taken = refl
ok_is (Some g) at e taken = absurd cc

-- a frame that isn't taken refuses neither the queries nor the switch
refused_may : (at : ℕ) (fault : Option TakeFault) (f : Fault) → Err f ≡ take_verdict at fault → MayCome {A = Standing} 0 (Err f)
refused_may at None f e = absurd cc
refused_may at (Some g) f e = subst (λ (x : Fault). MayCome {A = Standing} 0 (Err x)) (let same : fault_at (kind_of g) at ≡ f = cc in same) tt

pub none_is : (fault : Option TakeFault) (at : ℕ) → Ok tt ≡ take_verdict at fault → fault ≡ None
none_is None at e = refl
none_is (Some g) at e = absurd cc

pub take_stops : (at : ℕ) (fault : Option TakeFault) (taken : Outcome Standing) (refusal : Refusal) (w : World) → Answers {A = Unit {0}} (λ verdict. verdict ≡ take_verdict at fault) (Err refusal) → Runs [] (Does (taken_unless at fault taken)) w (Err refusal) w
take_stops at fault taken Memory w h = runs_chance (Does (taken_unless at fault taken)) w
take_stops at fault taken (Refused f) w h = subst (λ (o : Outcome Standing). Runs [] (Does o) w (Err (Refused f)) w) (sym (err_is fault at f h taken)) (runs_gives (Err f) w (refused_may at fault f h))
take_stops at fault taken Usage w h = absurd h
take_stops at fault taken Missing w h = absurd h
take_stops at fault taken ReadFault w h = absurd h
take_stops at fault taken WriteFault w h = absurd h

-- the same standing
pub standing_same : (a b : Standing) → a.lanes ≡ b.lanes → a.closed ≡ b.closed → a.kept ≡ b.kept → a.windows ≡ b.windows → a.emitted ≡ b.emitted → a ≡ b
standing_same a b l c k w e = made a.lanes b.lanes a.closed b.closed a.kept b.kept a.windows b.windows a.emitted b.emitted l c k w e
  where
    made : (l m : List Intake) (c d : Option ℕ) (k j : List Set) (w x e f : ℕ) → l ≡ m → c ≡ d → k ≡ j → w ≡ x → e ≡ f
        → ◌≡◌ {A = Standing} (record { lanes = l; closed = c; kept = k; windows = w; emitted = e }) (record { lanes = m; closed = d; kept = j; windows = x; emitted = f })
    made l m c d k j w x e f same also kept too last = rw (same, also, kept, too, last) refl

-- a frame is taken, and then the window is closed if it can be
pub take_goes : (queries : List TypedQuery) (at : ℕ) (frame : Frame) (s taken : Standing) {answer : Result Standing Refusal} {before now : World} → Ok tt ≡ take_verdict at (take_fault queries s.lanes s.closed frame) → taken ≡ record s { lanes = after_frame s.lanes frame }
    → Runs [] (Does (close_ended queries taken)) before answer now → Runs [] (Does (take_frame queries at frame s)) before answer now
take_goes queries at frame s taken {answer} {before} {now} none is r =
    let fault : Option TakeFault = take_fault queries s.lanes s.closed frame in
    subst (λ (o : Outcome Standing). Runs [] (Does o) before answer now) (ap (close_ended queries) is ∙ sym (ok_is fault at none (close_ended queries (record s { lanes = after_frame s.lanes frame })))) r

-- ---- a window is closed, or not

closed_is : (queries : List TypedQuery) (s : Standing) → first_open s.lanes ≡ None → close_ended queries s ≡ close queries s
closed_is queries s none = ap (λ (o : Option ℕ). cond (is_none o) (close queries s) (silent (Ok s))) none

open_is : (queries : List TypedQuery) (s : Standing) (lane : ℕ) → first_open s.lanes ≡ Some lane → close_ended queries s ≡ silent (Ok s)
open_is queries s lane some = ap (λ (o : Option ℕ). cond (is_none o) (close queries s) (silent (Ok s))) some

pub close_stops : (queries : List TypedQuery) (s : Standing) {refusal : Refusal} {before now : World} → first_open s.lanes ≡ None → Runs [] (Adds (close queries s).text) before (Err refusal) now → Runs [] (Does (close_ended queries s)) before (Err refusal) now
close_stops queries s {refusal} {before} {now} none r =
    subst (λ (o : Outcome Standing). Runs [] (Does o) before (Err refusal) now) (sym (closed_is queries s none)) (block_stops (close queries s).text (close queries s).end r)

pub close_goes : (queries : List TypedQuery) (s after : Standing) {before now : World} → first_open s.lanes ≡ None → (close queries s).end ≡ Ok after → Runs [] (Adds (close queries s).text) before (Ok tt) now → Runs [] (Does (close_ended queries s)) before (Ok after) now
close_goes queries s after {before} {now} none is r =
    subst (λ (o : Outcome Standing). Runs [] (Does o) before (Ok after) now) (ap (λ (e : Result Standing Refusal). record { text = (close queries s).text; end = e }) (sym is) ∙ sym (closed_is queries s none)) (block_then (close queries s).text after r)

pub stays_open : (queries : List TypedQuery) (s after : Standing) (lane : ℕ) (w : World) → first_open s.lanes ≡ Some lane → after ≡ s → Runs [] (Does (close_ended queries s)) w (Ok after) w
stays_open queries s after lane w some same =
    subst (λ (o : Outcome Standing). Runs [] (Does o) w (Ok after) w) (ap (λ (x : Standing). silent (Ok x)) same ∙ sym (open_is queries s lane some)) (runs_gives (Ok after) w tt)

-- ---- one item more at most

pub one_more : (queries : List TypedQuery) (lanes : List Intake) (closed : Option ℕ) (frame : Frame) → take_fault queries lanes closed frame ≡ None → total (after_frame lanes frame) ≤ total lanes + 1
one_more queries lanes closed (Row lane item) none = let one = item_counted queries lanes closed lane item none in omega (arith, one)
one_more queries lanes closed (End lane window) none = let same = sum_same (λ (x : Intake). length x.items) (is_lane lane) (with_end window) (λ x. refl) lanes in omega (arith, same)

-- what holds of the value of an answer implies something else of it
pub weaker : {A E : Type 0} (P Q : A → Type 0) (answer : Result A E) → ((value : A) → P value → Q value) → IfOk answer P → IfOk answer Q
weaker P Q (Ok value) f h = f value h
weaker P Q (Err e) f h = h
