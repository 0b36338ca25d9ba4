-- Each query, switch and plan text is judged in one way.
use Rattle.std.proofs.Common.{◌≡◌, ℕ, List, [], ◌∷◌, Option, None, Some, Result, Ok, Err, refl, sym, subst, arith}
use Rattle.sn_text.specs.Cutting.{tokens_of}
use Rattle.sn_plan_fit.specs.declared.misfit.Misfit.{Misfit}
use Rattle.sn_plan.specs.Texts as plans
use Rattle.sn_plan.specs.declared.fault.PlanFault.{PlanFault}
use Rattle.sn_plan.specs.declared.fault.PlanFault.TheVariants as plan_faults
use Rattle.sn_plan.proofs.Readings as plan_readings
use Rattle.sn_plan_grammar.specs.declared.plan.Plan.{Plan}
use Rattle.sn_types_read.specs.Texts as query_texts
use Rattle.sn_types_read.specs.Texts.{Queries}
use Rattle.sn_types_read.proofs.OneReading.{reading_once}
use Rattle.sn_types_read.proofs.SomeReading.{reading_some}
use Rattle.sn_switch.specs.Texts as switches
use Rattle.sn_switch.specs.declared.fault.SwitchFault.{SwitchFault}
use Rattle.sn_switch.specs.declared.fault.SwitchFault.TheVariants as switch_faults
use Rattle.sn_switch.proofs.Readings as switch_readings
use Rattle.sn_switch.specs.declared.switch.Switch.{Switch}
use Rattle.sn_command.specs.declared.fault.Fault.{Fault}
use Rattle.sn_command.specs.declared.fault.Fault.TheVariants as faults
use Rattle.sn_command.specs.declared.refusal.Refusal.{Refusal}
use Rattle.sn_command.specs.Runs.{Answers, Runs, Works, WorksFrom}
use Rattle.sn_command.specs.Stages.{Bytes, Gives, HasVerdict, Text, most_text}
use Rattle.sn_command.specs.Worlds.{World}
use Rattle.sn_command.proofs.OneLemmas.{one_reading, read_once}
use Rattle.sn_command.proofs.StageLemmas.{MayCome, gives_as, named_may, text_judged}
use Rattle.sn_command.specs.Refusals.{refusing}
use Rattle.sn_command_texts.specs.Fitting.{misfit_verdict}
use Rattle.sn_command_texts.specs.Queries.{QueriesIn}
use Rattle.sn_command_texts.specs.Texts.{IsPlanRead, PlanIn, SwitchIn, plan_fault, plan_refusal, switch_fault, switch_refusal}

-- ---- query texts

pub queries_once : (text : List ℕ) (first second : Result Queries Fault) → QueriesIn text first → QueriesIn text second → first ≡ second
queries_once text = read_once faults.Queries (query_texts.IsRead text) (reading_once text)

-- a query text may be refused where neither the queries nor the switch were read before
pub queries_may : (text : List ℕ) (verdict : Result Queries Fault) → QueriesIn text verdict → MayCome 2 verdict
queries_may text = named_may 2 (λ fault. refl)

pub one_queries : (text : List ℕ) → HasVerdict (QueriesIn text)
one_queries text = let h : query_texts.HasReading text = reading_some text in one_reading faults.Queries (query_texts.IsRead text) (reading_once text) h.reading h.is

-- ---- switch texts

pub switch_once : (text : List ℕ) (first second : Result Switch Fault) → SwitchIn text first → SwitchIn text second → first ≡ second
switch_once text = read_once switch_fault (switches.IsRead text) (switch_readings.reading_once text)

-- a switch text may be refused where the switch wasn't read before
pub switch_may : (text : List ℕ) (verdict : Result Switch Fault) → SwitchIn text verdict → MayCome 1 verdict
switch_may text = named_may 1 of
  where
    of : (fault : SwitchFault) → MayCome {A = Switch} 1 (Err (switch_fault fault))
    of (switch_faults.Lex line) = omega arith
    of (switch_faults.Expected line) = omega arith
    of (switch_faults.Range line) = omega arith
    of (switch_faults.Twice line) = omega arith
    of (switch_faults.Missing line) = omega arith
    of switch_faults.Memory = tt

pub one_switch : (text : List ℕ) → HasVerdict (SwitchIn text)
one_switch text = let h : switches.HasReading text = switch_readings.reading_some text in one_reading switch_fault (switches.IsRead text) (switch_readings.reading_once text) h.reading h.is

-- a fault that is reported is judged so; memory may run out at any text
pub switch_refused : (text : List ℕ) (e : SwitchFault) → switches.IsFault (tokens_of text) e → Answers {A = Switch} (SwitchIn text) (Err (switch_refusal e))
switch_refused text (switch_faults.Lex line) h = record { found = Err (switch_faults.Lex line); is = (h, λ e. cc); same = refl }
switch_refused text (switch_faults.Expected line) h = record { found = Err (switch_faults.Expected line); is = (h, λ e. cc); same = refl }
switch_refused text (switch_faults.Range line) h = record { found = Err (switch_faults.Range line); is = (h, λ e. cc); same = refl }
switch_refused text (switch_faults.Twice line) h = record { found = Err (switch_faults.Twice line); is = (h, λ e. cc); same = refl }
switch_refused text (switch_faults.Missing line) h = record { found = Err (switch_faults.Missing line); is = (h, λ e. cc); same = refl }
switch_refused text switch_faults.Memory h = tt

-- ---- plan texts

pair_first : (x y : Plan × ℕ) → ◌≡◌ {A = Result (Plan × ℕ) PlanFault} (Ok x) (Ok y) → x.0 ≡ y.0
pair_first x y e = firsts x y (cc)
  where
    firsts : (a b : Plan × ℕ) → a ≡ b → a.0 ≡ b.0
    firsts a b same = rw same refl

err_same : (e f : PlanFault) → ◌≡◌ {A = Result (Plan × ℕ) PlanFault} (Err e) (Err f) → e ≡ f
err_same e f same = cc

plan_reading_once : (text : List ℕ) (first second : Result Plan PlanFault) → IsPlanRead text first → IsPlanRead text second → first ≡ second
plan_reading_once text (Ok p) (Ok q) h k = rw (pair_first (p, h.0) (q, k.0) (plan_readings.reading_once text (Ok (p, h.0)) (Ok (q, k.0)) h.1 k.1)) refl
plan_reading_once text (Ok p) (Err e) h k = absurd (let same = plan_readings.reading_once text (Ok (p, h.0)) (Err e) h.1 k in cc)
plan_reading_once text (Err e) (Ok q) h k = absurd (let same = plan_readings.reading_once text (Err e) (Ok (q, k.0)) h k.1 in cc)
plan_reading_once text (Err e) (Err f) h k = rw (err_same e f (plan_readings.reading_once text (Err e) (Err f) h k)) refl

pub plan_once : (text : List ℕ) (first second : Result Plan Fault) → PlanIn text first → PlanIn text second → first ≡ second
plan_once text = read_once plan_fault (IsPlanRead text) (plan_reading_once text)

-- the faults of a plan may come where the queries and the switch were read before
pub plan_may : (A : Type 0) (fault : PlanFault) → MayCome {A = A} 0 (Err (plan_fault fault))
plan_may A (plan_faults.Lex line) = tt
plan_may A (plan_faults.Expected line) = tt
plan_may A plan_faults.Memory = tt

pub one_plan : (text : List ℕ) → HasVerdict (PlanIn text)
one_plan text = by_reading (plan_readings.reading_some text).reading (plan_readings.reading_some text).is
  where
    by_reading : (r : Result (Plan × ℕ) PlanFault) → plans.IsRead text r → HasVerdict (PlanIn text)
    by_reading (Ok x) h = one_reading plan_fault (IsPlanRead text) (plan_reading_once text) (Ok x.0) (x.1, h)
    by_reading (Err e) h = one_reading plan_fault (IsPlanRead text) (plan_reading_once text) (Err e) h

pub plan_refused : (text : List ℕ) (e : PlanFault) → plans.IsFault (tokens_of text) e → Answers {A = Plan} (PlanIn text) (Err (plan_refusal e))
plan_refused text (plan_faults.Lex line) h = record { found = Err (plan_faults.Lex line); is = (h, λ e. cc); same = refl }
plan_refused text (plan_faults.Expected line) h = record { found = Err (plan_faults.Expected line); is = (h, λ e. cc); same = refl }
plan_refused text plan_faults.Memory h = tt

-- ---- whether a plan is refused

misfit_may : (misfit : Option Misfit) → MayCome 0 (misfit_verdict misfit)
misfit_may None = tt
misfit_may (Some misfit) = tt

-- what a test of a plan answers is given
pub gives_misfit : (misfit : Option Misfit) {answer : Result (Unit {0}) Refusal} {w : World} → answer ≡ refusing (misfit_verdict misfit) → Runs [] (Gives (misfit_verdict misfit)) w answer w
gives_misfit misfit e = gives_as (misfit_verdict misfit) (misfit_may misfit) e

-- ---- a file whose bytes are judged

module _ {A : Type 0} {judgement : List ℕ → Result A Fault → Type 0} {name : List ℕ} {before now : World} where
  pub judged_text : {unread : ℕ} {bytes text : List ℕ} {answer : Result A Refusal} → Works (name ∷ []) (Bytes most_text name) before (Ok bytes) now → text ≡ bytes → ((first second : Result A Fault) → judgement text first → judgement text second → first ≡ second)
      → ((verdict : Result A Fault) → judgement text verdict → MayCome unread verdict) → Answers (judgement text) answer → WorksFrom unread (name ∷ []) (Text name judgement) before answer now
  judged_text w same once may a = text_judged (subst (λ (bytes : List ℕ). Works (name ∷ []) (Bytes most_text name) before (Ok bytes) now) (sym same) w) once may a
