-- Stages that add a text and give a value, and work that goes on after several files.
use Rattle.std.proofs.Common.{◌≡◌, ℕ, List, [], ◌∷◌, ◌++◌, Option, Result, Ok, Err, refl, sym, subst}
use Rattle.sn_command_search.specs.Certificates.{SearchedIn, certificate_text}
use Rattle.sn_command_search.specs.declared.certificate.Certificate.{Certificate}
use Rattle.sn_command_search.proofs.Verdicts.{search_may, search_once}
use Rattle.sn_types_read.specs.Texts.{Queries}
use Rattle.sn_command.specs.declared.fault.Fault.{Fault}
use Rattle.sn_command.specs.declared.refusal.Refusal.{Refusal}
use Rattle.sn_command.specs.Outcomes.{Keeps, Outcome, Stage}
use Rattle.sn_command.specs.Refusals.{seen_as}
use Rattle.sn_command.specs.Runs.{Answers, Runs, WorksFrom}
use Rattle.sn_command.specs.Stages.{Adds, Does, Judges, Text, Then}
use Rattle.sn_command.specs.Worlds.{World}
use Rattle.sn_command.proofs.StageLemmas.{runs_judges, runs_stops, runs_then, stage_stops, stage_then, err_err}
use Rattle.sn_switch.specs.declared.switch.Switch.{Switch}
use Rattle.sn_cost_training.specs.Trained.{Training}
use Rattle.sn_command_training.specs.Training.{TrainingIn}
use Rattle.sn_command_live.specs.Live.{SearchesAfter, trained_windows}

module _ {A : Type 0} (text : List ℕ) (value : A) where
  keeps_value : (answer : Result (Unit {0}) Refusal) (before now : Option (List ℕ)) → Keeps (record { text = text; end = Ok tt }) answer before now → Keeps (record { text = text; end = Ok value }) (seen_as (λ _. value) answer) before now
  keeps_value (Ok u) before now k = record { front = k.front; ends = λ e. refl; whole = k.whole }
  keeps_value (Err r) before now k = record { front = k.front; ends = λ e. absurd (let other = k.ends e in cc); whole = k.whole }

  -- a text was added, and a value is given
  pub adds_value : {before now : World} (answer : Result (Unit {0}) Refusal) → Runs [] (Adds text) before answer now → Runs [] (Does (record { text = text; end = Ok value })) before (seen_as (λ _. value) answer) now
  adds_value {before} {now} answer r = record {
    keeps = λ files reported outcome is.
        subst (λ (o : Outcome A). Keeps o (seen_as (λ _. value) answer) before.out.written now.out.written) (sym is) (keeps_value answer before.out.written now.out.written (r.keeps files reported (record { text = text; end = Ok tt }) refl));
    missing = λ e. r.missing (seen_err answer e);
    read_fault = λ e. r.read_fault (seen_err answer e);
    write_fault = λ e. r.write_fault (seen_err answer e);
    words = λ e. r.words (seen_err answer e);
    others = r.others;
    queries = λ fault e. r.queries fault (seen_err answer e);
    switch = λ fault e. r.switch fault (seen_err answer e);
    follows = r.follows;
  }
    where
      seen_err : (answer : Result (Unit {0}) Refusal) {refusal : Refusal} → ◌≡◌ {A = Result A Refusal} (seen_as (λ _. value) answer) (Err refusal) → ◌≡◌ {A = Result (Unit {0}) Refusal} answer (Err refusal)
      seen_err (Ok u) e = absurd (let other = e in cc)
      seen_err (Err r) e = err_err e

-- work that began with a file, and read some more
module _ {A B : Type 0} {first : Stage A} {second : A → Stage B} {unread : ℕ} {before now : World} {name : List ℕ} {names : List (List ℕ)} (more : List (List ℕ)) where
  pub work_stops : {refusal : Refusal} → WorksFrom unread (name ∷ names) first before (Err refusal) now → WorksFrom unread (name ∷ (names ++ more)) (Then first second) before (Err refusal) now
  work_stops w = record { runs = runs_stops more w.runs; unknown = λ e. err_err (w.unknown e) }

  pub work_then : {value : A} {answer : Result B Refusal} {later : World} → WorksFrom unread (name ∷ names) first before (Ok value) now → Runs more (second value) now answer later → WorksFrom unread (name ∷ (names ++ more)) (Then first second) before answer later
  work_then w r = record { runs = runs_then more w.runs r; unknown = λ e. absurd (let other = w.unknown e in cc) }

-- ---- training and search

-- the length of a window may be said otherwise
pub in_windows : (name : List ℕ) {window other : ℕ} {before now : World} {answer : Result Training Refusal} → window ≡ other → Runs (name ∷ []) (Text name (TrainingIn window)) before answer now → Runs (name ∷ []) (Text name (TrainingIn other)) before answer now
in_windows name {before = before} {now} {answer} e r = subst (λ (w : ℕ). Runs (name ∷ []) (Text name (TrainingIn w)) before answer now) e r

module _ (before : List ℕ) (read : Queries) (limits : Switch) (training : Training) (nodes : ℕ) where
  abbrev judgement : Result Certificate Fault → Type 0
  judgement = SearchedIn limits read.queries (trained_windows training) nodes

  judged : {here : World} (answer : Result Certificate Refusal) → Answers judgement answer → Runs [] (Judges judgement) here answer here
  judged {here} answer is = runs_judges judgement (search_once limits read.queries (trained_windows training) nodes) here (search_may limits read.queries (trained_windows training) nodes) answer is

  -- the search refused
  pub search_stops : {here : World} {refusal : Refusal} → Answers judgement (Err refusal) → Runs [] (SearchesAfter before read limits training nodes) here (Err refusal) here
  search_stops {refusal = refusal} is = stage_stops (judged (Err refusal) is)

  -- it gave a certificate, which was written
  pub search_then : {here there : World} {answer : Result (Unit {0}) Refusal} (c : Certificate) → Answers judgement (Ok c) → Runs [] (Adds (before ++ certificate_text c)) here answer there
      → Runs [] (SearchesAfter before read limits training nodes) here (seen_as (λ _. record { read = read; limits = limits; certificate = c }) answer) there
  search_then {answer = answer} c is r = stage_then (judged (Ok c) is) (adds_value (before ++ certificate_text c) (record { read = read; limits = limits; certificate = c }) answer r)
