-- What is chosen for what files hold.
use Rattle.std.proofs.Common.{◌≡◌, ℕ, ◌≤◌, List, [], ◌∷◌, Result, Ok, Err, Some, refl, ap, sym, ◌∙◌, subst}
use Rattle.sn_command.specs.declared.fault.Fault.{Fault}
use Rattle.sn_command.specs.declared.refusal.Refusal.{Refusal}
use Rattle.sn_command.specs.Outcomes.{HasOne, Outcome, Stage, silent}
use Rattle.sn_command.specs.Runs.{Runs, WorksFrom}
use Rattle.sn_command.specs.Stages.{Adds, Gives, GoesOn, Text, Then}
use Rattle.sn_command.specs.Worlds.{World}
use Rattle.sn_command.proofs.OneLemmas.{one_does, one_text, one_then}
use Rattle.sn_command_live.specs.Live.{trained_windows}
use Rattle.sn_command_live.proofs.Inversions.{judged_so}
use Rattle.sn_command_live.proofs.WorkLemmas.{work_then}
use Rattle.sn_command_prices.specs.Made.{IsPricedPlan, priced_text}
use Rattle.sn_command_prices.specs.Priced.{PricedFor}
use Rattle.sn_command_prices.specs.declared.make.PricedPlan.{PricedPlan}
use Rattle.sn_command_prices.proofs.Bare.{bare, bare_is}
use Rattle.sn_command_priced.specs.PlanPrices.{BoundsCosts, Chooser, ChoosesRight, PlanPrices, PlansByPrices, Question, Reads}
use Rattle.sn_command_run.specs.Run.{window_ns}
use Rattle.sn_command_texts.specs.Queries.{QueriesIn}
use Rattle.sn_command_texts.specs.Texts.{SwitchIn}
use Rattle.sn_command_texts.proofs.Accepted.{switch_limits, typed_in}
use Rattle.sn_command_texts.proofs.Verdicts.{one_queries, one_switch}
use Rattle.sn_command_training.specs.Training.{TrainingIn}
use Rattle.sn_command_training.proofs.TrainingLemmas.{one_training}
use Rattle.sn_cost_laws.specs.Sent.{cost_over}
use Rattle.sn_cost_training.specs.Trained.{Training}
use Rattle.sn_io.specs.Counts.{ByName}
use Rattle.sn_plan_fit.specs.Fits.{Fits}
use Rattle.sn_plan_grammar.specs.declared.plan.Entry.{Entry}
use Rattle.sn_plan_lists.proofs.TypedBounds.{all_rising}
use Rattle.sn_plan_lists.specs.Theorems.{HaveRisingNumbers}
use Rattle.sn_switch.specs.declared.switch.Switch.{Switch}
use Rattle.sn_types_read.specs.Texts.{Queries}

-- ---- what two stages gave

module _ {A B : Type 0} (first : Stage A) (second : A → Stage B) (files : ByName (List ℕ)) (value : B) where
  -- the first gave a value, and the second went on from it
  record Went : Type 0 where
    found : A
    begun : Outcome A
    is : first files begun
    ends : begun.end ≡ Ok found
    rest : Outcome B
    goes : second found files rest
    gives : rest.end ≡ Ok value

  went : (whole : Outcome B) → Then first second files whole → whole.end ≡ Ok value → Went
  went whole t e = by_end t.begun.end refl t.goes_on
    where
      by_end : (end : Result A Refusal) → t.begun.end ≡ end → GoesOn second files t.begun.text end whole → Went
      by_end (Ok found) same (rest, goes, is) = record {
        found = found;
        begun = t.begun;
        is = t.begins;
        ends = same;
        rest = rest;
        goes = goes;
        gives = sym (ap (λ (o : Outcome B). o.end) is) ∙ e;
      }
      by_end (Err r) same is = absurd (let no = sym (ap (λ (o : Outcome B). o.end) is) ∙ e in cc)

-- what a text was judged to be
module _ {A : Type 0} (name : List ℕ) (judgement : List ℕ → Result A Fault → Type 0) (files : ByName (List ℕ)) (value : A) where
  text_so : (o : Outcome A) → Text name judgement files o → o.end ≡ Ok value → (bytes : List ℕ) × judgement bytes (Ok value)
  text_so o t e =
      let w = went _ _ files value o t e in
      (w.found, (judged_so (judgement w.found) files w.rest value w.goes w.gives).0)

ok_is : {A : Type 0} {x y : A} → ◌≡◌ {A = Result A Refusal} (Ok x) (Ok y) → x ≡ y
ok_is e = cc

-- ---- what was asked

module _ (switch queries train : List ℕ) (files : ByName (List ℕ)) where
  -- accepted queries have levels that rise, and an accepted switch has sizes that do
  pub question_rises : (question : Question) → Reads switch queries train files (silent (Ok question)) → HaveRisingNumbers question.limits question.read.queries
  question_rises question t =
      let a = went _ _ files question (silent (Ok question)) t refl in
      let b = went _ _ files question a.rest a.goes a.gives in
      let c = went _ _ files question b.rest b.goes b.gives in
      let same : record { read = a.found; limits = b.found; training = c.found } ≡ question = ok_is (sym (ap (λ (o : Outcome Question). o.end) c.goes) ∙ c.gives) in
      let read = text_so queries QueriesIn files a.found a.begun a.is a.ends in
      let limits = text_so switch SwitchIn files b.found b.begun b.is b.ends in
      subst (λ (x : Question). HaveRisingNumbers x.limits x.read.queries) same
      (all_rising b.found a.found.window_us a.found.queries (typed_in read.0 a.found read.1) (switch_limits limits.0 b.found limits.1))

-- ---- one outcome

one_reads : (switch queries train : List ℕ) → HasOne (Reads switch queries train)
one_reads switch queries train =
    one_then (one_text queries QueriesIn one_queries) (λ read.
    one_then (one_text switch SwitchIn one_switch) (λ limits.
    one_then (one_text train (TrainingIn (window_ns read)) (one_training (window_ns read))) (λ training. one_does _)))

pub one_plan_prices : (choose : Chooser) (switch queries train : List ℕ) → HasOne (PlanPrices choose switch queries train)
one_plan_prices choose switch queries train = one_then (one_reads switch queries train) (λ question. one_does _)

-- ---- choices

-- the plan with nothing in the switch, and no prices
abbrev bare_choice : Chooser
bare_choice question = bare question.limits question.read.queries (trained_windows question.training)

module _ (switch queries train : List ℕ) {before now : World} {answer : Result (Unit {0}) Refusal} where
  -- the work ended before a plan was made
  pub unmade : WorksFrom 2 (queries ∷ switch ∷ train ∷ []) (PlanPrices bare_choice switch queries train) before answer now → PlansByPrices switch queries train before answer now
  unmade w = record {
    choose = bare_choice;
    right = λ files reported question t. bare_is question.limits question.read.queries (trained_windows question.training) (question_rises switch queries train files question t);
    works = w;
  }

  -- a plan was made for what was read, and written
  pub made : (question : Question) (p : PricedPlan) {middle : World} → WorksFrom 2 (queries ∷ switch ∷ train ∷ []) (Reads switch queries train) before (Ok question) middle
      → IsPricedPlan question.limits question.read.queries (trained_windows question.training) p → Runs [] (Adds (priced_text p)) middle answer now
      → PlansByPrices switch queries train before answer now
  made question p w is r = record {
    choose = λ _. p;
    right = λ files reported other t.
        let same : question ≡ other = ok_is ((w.runs.keeps files reported (silent (Ok other)) t).ends refl) in
        subst (λ (x : Question). IsPricedPlan x.limits x.read.queries (trained_windows x.training) p) same is;
    works = work_then [] w r;
  }
