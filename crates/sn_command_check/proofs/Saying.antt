-- What is so where `check` says yes.
use Rattle.std.proofs.Common.{◌≡◌, ℕ, ◌≤◌, List, [], ◌++◌, length, Bool, true, false, Result, Ok, Err, refl, ap, sym, subst, ◌∙◌}
use Rattle.sn_plan_lists.proofs.TypedBounds.{all_rising}
use Rattle.sn_cost.specs.Entries.{trained}
use Rattle.sn_plan_fit.specs.Pieces.{fit_misfit}
use Rattle.sn_io.specs.Counts.{ByName}
use Rattle.sn_plan.specs.Texts as plans
use Rattle.sn_plan.specs.declared.fault.PlanFault.{PlanFault}
use Rattle.sn_plan_grammar.specs.declared.plan.Plan.{Plan}
use Rattle.sn_command_texts.specs.Fitting.{Fitting, misfit_verdict}
use Rattle.sn_command_texts.specs.Queries.{QueriesIn}
use Rattle.sn_command_texts.specs.Texts.{PlanIn, SwitchIn, plan_fault}
use Rattle.sn_types_read.specs.Texts.{Queries}
use Rattle.sn_command_run.specs.Run.{window_ns}
use Rattle.sn_tree_space.specs.declared.node.Node.{Node}
use Rattle.sn_command.specs.Outcomes.{Outcome}
use Rattle.sn_command.specs.Stages.{Adds, Bytes, Judges, Text, Then, most_text, named}
use Rattle.sn_switch.specs.declared.switch.Switch.{Switch}
use Rattle.sn_command_training.specs.Training.{TrainingIn}
use Rattle.sn_command_texts.proofs.Accepted.{ok_err, switch_limits, typed_in, value_same}
use Rattle.sn_cost_training.specs.Trained.{Training}
use Rattle.sn_text.specs.Cutting.{tokens_of}
use Rattle.sn_tree_text.specs.Places.{from_byte}
use Rattle.sn_plan_fit.specs.Fits.{Fits}
use Rattle.sn_plan_grammar.specs.declared.plan.Entry.{Entry}
use Rattle.sn_plan_lists.specs.Theorems.{HaveRisingNumbers}
use Rattle.sn_cost_laws.specs.Sent.{cost_over}
use Rattle.sn_windows.specs.Rising.{Window}
use Rattle.sn_types.specs.declared.typed_query.TypedQuery.{TypedQuery}
use Rattle.sn_prices_grammar.specs.declared.prices.Shown.{Shown}
use Rattle.sn_prices_text.specs.Announced.{has_prices}
use Rattle.sn_command_prices.specs.After.{PricesAfter}
use Rattle.sn_command_prices.specs.Priced.{PricedFor}
use Rattle.sn_command_check.specs.Check.{After, Bounding, Check, PlanTree, Priced, Showing, Treed, bounded_line, yes_line}
use Rattle.sn_command_check.specs.Least.{SaysLeast, ShowsLeast, by_prices, by_tree, training_cost}
use Rattle.sn_command_check.specs.PlanTrees.{PlanBefore, TreeAfter}
use Rattle.sn_command_check.specs.Shown.{ShownFor}
use Rattle.sn_command_check.proofs.Leasts.{cost_is_so, none_costs_less, plan_fits}
use Rattle.sn_command_check.proofs.Stopping.{given_so, held, judged, passed, was_read}

-- a plan that is read with the byte after it is read
plan_read : (text : List ℕ) (found : Plan × ℕ) → PlanBefore text (Ok found) → PlanIn text (Ok found.0)
plan_read text found r = by_found r.found r.is r.same
  where
    by_found : (o : Result (Plan × ℕ) PlanFault) → plans.IsRead text o → Ok found ≡ named plan_fault o → PlanIn text (Ok found.0)
    by_found (Ok x) is same = record { found = Ok x.0; is = (x.1, is); same = ap (λ (y : Plan × ℕ). Ok y.0) (value_same found x same) }
    by_found (Err e) is same = ok_err same

-- both of two texts add nothing
silent_both : (a b t u : List ℕ) → t ≡ a ++ b → a ≡ [] → b ≡ u → t ≡ u
silent_both a b t u e f g = e ∙ ap (λ s. s ++ b) f ∙ g

-- where prices have no fault the cost is the plan's
abbrev CostLaw : Type 0
CostLaw = (s : Switch) (queries : List TypedQuery) (given : List Window) (plan : Plan) (x : Shown) → HaveRisingNumbers s queries → Fits queries s plan.entries → PricedFor s queries given plan x (Ok tt)
    → x.cost ≡ cost_over s queries plan.entries given

-- and no plan that fits costs less than they show
abbrev LeastLaw : Type 0
LeastLaw = (s : Switch) (queries : List TypedQuery) (given : List Window) (plan : Plan) (x : Shown) (entries : List Entry) → HaveRisingNumbers s queries → PricedFor s queries given plan x (Ok tt) → Fits queries s entries
    → x.least ≤ cost_over s queries entries given

module _ (read : Queries) (limits : Switch) (training : Training) (files : ByName (List ℕ)) where
  abbrev given : List Window
  given = trained training.numbers training.tuples

  -- what was said of a plan by what stands after it
  data SaidOf (plan : Plan) (reported : List ℕ) : Type 0 where
    of_tree : (tree : ℕ × List Node) → ShownFor limits read.queries given plan tree.0 tree.1 (Ok tt) → reported ≡ yes_line tree.0 (length tree.1) → SaidOf plan reported
    of_prices : (x : Shown) → PricedFor limits read.queries given plan x (Ok tt) → reported ≡ bounded_line x.cost x.least → SaidOf plan reported

  said_tree : (text : List ℕ) (plan : Plan) (byte : ℕ) (whole : Outcome (Unit {0})) → Treed read limits training text plan byte files whole → whole.end ≡ Ok tt → SaidOf plan whole.text
  said_tree text plan byte whole t e =
      let r = passed (Judges (TreeAfter text byte)) (λ tree. Showing read limits training plan tree) files whole tt e t in
      let tree = judged (TreeAfter text byte) files r.text r.value r.is in
      let judgement = ShownFor limits read.queries given plan r.value.0 r.value.1 in
      let s = passed (Judges judgement) (λ _. Adds (yes_line r.value.0 (length r.value.1))) files r.rest tt r.ends r.rest_is in
      let shown = judged judgement files s.text s.value s.is in
      of_tree r.value shown.0 (silent_both r.text r.rest.text whole.text _ r.texts tree.1 (silent_both s.text s.rest.text r.rest.text _ s.texts shown.1 (ap (λ (o : Outcome (Unit {0})). o.text) s.rest_is)))

  said_prices : (text : List ℕ) (plan : Plan) (byte : ℕ) (whole : Outcome (Unit {0})) → Priced read limits training text plan byte files whole → whole.end ≡ Ok tt → SaidOf plan whole.text
  said_prices text plan byte whole t e =
      let r = passed (Judges (PricesAfter text byte)) (λ x. Bounding read limits training plan x) files whole tt e t in
      let x = judged (PricesAfter text byte) files r.text r.value r.is in
      let judgement = PricedFor limits read.queries given plan r.value in
      let s = passed (Judges judgement) (λ _. Adds (bounded_line r.value.cost r.value.least)) files r.rest tt r.ends r.rest_is in
      let shown = judged judgement files s.text s.value s.is in
      of_prices r.value shown.0 (silent_both r.text r.rest.text whole.text _ r.texts x.1 (silent_both s.text s.rest.text r.rest.text _ s.texts shown.1 (ap (λ (o : Outcome (Unit {0})). o.text) s.rest_is)))

  said_after : (text : List ℕ) (plan : Plan) (byte : ℕ) (prices : Bool) (whole : Outcome (Unit {0})) → After read limits training text plan byte prices files whole → whole.end ≡ Ok tt → SaidOf plan whole.text
  said_after text plan byte true = said_prices text plan byte
  said_after text plan byte false = said_tree text plan byte

  -- what was said of a plan, and that it fits
  record Said (text : List ℕ) (whole : Outcome (Unit {0})) : Type 0 where
    plan : Plan × ℕ
    is_plan : PlanBefore text (Ok plan)
    fits : misfit_verdict (fit_misfit read.queries limits plan.0.entries) ≡ Ok tt
    reported : List ℕ
    of : SaidOf plan.0 reported
    same : whole.text ≡ reported

  said : (text : List ℕ) (whole : Outcome (Unit {0})) → PlanTree read limits training text files whole → whole.end ≡ Ok tt → Said text whole
  said text whole t e =
      let p = passed (Judges (PlanBefore text)) (λ found. Then (Fitting read.queries limits found.0) (λ _. After read limits training text found.0 found.1 (has_prices (from_byte found.1 (tokens_of text))))) files whole tt e t in
      let plan = judged (PlanBefore text) files p.text p.value p.is in
      let f = passed (Fitting read.queries limits p.value.0) (λ _. After read limits training text p.value.0 p.value.1 (has_prices (from_byte p.value.1 (tokens_of text)))) files p.rest tt p.ends p.rest_is in
      let fit = given_so (misfit_verdict (fit_misfit read.queries limits p.value.0.entries)) files f.text f.value f.is in
      record {
        plan = p.value;
        is_plan = plan.0;
        fits = fit.0;
        reported = f.rest.text;
        of = said_after text p.value.0 p.value.1 (has_prices (from_byte p.value.1 (tokens_of text))) f.rest f.rest_is f.ends;
        same = silent_both p.text p.rest.text whole.text _ p.texts plan.1 (silent_both f.text f.rest.text p.rest.text _ f.texts fit.1 refl);
      }

  -- What was said is so where prices without a fault are of the plan's cost and no plan costs less than they show.
  module _ (costs : CostLaw) (leasts : LeastLaw) (rising : HaveRisingNumbers limits read.queries) (plan : Plan) (fits : Fits read.queries limits plan.entries) where
    says : (reported : List ℕ) → SaidOf plan reported → SaysLeast (training_cost read limits training) (Fits read.queries limits) plan.entries reported
    says reported (of_tree tree shown same) =
        by_tree (length tree.1) (none_costs_less limits read.queries given rising plan.entries fits tree.0 tree.1 shown)
        (same ∙ ap (λ (n : ℕ). yes_line n (length tree.1)) (cost_is_so limits read.queries given rising plan.entries fits tree.0 tree.1 shown))
    says reported (of_prices x shown same) =
        by_prices x.least (λ others k. leasts limits read.queries given plan x others rising shown k)
        (same ∙ ap (λ (n : ℕ). bounded_line n x.least) (costs limits read.queries given plan x rising fits shown))

pub yes_shows : CostLaw → LeastLaw → (switch queries train plantree : List ℕ) (files : ByName (List ℕ)) (outcome : Outcome (Unit {0})) → Check switch queries train plantree files outcome → outcome.end ≡ Ok tt
    → ShowsLeast switch queries train plantree files outcome.text
yes_shows costs leasts switch queries train plantree files outcome c e =
    let q = passed (Text queries QueriesIn) (λ read. Then (Text switch SwitchIn) (λ limits. Then (Text train (TrainingIn (window_ns read))) (λ training. Then (Bytes most_text plantree) (λ text. PlanTree read limits training text)))) files outcome tt e c in
    let read = q.value in
    let of_queries = was_read queries QueriesIn files q.text read q.is in
    let s = passed (Text switch SwitchIn) (λ limits. Then (Text train (TrainingIn (window_ns read))) (λ training. Then (Bytes most_text plantree) (λ text. PlanTree read limits training text))) files q.rest tt q.ends q.rest_is in
    let limits = s.value in
    let of_switch = was_read switch SwitchIn files s.text limits s.is in
    let t = passed (Text train (TrainingIn (window_ns read))) (λ training. Then (Bytes most_text plantree) (λ text. PlanTree read limits training text)) files s.rest tt s.ends s.rest_is in
    let training = t.value in
    let of_train = was_read train (TrainingIn (window_ns read)) files t.text training t.is in
    let b = passed (Bytes most_text plantree) (λ text. PlanTree read limits training text) files t.rest tt t.ends t.rest_is in
    let of_plan = held most_text plantree files b.text b.value b.is in
    let said = said read limits training files b.value b.rest b.rest_is b.ends in
    let is_switch = switch_limits of_switch.bytes limits of_switch.judged in
    let rising = all_rising limits read.window_us read.queries (typed_in of_queries.bytes read of_queries.judged) is_switch in
    let fits = plan_fits read.queries limits said.plan.0.entries is_switch said.fits in
    let texts = silent_both q.text q.rest.text outcome.text _ q.texts of_queries.silent (silent_both s.text s.rest.text q.rest.text _ s.texts of_switch.silent
    (silent_both t.text t.rest.text s.rest.text _ t.texts of_train.silent (silent_both b.text b.rest.text t.rest.text _ b.texts of_plan.1 said.same))) in
    record {
      query_text = of_queries.bytes;
      switch_text = of_switch.bytes;
      capture = of_train.bytes;
      plan_text = b.value;
      has_queries = of_queries.held;
      has_switch = of_switch.held;
      has_capture = of_train.held;
      has_plan = of_plan.0;
      read = read;
      limits = limits;
      training = training;
      plan = said.plan.0;
      are_queries = of_queries.judged;
      is_switch = of_switch.judged;
      is_training = of_train.judged;
      is_plan = plan_read b.value said.plan said.is_plan;
      fits = fits;
      bounds = subst (SaysLeast (training_cost read limits training) (Fits read.queries limits) said.plan.0.entries) (sym texts)
          (says read limits training files costs leasts rising said.plan.0 fits said.reported said.of);
    }
