-- A text with a plan and its tree is judged in one way.
use Rattle.std.proofs.Common.{◌≡◌, ℕ, List, Option, None, Some, Result, Ok, Err, refl, ap, sym, subst, ◌∙◌, inl, inr}
use Rattle.sn_command_texts.specs.Texts.{plan_fault, plan_refusal}
use Rattle.sn_plan.specs.Texts as plans
use Rattle.sn_plan.specs.declared.fault.PlanFault.{PlanFault}
use Rattle.sn_plan.specs.declared.fault.PlanFault.TheVariants as plan_faults
use Rattle.sn_plan.proofs.Readings as plan_readings
use Rattle.sn_plan_grammar.specs.declared.plan.Plan.{Plan}
use Rattle.sn_plan_lists.specs.Chosen.{plan_choices}
use Rattle.sn_cost_laws.specs.Space.{trained_plans}
use Rattle.sn_windows.specs.Rising.{Window}
use Rattle.sn_tree_space.specs.declared.node.Node.{Node}
use Rattle.sn_command.specs.declared.fault.Fault.{Fault}
use Rattle.sn_command.specs.Runs.{Answers}
use Rattle.sn_command.specs.Stages.{HasVerdict}
use Rattle.sn_command.proofs.OneLemmas.{one_reading, read_once}
use Rattle.sn_command.proofs.StageLemmas.{MayCome}
use Rattle.sn_switch.specs.declared.switch.Switch.{Switch}
use Rattle.sn_text.specs.Cutting.{tokens_of}
use Rattle.sn_tree.specs.Faults as tree
use Rattle.sn_tree.specs.declared.fault.TreeFault.{TreeFault}
use Rattle.sn_tree.specs.declared.fault.TreeFault.TheVariants as flaws
use Rattle.sn_tree_text.specs.Places.{from_byte}
use Rattle.sn_tree_text.specs.Texts as trees
use Rattle.sn_tree_text.specs.declared.fault.TextFault.{TextFault}
use Rattle.sn_tree_text.specs.declared.fault.TextFault.TheVariants as tree_faults
use Rattle.sn_tree_text.proofs.Readings as tree_readings
use Rattle.sn_types.specs.declared.typed_query.TypedQuery.{TypedQuery}
use Rattle.sn_command_check.specs.PlanTrees.{PlanBefore, TreeAfter, tree_text_fault, tree_text_refusal}
use Rattle.sn_command_check.specs.Shown.{ShownFor, flaw_refusal, flaw_verdict}

-- ---- the plan

pub plan_once : (text : List ℕ) (first second : Result (Plan × ℕ) Fault) → PlanBefore text first → PlanBefore text second → first ≡ second
plan_once text = read_once plan_fault (plans.IsRead text) (plan_readings.reading_once text)

pub one_plan_before : (text : List ℕ) → HasVerdict (PlanBefore text)
one_plan_before text = one_reading plan_fault (plans.IsRead text) (plan_readings.reading_once text) (plan_readings.reading_some text).reading (plan_readings.reading_some text).is

pub plan_refused : (text : List ℕ) (e : PlanFault) → plans.IsFault (tokens_of text) e → Answers {A = Plan × ℕ} (PlanBefore text) (Err (plan_refusal e))
plan_refused text (plan_faults.Lex line) h = record { found = Err (plan_faults.Lex line); is = (h, λ e. cc); same = refl }
plan_refused text (plan_faults.Expected line) h = record { found = Err (plan_faults.Expected line); is = (h, λ e. cc); same = refl }
plan_refused text plan_faults.Memory h = tt

-- ---- the cost and the tree

pub tree_once : (text : List ℕ) (byte : ℕ) (first second : Result (ℕ × List Node) Fault) → TreeAfter text byte first → TreeAfter text byte second → first ≡ second
tree_once text byte = read_once tree_text_fault (trees.IsRead text byte) (tree_readings.reading_once text byte)

-- the faults of a cost and a tree may come where the queries and the switch were read before
pub tree_may : (A : Type 0) (fault : TextFault) → MayCome {A = A} 0 (Err (tree_text_fault fault))
tree_may A (tree_faults.Lex line) = tt
tree_may A (tree_faults.Expected line) = tt
tree_may A tree_faults.Memory = tt

pub one_tree_after : (text : List ℕ) (byte : ℕ) → HasVerdict (TreeAfter text byte)
one_tree_after text byte =
    one_reading tree_text_fault (trees.IsRead text byte) (tree_readings.reading_once text byte) (tree_readings.reading_some text byte).reading (tree_readings.reading_some text byte).is

pub tree_refused : (text : List ℕ) (byte : ℕ) (e : TextFault) → trees.IsFault (from_byte byte (tokens_of text)) e → Answers {A = ℕ × List Node} (TreeAfter text byte) (Err (tree_text_refusal e))
tree_refused text byte (tree_faults.Lex line) h = record { found = Err (tree_faults.Lex line); is = (h, λ e. cc); same = refl }
tree_refused text byte (tree_faults.Expected line) h = record { found = Err (tree_faults.Expected line); is = (h, λ e. cc); same = refl }
tree_refused text byte tree_faults.Memory h = tt

-- ---- what they show

flaw_may : (fault : Option TreeFault) → MayCome 0 (flaw_verdict fault)
flaw_may None = tt
flaw_may (Some (flaws.Cost node want got)) = tt
flaw_may (Some (flaws.Shape node want got)) = tt
flaw_may (Some (flaws.Bound node want got)) = tt
flaw_may (Some (flaws.NotBroken node want got)) = tt
flaw_may (Some (flaws.NoPlan node want got)) = tt
flaw_may (Some flaws.Memory) = tt

module _ (s : Switch) (queries : List TypedQuery) (given : List Window) (plan : Plan) (cost : ℕ) (nodes : List Node) where
  pub shown_once : (first second : Result (Unit {0}) Fault) → ShownFor s queries given plan cost nodes first → ShownFor s queries given plan cost nodes second → first ≡ second
  shown_once first second a b = a ∙ sym b

  -- what a tree shows refuses neither the queries nor the switch
  pub shown_may : (verdict : Result (Unit {0}) Fault) → ShownFor s queries given plan cost nodes verdict → MayCome 0 verdict
  shown_may verdict is = subst (λ (v : Result (Unit {0}) Fault). MayCome 0 v) (sym is) (flaw_may (tree.tree_fault (trained_plans s queries given) (plan_choices s queries plan.entries) cost nodes))

  pub one_shown : HasVerdict (ShownFor s queries given plan cost nodes)
  one_shown = record { verdict = _; is = refl; once = shown_once }

-- an answer reports a fault, or that there is none
module _ (fault : Option TreeFault) where
  abbrev Verdict : Result (Unit {0}) Fault → Type 0
  Verdict verdict = verdict ≡ flaw_verdict fault

  fault_reported : (e : TreeFault) → Some e ≡ fault → Answers Verdict (Err (flaw_refusal e))
  fault_reported (flaws.Cost node want got) is = ap flaw_verdict is
  fault_reported (flaws.Shape node want got) is = ap flaw_verdict is
  fault_reported (flaws.Bound node want got) is = ap flaw_verdict is
  fault_reported (flaws.NotBroken node want got) is = ap flaw_verdict is
  fault_reported (flaws.NoPlan node want got) is = ap flaw_verdict is
  fault_reported flaws.Memory is = tt

  no_memory : (e : TreeFault) → e ≡ flaws.Memory → Answers Verdict (Err (flaw_refusal e))
  no_memory (flaws.Cost node want got) is = cc
  no_memory (flaws.Shape node want got) is = cc
  no_memory (flaws.Bound node want got) is = cc
  no_memory (flaws.NotBroken node want got) is = cc
  no_memory (flaws.NoPlan node want got) is = cc
  no_memory flaws.Memory is = tt

  pub tree_flawed : (e : TreeFault) → tree.Answers {A = Unit {0}} (Err e) fault → Answers Verdict (Err (flaw_refusal e))
  tree_flawed e (inl memory) = no_memory e (let same : e ≡ flaws.Memory = cc in same)
  tree_flawed e (inr is) = fault_reported e is

  pub tree_fine : tree.Answers {A = Unit {0}} (Ok tt) fault → Verdict (Ok tt)
  tree_fine (inl memory) = absurd cc
  tree_fine (inr is) = ap flaw_verdict is
