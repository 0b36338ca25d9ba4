-- What the checker says of the space of a table is so of the plans by their cost over the windows that the table counts.
use Rattle.std.proofs.Common.{◌≡◌, ℕ, List, Result, ap, sym, ◌∙◌, subst}
use Rattle.sn_tree.proofs.AlikeFaults.{fault_alike}
use Rattle.sn_plan_choices.specs.Costs.{entry_in}
use Rattle.sn_plan_choices.specs.declared.costs.CostTable.{CostTable}
use Rattle.sn_plan_lists.specs.Chosen.{plan_choices}
use Rattle.sn_plan_lists.specs.Theorems.{plans_of}
use Rattle.sn_cost.specs.Entries.{trained}
use Rattle.sn_plan_grammar.specs.declared.plan.Plan.{Plan}
use Rattle.sn_cost_laws.proofs.Priced.{counted_alike}
use Rattle.sn_cost_laws.specs.Priced.{AreCounted}
use Rattle.sn_cost_laws.specs.Space.{trained_plans}
use Rattle.sn_windows.specs.Rising.{Window}
use Rattle.sn_tree_space.specs.declared.node.Node.{Node}
use Rattle.sn_tree_space.specs.Space.{IsPlan, Space}
use Rattle.sn_switch.specs.declared.switch.Switch.{Switch}
use Rattle.sn_tree.specs.Faults.{Answers, tree_fault}
use Rattle.sn_tree.specs.declared.fault.TreeFault.{TreeFault}
use Rattle.sn_types.specs.declared.typed_query.TypedQuery.{TypedQuery}

-- a list is a plan of a space, where it is so of what they equal
pub plan_is : (space other : Space) (list choices : List ℕ) → space ≡ other → list ≡ choices → IsPlan other choices → IsPlan space list
plan_is space other list choices e f plan = subst (λ (s : Space). IsPlan s list) (sym e) (subst (λ (l : List ℕ). IsPlan other l) (sym f) plan)

module _ (s : Switch) (queries : List TypedQuery) (table : CostTable) where
  pub counted_of : (numbers found : List ℕ) (tuples seen : List (List ℕ)) → found ≡ numbers → seen ≡ tuples → AreCounted s queries (trained found seen) (entry_in table) → AreCounted s queries (trained numbers tuples) (entry_in table)
  counted_of numbers found tuples seen e f counted =
      subst (λ (ns : List ℕ). AreCounted s queries (trained ns tuples) (entry_in table)) e (subst (λ (ts : List (List ℕ)). AreCounted s queries (trained found ts) (entry_in table)) f counted)

  pub answers_same : (given : List Window) (plan : Plan) (space : Space) (list choices : List ℕ) (paid cost : ℕ) (found nodes : List Node) (r : Result (Unit {0}) TreeFault) → AreCounted s queries given (entry_in table)
      → space ≡ plans_of s (entry_in table) queries → list ≡ choices → choices ≡ plan_choices s queries plan.entries → IsPlan (plans_of s (entry_in table) queries) choices → paid ≡ cost → found ≡ nodes
      → Answers r (tree_fault space list paid found) → Answers r (tree_fault (trained_plans s queries given) (plan_choices s queries plan.entries) cost nodes)
  answers_same given plan space list choices paid cost found nodes r counted e f g is p h =
      let same : tree_fault space list paid found ≡ tree_fault (trained_plans s queries given) (plan_choices s queries plan.entries) cost nodes =
      ap (λ (c : ℕ). tree_fault space list c found) p
      ∙ ap (λ (sp : Space). tree_fault sp list cost found) e
      ∙ ap (λ (l : List ℕ). tree_fault (plans_of s (entry_in table) queries) l cost found) f
      ∙ fault_alike (plans_of s (entry_in table) queries) (trained_plans s queries given) (counted_alike s queries given (entry_in table) counted) choices is.partial cost found
      ∙ ap (λ (l : List ℕ). tree_fault (trained_plans s queries given) l cost found) g
      ∙ ap (λ (ns : List Node). tree_fault (trained_plans s queries given) (plan_choices s queries plan.entries) cost ns) h in
      subst (Answers r) same
