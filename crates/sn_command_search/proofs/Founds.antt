-- What is found by a cost table of training windows is what is found by what plans cost over them.
use Rattle.std.proofs.Common.{◌≡◌, ℕ, ◌≤◌, List, refl, sym, ◌∙◌, subst}
use Rattle.sn_tree.specs.Alike.{AreAlike}
use Rattle.sn_tree.proofs.AlikePlans.{cost_alike, first_least_alike}
use Rattle.sn_tree.proofs.AlikeTrees.{budget_alike, tree_alike}
use Rattle.sn_plan_choices.specs.Costs.{entry_in}
use Rattle.sn_plan_choices.specs.declared.costs.CostTable.{CostTable}
use Rattle.sn_plan_lists.specs.Chosen.{plan_at}
use Rattle.sn_cost.specs.Entries.{trained}
use Rattle.sn_plan_space.specs.Reading.{plan_space}
use Rattle.sn_cost_laws.specs.Priced.{AreCounted}
use Rattle.sn_cost_laws.specs.Space.{trained_plans}
use Rattle.sn_cost_laws.proofs.Priced.{counted_alike}
use Rattle.sn_windows.specs.Rising.{Window}
use Rattle.sn_tree_space.specs.Space.{Space, IsFirstLeast}
use Rattle.sn_tree_space.specs.Searches.{IsBudgetBound, any_bound}
use Rattle.sn_tree_space.specs.Trees.{count_expands, tree_of}
use Rattle.sn_command.specs.declared.fault.Fault.TheVariants.{Budget}
use Rattle.sn_switch.specs.declared.switch.Switch.{Switch}
use Rattle.sn_types.specs.declared.typed_query.TypedQuery.{TypedQuery}
use Rattle.sn_command_search.specs.declared.certificate.Certificate.{Certificate}
use Rattle.sn_command_search.specs.Certificates.{IsCertificate, IsSpent}

-- ---- spaces that are alike

module _ (s : Switch) (queries : List TypedQuery) (given : List Window) (nodes : ℕ) (a : Space) (alike : AreAlike a (trained_plans s queries given)) where
  pub found_is : (c : Certificate) → IsFirstLeast a c.choices → c.tree ≡ tree_of a c.choices → count_expands any_bound c.tree ≤ nodes → c.cost ≡ a.lower c.choices → c.plan.entries ≡ plan_at s queries c.choices → IsCertificate s queries given nodes c
  found_is c first tree within cost plan = record {
    first = first_least_alike a (trained_plans s queries given) alike c.choices first;
    plan = plan;
    cost = cost ∙ cost_alike a (trained_plans s queries given) alike c.choices first.plan;
    tree = tree ∙ tree_alike a (trained_plans s queries given) alike c.choices first.plan.partial;
    within = within;
  }

  pub spent_is : (bound : ℕ) → IsBudgetBound a nodes bound → IsSpent s queries given nodes (Budget (record { nodes = nodes; bound = bound }))
  spent_is bound is = record { bound = bound; is = budget_alike a (trained_plans s queries given) alike nodes bound is; same = refl }

-- ---- by a table

-- the plans by a table of these tuples and numbers, as a space that is the same
pub priced : (s : Switch) (queries : List TypedQuery) (table : CostTable) (numbers ns : List ℕ) (tuples ts : List (List ℕ)) (a : Space) → ns ≡ numbers → ts ≡ tuples → AreCounted s queries (trained ns ts) (entry_in table) → a ≡ plan_space queries s table
    → AreAlike a (trained_plans s queries (trained numbers tuples))
priced s queries table numbers ns tuples ts a same also counted is =
    subst (λ (x : Space). AreAlike x (trained_plans s queries (trained numbers tuples))) (sym is)
    (subst (λ (k : List ℕ). AreAlike (plan_space queries s table) (trained_plans s queries (trained k tuples))) same
    (subst (λ (k : List (List ℕ)). AreAlike (plan_space queries s table) (trained_plans s queries (trained ns k))) also (counted_alike s queries (trained ns ts) (entry_in table) counted)))
