-- to be believed
-- What a search for the plan that costs least answers, and the text that is written of it.
use Rattle.std.specs.Prelude.{◌≡◌, ℕ, ◌≤◌, List, ◌++◌, Result, Ok, Err}
use Rattle.sn_plan_lists.specs.Chosen.{plan_at}
use Rattle.sn_plan.specs.Printing.{plan_text}
use Rattle.sn_cost_laws.specs.Space.{trained_plans}
use Rattle.sn_windows.specs.Rising.{Window}
use Rattle.sn_tree_space.specs.Space.{IsFirstLeast}
use Rattle.sn_tree_space.specs.Searches.{IsBudgetBound, any_bound}
use Rattle.sn_tree_space.specs.Trees.{count_expands, tree_of}
use Rattle.sn_command.specs.declared.fault.Fault.{Fault}
use Rattle.sn_command.specs.declared.fault.Fault.TheVariants.{Budget}
use Rattle.sn_switch.specs.declared.switch.Switch.{Switch}
use Rattle.sn_tree_text.specs.Printing.{nodes_text, tree_text}
use Rattle.sn_types.specs.declared.typed_query.TypedQuery.{TypedQuery}
use Rattle.sn_command_search.specs.declared.certificate.Certificate.{Certificate}

module _ (s : Switch) (queries : List TypedQuery) (given : List Window) (nodes : ℕ) where
  -- A certificate of the plans of queries on a switch, each with what it costs over training windows: the choices are those of
  -- the first of the plans that cost least, the plan is the one that they name, the cost is its cost, and the tree is its
  -- tree, in which at most this many nodes are expanded.
  pub record IsCertificate (c : Certificate) : Type 0 where
    pub first : IsFirstLeast (trained_plans s queries given) c.choices
    pub plan : c.plan.entries ≡ plan_at s queries c.choices
    pub cost : c.cost ≡ (trained_plans s queries given).lower c.choices
    pub tree : c.tree ≡ tree_of (trained_plans s queries given) c.choices
    pub within : count_expands any_bound c.tree ≤ nodes

  -- In the tree of the first of the plans that cost least more nodes are expanded. The fault says how many might be, and the
  -- number below which the search would have come to no further node.
  pub record IsSpent (fault : Fault) : Type 0 where
    pub bound : ℕ
    pub is : IsBudgetBound (trained_plans s queries given) nodes bound
    pub same : fault ≡ Budget (record { nodes = nodes; bound = bound })

  -- what the search answers, where this many nodes may be expanded
  abbrev pub SearchedIn : Result Certificate Fault → Type 0
  SearchedIn (Ok certificate) = IsCertificate certificate
  SearchedIn (Err fault) = IsSpent fault

-- the text of a certificate: the plan, the cost and the tree, with a line for each node
abbrev pub certificate_text : Certificate → List ℕ
certificate_text c = plan_text c.plan ++ tree_text c.cost (nodes_text c.tree)
