-- serves proofs
-- The plans that fit are those that complete lists of choices name.
use Rattle.std.specs.Prelude.{◌≡◌, ℕ, List}
use Rattle.std.specs.List.{AllByRecursion}
use Rattle.sn_plan_grammar.specs.declared.plan.Entry.{Entry}
use Rattle.sn_switch.specs.declared.switch.Switch.{Switch}
use Rattle.sn_types.specs.declared.typed_query.TypedQuery.{TypedQuery}
use Rattle.sn_base.specs.Rising.{IsRising}
use Rattle.sn_plan_fit.specs.Fits.{Fits}
use Rattle.sn_tree_space.specs.Space.{Space, IsPlan}
use Rattle.sn_tree_space.specs.Agendas.{agenda_space}
use Rattle.sn_plan_choices.specs.Planning.{first_tasks, planning}
use Rattle.sn_plan_lists.specs.Chosen.{plan_at, plan_choices, HasLevels}
use Rattle.sn_plan_lists.specs.Costs.{plan_cost}

-- the plans of queries on a switch, by these entries of a cost table
abbrev pub plans_of : Switch → (ℕ → ℕ → ℕ → ℕ → ℕ) → List TypedQuery → Space
plans_of s entry queries = agenda_space (planning s entry) (first_tasks 0 queries)

-- a plan and a list of choices are one another's, and the list's bound is the plan's cost
pub record AreOne (s : Switch) (entry : ℕ → ℕ → ℕ → ℕ → ℕ) (queries : List TypedQuery) (r : List ℕ) (entries : List Entry) : Type 0 where
  pub plan : plan_at s queries r ≡ entries
  pub choices : plan_choices s queries entries ≡ r
  pub cost : (plans_of s entry queries).lower r ≡ plan_cost s entry 0 queries entries

-- A complete list of choices that isn't broken names a plan that fits, whose choices it is.
pub record NamesPlan (s : Switch) (entry : ℕ → ℕ → ℕ → ℕ → ℕ) (queries : List TypedQuery) (r : List ℕ) : Type 0 where
  pub fits : Fits queries s (plan_at s queries r)
  pub one : AreOne s entry queries r (plan_at s queries r)

-- A plan that fits is named by its choices, a complete list that isn't broken.
pub record IsNamed (s : Switch) (entry : ℕ → ℕ → ℕ → ℕ → ℕ) (queries : List TypedQuery) (entries : List Entry) : Type 0 where
  pub plan : IsPlan (plans_of s entry queries) (plan_choices s queries entries)
  pub one : AreOne s entry queries (plan_choices s queries entries) entries

-- what queries and a switch keep: levels and sizes rise
pub record HaveRisingNumbers (s : Switch) (queries : List TypedQuery) : Type 0 where
  pub levels : AllByRecursion HasLevels queries
  pub sizes : IsRising s.slots
