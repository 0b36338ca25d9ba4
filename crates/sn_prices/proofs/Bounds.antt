-- No plan that fits costs less than what prices show.
use Rattle.std.proofs.Common.{◌≡◌, ℕ, ◌+◌, ◌≤◌, List, [], ◌∷◌, refl, arith}
use Rattle.std.specs.List.{sum_by}
use Rattle.std.proofs.lemmas.List.Sums.{sum_by-cons}
use Rattle.sn_switch.specs.declared.switch.Switch.{Switch}
use Rattle.sn_types.specs.declared.typed_query.TypedQuery.{TypedQuery}
use Rattle.sn_plan_grammar.specs.declared.plan.Entry.{Entry}
use Rattle.sn_plan_choices.specs.Planning.{for_path, planning, first_tasks}
use Rattle.sn_plan_lists.specs.Chosen.{plan_choices}
use Rattle.sn_plan_lists.specs.Costs.{plan_cost}
use Rattle.sn_plan_lists.specs.Theorems.{plans_of, IsNamed}
use Rattle.sn_prices_grammar.specs.declared.prices.Prices.{Prices}
use Rattle.sn_prices.specs.Limits.{worth}
use Rattle.sn_prices.specs.Least.{least_queries, shown_least}
use Rattle.sn_prices.proofs.Priced.{rounded_below, plans_pay}
use Rattle.sn_prices.proofs.Dear.{least_of, pricing, pricing_laws}

module _ (s : Switch) (entry : ℕ → ℕ → ℕ → ℕ → ℕ) (p : Prices) where
  tasks_have : (n : ℕ) (queries : List TypedQuery) → sum_by (least_of s entry p) (first_tasks n queries) ≡ least_queries s entry p n queries
  tasks_have n [] = refl
  tasks_have n (q ∷ qs) =
      let a = sum_by-cons (least_of s entry p) (for_path (record { query = n; typed = q })) (first_tasks (n + 1) qs) in
      let rest = tasks_have (n + 1) qs in omega arith

  pub bounded : (queries : List TypedQuery) (entries : List Entry) → IsNamed s entry queries entries
      → shown_least s entry p queries ≤ plan_cost s entry 0 queries entries
  bounded queries entries named =
      let k = plans_pay (planning s entry) (pricing s entry p) (pricing_laws s entry p) (first_tasks 0 queries) (plan_choices s queries entries) named.plan in
      let e = named.one.cost in
      let all = tasks_have 0 queries in
      let cost : ℕ = (plans_of s entry queries).lower (plan_choices s queries entries) in
      let below = rounded_below p.scale (worth s p) (least_queries s entry p 0 queries) cost (omega arith) in omega arith
