-- What a certificate shows.
use Rattle.std.proofs.Common.{◌≡◌, ℕ, ◌≤◌, List, ap, sym, ◌∙◌, subst, arith}
use Rattle.sn_plan_choices.proofs.Easy.{plans_laws}
use Rattle.sn_plan_lists.specs.Chosen.{plan_at, plan_choices}
use Rattle.sn_plan_lists.specs.Costs.{plan_cost}
use Rattle.sn_plan_lists.specs.Theorems.{NamesPlan}
use Rattle.sn_plan_fit.specs.Fits.{Fits}
use Rattle.sn_plan_grammar.specs.declared.plan.Entry.{Entry}
use Rattle.sn_cost_laws.specs.Space.{trained_entry, trained_plans}
use Rattle.sn_windows.specs.Rising.{Window}
use Rattle.sn_tree_space.specs.Trees.{IsAccepted}
use Rattle.sn_tree_space.proofs.PlanAccepted.{plan_tree_accepted}
use Rattle.sn_switch.specs.declared.switch.Switch.{Switch}
use Rattle.sn_types.specs.declared.typed_query.TypedQuery.{TypedQuery}
use Rattle.sn_command_search.specs.declared.certificate.Certificate.{Certificate}
use Rattle.sn_command_search.specs.Certificates.{IsCertificate}
use Rattle.sn_command_search.specs.Shown.{ShowsLeast}

module _ (s : Switch) (queries : List TypedQuery) (given : List Window) (nodes : ℕ) (c : Certificate) (C : IsCertificate s queries given nodes c) where
  abbrev entry : ℕ → ℕ → ℕ → ℕ → ℕ
  entry = trained_entry s queries given

  -- where its list names a plan, and no plan that fits costs less
  pub shows : NamesPlan s entry queries c.choices
      → ((entries : List Entry) → Fits queries s entries → plan_cost s entry 0 queries (plan_at s queries c.choices) ≤ plan_cost s entry 0 queries entries) → ShowsLeast s queries given c
  shows named least =
      let cost : c.cost ≡ plan_cost s entry 0 queries (plan_at s queries c.choices) = C.cost ∙ named.one.cost in
      record {
        fits = subst (Fits queries s) (sym C.plan) named.fits;
        cost = cost ∙ ap (plan_cost s entry 0 queries) (sym C.plan);
        least = λ entries fits. let low = least entries fits in omega arith;
        choices = ap (plan_choices s queries) C.plan ∙ named.one.choices;
        accepted = subst (IsAccepted (trained_plans s queries given) c.choices) (sym C.tree) (plan_tree_accepted (trained_plans s queries given) c.choices (plans_laws s entry queries) C.first);
      }
