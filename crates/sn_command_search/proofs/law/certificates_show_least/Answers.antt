use Rattle.sn_cost_laws.specs.Space.{trained_entry}
use Rattle.sn_command_search.proofs.Showing.{shows}
use Rattle.sn_command_search.proofs.law.certificates_show_least.Goals as goal

pub returns : goal.returns
returns c = λ s window queries given nodes k typed switch is.
    let rising = c.typed_queries_and_switches_rise.ensures s window queries typed switch in
    shows s queries given nodes k is
    (c.lists_name_fitting_plans.ensures s (trained_entry s queries given) queries k.choices rising is.first.plan)
    (λ entries fits. c.least_lists_name_cheapest_plans.ensures s (trained_entry s queries given) queries k.choices entries rising is.first fits)
