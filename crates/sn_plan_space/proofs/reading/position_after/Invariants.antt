use Rattle.std.proofs.Common.{◌≡◌, ℕ, List, map, drop}
use Rattle.sn_switch.specs.declared.switch.Switch.{Switch}
use Rattle.sn_types.specs.declared.typed_query.TypedQuery.{TypedQuery}
use Rattle.sn_tree_space.specs.Space.{IsPartial}
use Rattle.sn_tree_space.specs.Agendas.{agenda_space}
use Rattle.sn_plan_choices.specs.Planning.{planning, first_tasks}
use Rattle.sn_plan_space.specs.Known.{known_query, numbered}
use Rattle.sn_plan_space.proofs.Reaching.{Reaches}
use Rattle.sn_plan_space.proofs.reading.position_after.Given as goal

abbrev pub invariant-loop-choice : goal.invariant-loop-choice
invariant-loop-choice l =
    (s : Switch) (entry : ℕ → ℕ → ℕ → ℕ → ℕ) (queries : List TypedQuery) → s.stages ≡ l.stages → l.known ≡ map (known_query s entry) (numbered 0 queries)
    → IsPartial (agenda_space (planning s entry) (first_tasks 0 queries)) l.partial → Reaches s entry queries l.position (drop l.choice-index l.partial) l.partial
