-- serves proofs
-- Partial plans, read from their front.
use Rattle.std.specs.Prelude.{ℕ, List, [], ◌∷◌}
use Rattle.sn_switch.specs.declared.switch.Switch.{Switch}
use Rattle.sn_types.specs.declared.typed_query.TypedQuery.{TypedQuery}
use Rattle.sn_tree_space.specs.Space.{Space}
use Rattle.sn_tree_space.specs.Readers.{Reader, read, MayFollow}
use Rattle.sn_tree_space.specs.Agendas.{Agenda, agenda_reader, agenda_space}
use Rattle.sn_plan_choices.specs.Costs.{entry_in}
use Rattle.sn_plan_choices.specs.declared.costs.CostTable.{CostTable}
use Rattle.sn_plan_choices.specs.Planning.{Task, Taken, planning, first_tasks}

-- the space of the plans of these queries on a switch, with the entries of a cost table
abbrev pub plan_space : List TypedQuery → Switch → CostTable → Space
plan_space queries s c = agenda_space (planning s (entry_in c)) (first_tasks 0 queries)

-- what is left, spent and taken after a list of choices
abbrev pub after_choices : Switch → (ℕ → ℕ → ℕ → ℕ → ℕ) → List TypedQuery → List ℕ → Agenda Task Taken
after_choices s entry queries choices = read (agenda_reader (planning s entry) (first_tasks 0 queries)) choices

-- each of these choices may be made in its turn
abbrev pub Follows : {S : Type 0} → Reader S → S → List ℕ → Type 0
Follows r a [] = Unit {0}
Follows r a (x ∷ xs) = MayFollow (r.next a) x × Follows r (r.step a x) xs
