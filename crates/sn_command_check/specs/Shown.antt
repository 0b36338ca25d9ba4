-- to be believed
-- Whether a cost and a tree show that no plan costs less over training windows.
use Rattle.std.specs.Prelude.{◌≡◌, ℕ, List, Option, None, Some, Result, Ok, Err}
use Rattle.sn_plan_lists.specs.Chosen.{plan_choices}
use Rattle.sn_plan_grammar.specs.declared.plan.Plan.{Plan}
use Rattle.sn_cost_laws.specs.Space.{trained_plans}
use Rattle.sn_windows.specs.Rising.{Window}
use Rattle.sn_tree_space.specs.declared.node.Node.{Node}
use Rattle.sn_command.specs.declared.fault.Fault.{Fault}
use Rattle.sn_command.specs.declared.fault.Fault.TheVariants as faults
use Rattle.sn_command.specs.declared.fault.TreeKind.{TreeKind}
use Rattle.sn_command.specs.declared.fault.TreeKind.TheVariants as kinds
use Rattle.sn_command.specs.declared.refusal.Refusal.{Refusal}
use Rattle.sn_command.specs.declared.refusal.Refusal.TheVariants.{Memory, Refused}
use Rattle.sn_switch.specs.declared.switch.Switch.{Switch}
use Rattle.sn_tree.specs.Faults.{tree_fault}
use Rattle.sn_tree.specs.declared.fault.TreeFault.{TreeFault}
use Rattle.sn_tree.specs.declared.fault.TreeFault.TheVariants as trees
use Rattle.sn_types.specs.declared.typed_query.TypedQuery.{TypedQuery}

abbrev pub flaw : TreeKind → ℕ → ℕ → ℕ → Fault
flaw kind node want got = faults.Unshown (record { kind = kind; node = node; want = want; got = got })

-- The fault of a command whose tree has this one. Being out of memory is no fault of a tree, so what stands beside it here is never
-- reported.
abbrev pub flaw_of : TreeFault → Fault
flaw_of (trees.Cost node want got) = flaw kinds.Cost node want got
flaw_of (trees.Shape node want got) = flaw kinds.Shape node want got
flaw_of (trees.Bound node want got) = flaw kinds.Bound node want got
flaw_of (trees.NotBroken node want got) = flaw kinds.NotBroken node want got
flaw_of (trees.NoPlan node want got) = flaw kinds.NoPlan node want got
flaw_of trees.Memory = faults.TooLarge

-- the refusal of a command whose tree is answered so
abbrev pub flaw_refusal : TreeFault → Refusal
flaw_refusal (trees.Cost node want got) = Refused (flaw kinds.Cost node want got)
flaw_refusal (trees.Shape node want got) = Refused (flaw kinds.Shape node want got)
flaw_refusal (trees.Bound node want got) = Refused (flaw kinds.Bound node want got)
flaw_refusal (trees.NotBroken node want got) = Refused (flaw kinds.NotBroken node want got)
flaw_refusal (trees.NoPlan node want got) = Refused (flaw kinds.NoPlan node want got)
flaw_refusal trees.Memory = Memory

abbrev pub flaw_verdict : Option TreeFault → Result (Unit {0}) Fault
flaw_verdict None = Ok tt
flaw_verdict (Some fault) = Err (flaw_of fault)

-- A cost and a tree are judged by their first fault, for the choices of a plan: among the plans of these queries on a switch, each
-- with what it costs over training windows.
abbrev pub ShownFor : Switch → List TypedQuery → List Window → Plan → ℕ → List Node → Result (Unit {0}) Fault → Type 0
ShownFor s queries given plan cost nodes verdict =
    verdict ≡ flaw_verdict (tree_fault (trained_plans s queries given) (plan_choices s queries plan.entries) cost nodes)
