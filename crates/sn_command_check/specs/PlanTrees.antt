-- to be believed
-- What the text of a plan with a cost and a tree after it is judged to be.
use Rattle.std.specs.Prelude.{ℕ, List, Result}
use Rattle.sn_plan.specs.Texts as plans
use Rattle.sn_plan_grammar.specs.declared.plan.Plan.{Plan}
use Rattle.sn_command_texts.specs.Texts.{plan_fault}
use Rattle.sn_tree_space.specs.declared.node.Node.{Node}
use Rattle.sn_command.specs.declared.fault.Fault.{Fault}
use Rattle.sn_command.specs.declared.fault.Fault.TheVariants as faults
use Rattle.sn_command.specs.declared.fault.TextKind.{TextKind}
use Rattle.sn_command.specs.declared.fault.TextKind.TheVariants as kinds
use Rattle.sn_command.specs.declared.refusal.Refusal.{Refusal}
use Rattle.sn_command.specs.declared.refusal.Refusal.TheVariants.{Memory, Refused}
use Rattle.sn_command.specs.Stages.{ReadAs}
use Rattle.sn_tree_text.specs.Texts as trees
use Rattle.sn_tree_text.specs.declared.fault.TextFault.{TextFault}
use Rattle.sn_tree_text.specs.declared.fault.TextFault.TheVariants as tree_faults

-- a plan, and the byte where the word `cost` or the end of the text stands after it
abbrev pub PlanBefore : List ℕ → Result (Plan × ℕ) Fault → Type 0
PlanBefore text = ReadAs plan_fault (plans.IsRead text)

abbrev pub tree_at : TextKind → ℕ → Fault
tree_at kind line = faults.Tree (record { kind = kind; line = line })

-- The fault of a command whose tree text has this fault. Being out of memory is no fault of a text, so what stands beside it here is
-- never reported.
abbrev pub tree_text_fault : TextFault → Fault
tree_text_fault (tree_faults.Lex line) = tree_at kinds.Lex line
tree_text_fault (tree_faults.Expected line) = tree_at kinds.Expected line
tree_text_fault tree_faults.Memory = faults.TooLarge

-- the refusal of a command whose tree text is answered so
abbrev pub tree_text_refusal : TextFault → Refusal
tree_text_refusal (tree_faults.Lex line) = Refused (tree_at kinds.Lex line)
tree_text_refusal (tree_faults.Expected line) = Refused (tree_at kinds.Expected line)
tree_text_refusal tree_faults.Memory = Memory

-- a cost and the nodes of a tree, from this byte of the text to its end
abbrev pub TreeAfter : List ℕ → ℕ → Result (ℕ × List Node) Fault → Type 0
TreeAfter text byte = ReadAs tree_text_fault (trees.IsRead text byte)
