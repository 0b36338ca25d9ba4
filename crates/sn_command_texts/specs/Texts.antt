-- to be believed
-- What switch and plan texts are judged to be.
use Rattle.std.specs.Prelude.{◌≡◌, ℕ, List, Result, Ok, Err}
use Rattle.sn_plan.specs.Texts as plans
use Rattle.sn_plan.specs.declared.fault.PlanFault.{PlanFault}
use Rattle.sn_plan.specs.declared.fault.PlanFault.TheVariants as plan_faults
use Rattle.sn_plan_grammar.specs.declared.plan.Plan.{Plan}
use Rattle.sn_switch.specs.Texts as switches
use Rattle.sn_switch.specs.declared.fault.SwitchFault.{SwitchFault}
use Rattle.sn_switch.specs.declared.fault.SwitchFault.TheVariants as switch_faults
use Rattle.sn_switch.specs.declared.switch.Switch.{Switch}
use Rattle.sn_command.specs.declared.fault.Fault.{Fault}
use Rattle.sn_command.specs.declared.fault.Fault.TheVariants as faults
use Rattle.sn_command.specs.declared.fault.TextFault.{TextFault}
use Rattle.sn_command.specs.declared.fault.TextKind.{TextKind}
use Rattle.sn_command.specs.declared.fault.TextKind.TheVariants as kinds
use Rattle.sn_command.specs.declared.refusal.Refusal.{Refusal}
use Rattle.sn_command.specs.declared.refusal.Refusal.TheVariants.{Memory, Refused}
use Rattle.sn_command.specs.Stages.{ReadAs}

-- ---- switch texts

abbrev pub switch_at : TextKind → ℕ → Fault
switch_at kind line = faults.Switch (record { kind = kind; line = line })

-- The fault of a command whose switch text has this fault. Being out of memory is no fault of a text, so what stands beside it
-- here is never reported.
abbrev pub switch_fault : SwitchFault → Fault
switch_fault (switch_faults.Lex line) = switch_at kinds.Lex line
switch_fault (switch_faults.Expected line) = switch_at kinds.Expected line
switch_fault (switch_faults.Range line) = switch_at kinds.Range line
switch_fault (switch_faults.Twice line) = switch_at kinds.Twice line
switch_fault (switch_faults.Missing line) = switch_at kinds.Missing line
switch_fault switch_faults.Memory = faults.TooLarge

-- the refusal of a command whose switch text is answered so
abbrev pub switch_refusal : SwitchFault → Refusal
switch_refusal (switch_faults.Lex line) = Refused (switch_at kinds.Lex line)
switch_refusal (switch_faults.Expected line) = Refused (switch_at kinds.Expected line)
switch_refusal (switch_faults.Range line) = Refused (switch_at kinds.Range line)
switch_refusal (switch_faults.Twice line) = Refused (switch_at kinds.Twice line)
switch_refusal (switch_faults.Missing line) = Refused (switch_at kinds.Missing line)
switch_refusal switch_faults.Memory = Memory

-- a switch text is judged as it is read
abbrev pub SwitchIn : List ℕ → Result Switch Fault → Type 0
SwitchIn text = ReadAs switch_fault (switches.IsRead text)

-- ---- plan texts

abbrev pub plan_at : TextKind → ℕ → Fault
plan_at kind line = faults.Plan (record { kind = kind; line = line })

-- The fault of a command whose plan text has this fault. Being out of memory is no fault of a text here either.
abbrev pub plan_fault : PlanFault → Fault
plan_fault (plan_faults.Lex line) = plan_at kinds.Lex line
plan_fault (plan_faults.Expected line) = plan_at kinds.Expected line
plan_fault plan_faults.Memory = faults.TooLarge

-- the refusal of a command whose plan text is answered so
abbrev pub plan_refusal : PlanFault → Refusal
plan_refusal (plan_faults.Lex line) = Refused (plan_at kinds.Lex line)
plan_refusal (plan_faults.Expected line) = Refused (plan_at kinds.Expected line)
plan_refusal plan_faults.Memory = Memory

-- a text is read as a plan up to the word `cost` or the end, wherever that stands, or has a first fault
abbrev pub IsPlanRead : List ℕ → Result Plan PlanFault → Type 0
IsPlanRead text (Ok plan) = (byte : ℕ) × plans.IsRead text (Ok (plan, byte))
IsPlanRead text (Err fault) = plans.IsRead text (Err fault)

-- a plan text is judged as it is read
abbrev pub PlanIn : List ℕ → Result Plan Fault → Type 0
PlanIn text = ReadAs plan_fault (IsPlanRead text)
