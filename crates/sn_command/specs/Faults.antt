-- to be believed
-- The status of each fault.
use Rattle.std.specs.Prelude.{ℕ}
use Rattle.sn_command.specs.declared.fault.Fault.{Fault}
use Rattle.sn_command.specs.declared.fault.Fault.TheVariants.{Queries, Switch, Head, Cut, Bad, HeadOf, CutOf, BadOf}
use Rattle.sn_command.specs.declared.fault.Fault.TheVariants.{Plan, Misfit, Tree, Unshown, Budget, Reports, TooLarge}

abbrev pub fault_status : Fault → ℕ
fault_status (Queries fault) = 3
fault_status (Switch fault) = 4
fault_status (Head fault) = 5
fault_status (Cut at) = 5
fault_status (Bad at) = 5
fault_status (HeadOf fault file) = 5
fault_status (CutOf at file) = 5
fault_status (BadOf at file) = 5
fault_status (Plan fault) = 6
fault_status (Misfit misfit) = 6
fault_status (Tree fault) = 7
fault_status (Unshown flaw) = 7
fault_status (Budget spent) = 8
fault_status (Reports fault) = 11
fault_status TooLarge = 12
