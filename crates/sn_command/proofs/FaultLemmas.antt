-- The statuses of faults.
use Rattle.std.proofs.Common.{◌≡◌, ◌≢◌, ℕ, ◌<◌, refl, arith}
use Rattle.sn_types_read.specs.declared.fault.QueryFault.{QueryFault}
use Rattle.sn_command.specs.declared.fault.TextFault.{TextFault}
use Rattle.sn_command.specs.declared.fault.Fault.{Fault}
use Rattle.sn_command.specs.declared.fault.Fault.TheVariants.{Queries, Switch, Head, Cut, Bad, HeadOf, CutOf, BadOf, Plan, Misfit, Tree, Unshown, Budget, Reports, TooLarge}
use Rattle.sn_command.specs.Faults.{fault_status}

-- a status that only faults have
pub record IsFaults (status : ℕ) : Type 0 where
  pub above : 2 < status
  pub no_nine : status ≢ 9
  pub no_ten : status ≢ 10

pub faults_own : (fault : Fault) → IsFaults (fault_status fault)
faults_own (Queries fault) = record { above = omega arith; no_nine = λ e. omega arith; no_ten = λ e. omega arith }
faults_own (Switch fault) = record { above = omega arith; no_nine = λ e. omega arith; no_ten = λ e. omega arith }
faults_own (Head fault) = record { above = omega arith; no_nine = λ e. omega arith; no_ten = λ e. omega arith }
faults_own (Cut at) = record { above = omega arith; no_nine = λ e. omega arith; no_ten = λ e. omega arith }
faults_own (Bad at) = record { above = omega arith; no_nine = λ e. omega arith; no_ten = λ e. omega arith }
faults_own (HeadOf fault file) = record { above = omega arith; no_nine = λ e. omega arith; no_ten = λ e. omega arith }
faults_own (CutOf at file) = record { above = omega arith; no_nine = λ e. omega arith; no_ten = λ e. omega arith }
faults_own (BadOf at file) = record { above = omega arith; no_nine = λ e. omega arith; no_ten = λ e. omega arith }
faults_own (Plan fault) = record { above = omega arith; no_nine = λ e. omega arith; no_ten = λ e. omega arith }
faults_own (Misfit misfit) = record { above = omega arith; no_nine = λ e. omega arith; no_ten = λ e. omega arith }
faults_own (Tree fault) = record { above = omega arith; no_nine = λ e. omega arith; no_ten = λ e. omega arith }
faults_own (Unshown flaw) = record { above = omega arith; no_nine = λ e. omega arith; no_ten = λ e. omega arith }
faults_own (Budget spent) = record { above = omega arith; no_nine = λ e. omega arith; no_ten = λ e. omega arith }
faults_own (Reports fault) = record { above = omega arith; no_nine = λ e. omega arith; no_ten = λ e. omega arith }
faults_own TooLarge = record { above = omega arith; no_nine = λ e. omega arith; no_ten = λ e. omega arith }

-- status 3 is that of refused queries
pub three_of : (fault : Fault) → fault_status fault ≡ 3 → (found : QueryFault) × (fault ≡ Queries found)
three_of (Queries fault) e = (fault, refl)
three_of (Switch fault) e = absurd (omega arith)
three_of (Head fault) e = absurd (omega arith)
three_of (Cut at) e = absurd (omega arith)
three_of (Bad at) e = absurd (omega arith)
three_of (HeadOf fault file) e = absurd (omega arith)
three_of (CutOf at file) e = absurd (omega arith)
three_of (BadOf at file) e = absurd (omega arith)
three_of (Plan fault) e = absurd (omega arith)
three_of (Misfit misfit) e = absurd (omega arith)
three_of (Tree fault) e = absurd (omega arith)
three_of (Unshown flaw) e = absurd (omega arith)
three_of (Budget spent) e = absurd (omega arith)
three_of (Reports fault) e = absurd (omega arith)
three_of TooLarge e = absurd (omega arith)

-- status 4 is that of a refused switch
pub four_of : (fault : Fault) → fault_status fault ≡ 4 → (found : TextFault) × (fault ≡ Switch found)
four_of (Queries fault) e = absurd (omega arith)
four_of (Switch fault) e = (fault, refl)
four_of (Head fault) e = absurd (omega arith)
four_of (Cut at) e = absurd (omega arith)
four_of (Bad at) e = absurd (omega arith)
four_of (HeadOf fault file) e = absurd (omega arith)
four_of (CutOf at file) e = absurd (omega arith)
four_of (BadOf at file) e = absurd (omega arith)
four_of (Plan fault) e = absurd (omega arith)
four_of (Misfit misfit) e = absurd (omega arith)
four_of (Tree fault) e = absurd (omega arith)
four_of (Unshown flaw) e = absurd (omega arith)
four_of (Budget spent) e = absurd (omega arith)
four_of (Reports fault) e = absurd (omega arith)
four_of TooLarge e = absurd (omega arith)
