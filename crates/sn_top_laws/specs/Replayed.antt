-- to be believed
-- What `finish` prints of the text that `emit` wrote, beside what `run` writes.
use Rattle.std.specs.Prelude.{◌≡◌, ◌⊎◌, ℕ, ◌<◌, List, ◌++◌, Some, Ok, Err}
use Rattle.std.specs.FinMap.{get}
use Rattle.std.specs.List.{AllByRecursion}
use Rattle.sn_command_capture.specs.Capture.{ending_verdict}
use Rattle.sn_io.specs.Counts.{ByName}
use Rattle.sn_out.specs.Text.{damage_line, total_line}
use Rattle.sn_pcap.specs.declared.header.HeadFault.{HeadFault}
use Rattle.sn_pcap.specs.declared.packet.Ending.{Ending}
use Rattle.sn_command.specs.declared.fault.Fault.TheVariants.{Head}
use Rattle.sn_command.specs.declared.refusal.Refusal.TheVariants.{Refused}
use Rattle.sn_command.specs.Ends.{end_status}
use Rattle.sn_command.specs.Outcomes.{Outcome, silent}
use Rattle.sn_command.specs.Refusals.{refusing}

-- ---- the files

-- each number is a byte
abbrev pub AreBytes : List ℕ → Type 0
AreBytes numbers = AllByRecursion (λ number. number < 256) numbers

-- a file of this name, if there is one, holds bytes
abbrev pub HoldsBytes : List ℕ → ByName (List ℕ) → Type 0
HoldsBytes name files = (file : List ℕ) → get files name ≡ Some file → AreBytes file

-- Files later: the queries and the plan are as they were, and a text that went out stands in a file by itself.
pub record IsKept (queries plan reports text : List ℕ) (files later : ByName (List ℕ)) : Type 0 where
  pub same_queries : get later queries ≡ get files queries
  pub same_plan : get later plan ≡ get files plan
  pub held : get later reports ≡ Some text

-- ---- how `emit` ended

-- with status 0, where all was written; or with status 5, where the capture's header is refused, or its records end damaged
abbrev pub IsWritten : ℕ → Type 0
IsWritten status = (status ≡ 0) ⊎ (status ≡ 5)

abbrev pub HasWritten : Outcome (Unit {0}) → Type 0
HasWritten emitted = IsWritten (end_status emitted.end)

-- ---- what `finish` then prints

-- The header is accepted. What `run` writes are blocks, the line of the damage where there is some, and the total. What `finish`
-- prints is the same but for the line of the damage, and it ends with 0. `run` ends as `emit` did: with 0, or with 5 for the damage.
pub record PrintsTheSame (emitted ran finished : Outcome (Unit {0})) : Type 0 where
  pub ending : Ending
  pub blocks : List ℕ
  pub windows : ℕ
  pub sent : ℕ
  pub emitted_so : emitted.end ≡ refusing (ending_verdict ending)
  pub ran_so : ran ≡ record { text = blocks ++ (damage_line ending ++ total_line windows (Some sent)); end = refusing (ending_verdict ending) }
  pub finished_so : finished ≡ record { text = blocks ++ total_line windows (Some sent); end = Ok tt }

-- The header is refused: then `emit` and `run` write nothing, and `finish` finds no window.
pub record PrintsNoWindow (emitted ran finished : Outcome (Unit {0})) : Type 0 where
  pub fault : HeadFault
  pub emitted_so : emitted ≡ silent (Err (Refused (Head fault)))
  pub ran_so : ran ≡ silent (Err (Refused (Head fault)))
  pub finished_so : finished ≡ record { text = total_line 0 (Some 0); end = Ok tt }

abbrev pub FinishesSo : Outcome (Unit {0}) → Outcome (Unit {0}) → Outcome (Unit {0}) → Type 0
FinishesSo emitted ran finished = PrintsTheSame emitted ran finished ⊎ PrintsNoWindow emitted ran finished
