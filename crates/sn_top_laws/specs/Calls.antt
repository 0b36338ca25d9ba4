-- to be believed
-- What calls of `emit`, `run` and `finish` write.
use Rattle.std.specs.Prelude.{◌≡◌, ◌⊎◌, ℕ, List, [], ◌++◌, Some, Ok}
use Rattle.sn_command_capture.specs.Capture.{ending_verdict}
use Rattle.sn_command_finish.specs.Finish.{Finish}
use Rattle.sn_io.specs.Counts.{ByName}
use Rattle.sn_out.specs.Text.{damage_line, total_line}
use Rattle.sn_pcap.specs.declared.packet.Ending.{Ending}
use Rattle.sn_command.specs.Ends.{Around, IsCommandRun, IsRun, end_status}
use Rattle.sn_command.specs.Outcomes.{Stage}
use Rattle.sn_command.specs.Refusals.{refusing}
use Rattle.sn_command.specs.Worlds.{AnyRose, OutRose}

-- A call with the words of a command, over these files and an output on which nothing stood: it ended with this status, and this
-- text went out.
pub record Wrote (names : List (List ℕ)) (work : Stage (Unit {0})) (files : ByName (List ℕ)) (status : ℕ) (text : List ℕ) : Type 0 where
  pub before : Around
  pub now : Around
  pub call : IsCommandRun names work before status now
  pub reported : before.files.reported ≡ Some files
  pub nothing : before.out.written ≡ Some []
  pub written : now.out.written ≡ Some text

-- Two texts that differ by the line of the damage alone, where there is some: blocks, that line, and the total. The status is 0
-- where there is none, and else 5.
pub record DifferByDamage (status : ℕ) (ran printed : List ℕ) : Type 0 where
  pub ending : Ending
  pub blocks : List ℕ
  pub windows : ℕ
  pub sent : ℕ
  pub ended : status ≡ end_status (refusing (ending_verdict ending))
  pub ran_so : ran ≡ blocks ++ (damage_line ending ++ total_line windows (Some sent))
  pub printed_so : printed ≡ blocks ++ total_line windows (Some sent)

-- of a capture whose header is refused, there is no text and the total of no window
pub record AreOfNoWindow (status : ℕ) (ran printed : List ℕ) : Type 0 where
  pub ended : status ≡ 5
  pub ran_so : ran ≡ []
  pub printed_so : printed ≡ total_line 0 (Some 0)

-- what `finish` is to print where `run` wrote this text and ended with this status
abbrev pub IsToPrint : ℕ → List ℕ → List ℕ → Type 0
IsToPrint status ran printed = DifferByDamage status ran printed ⊎ AreOfNoWindow status ran printed

-- Each call with the words of `finish` over these files is a run that is to print this text and to end with 0.
abbrev pub CallsPrint : List ℕ → List ℕ → List ℕ → ByName (List ℕ) → List ℕ → Type 0
CallsPrint queries plan reports files printed =
    (names : List (List ℕ)) (before now : Around) (status : ℕ) → IsCommandRun names (Finish queries plan reports) before status now
    → before.files.reported ≡ Some files
    → IsRun (record { text = printed; end = Ok tt }) (AnyRose names before.files now.files)
    (OutRose before.out now.out) status before.out.written now.out.written

-- `run` ended with this status, as `emit` did, and wrote this text: then this is what calls of `finish` print
pub record CallsFollow (queries plan reports : List ℕ) (files : ByName (List ℕ)) (emitted ran : ℕ) (text : List ℕ) : Type 0 where
  pub same_status : ran ≡ emitted
  pub printed : List ℕ
  pub to_print : IsToPrint ran text printed
  pub calls : CallsPrint queries plan reports files printed
