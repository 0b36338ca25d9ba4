-- serves proofs
-- What a function that does a stage answers, and why.
use Rattle.std.specs.Prelude.{◌≡◌, ℕ, ◌≤◌, List, Result, Ok, Err, Some, take}
use Rattle.sn_io.specs.Counts.{ByName}
use Rattle.sn_types_read.specs.declared.fault.QueryFault.{QueryFault}
use Rattle.sn_command.specs.declared.fault.Fault.{Fault}
use Rattle.sn_command.specs.declared.fault.Fault.TheVariants.{Queries, Switch}
use Rattle.sn_command.specs.declared.fault.TextFault.{TextFault}
use Rattle.sn_command.specs.declared.refusal.Refusal.{Refusal}
use Rattle.sn_command.specs.declared.refusal.Refusal.TheVariants.{Memory, Usage, Missing, ReadFault, WriteFault, Refused}
use Rattle.sn_command.specs.Worlds.{World, AnyRose, AnyUnknown, FirstUnknown, Spares, OutRose, Follows}
use Rattle.sn_command.specs.Outcomes.{Outcome, Stage, Keeps}

-- A run of a stage that reads the files of these names, each when its turn comes. A command reads the queries first, and then
-- the switch, if it reads one: of these two files this many stand at the front of the names, and the others were read before.
pub record RunsFrom {A : Type 0} (unread : ℕ) (names : List (List ℕ)) (stage : Stage A) (before : World) (answer : Result A Refusal)
    (now : World) : Type 0 where
  -- Over files whose contents are known, it is the run of each outcome of the stage.
  pub keeps : (files : ByName (List ℕ)) → before.files.reported ≡ Some files → (outcome : Outcome A) → stage files outcome
      → Keeps outcome answer before.out.written now.out.written
  -- A name is missing only where one of them isn't known.
  pub missing : answer ≡ Err Missing → AnyUnknown names before.files
  -- A read failed only where the count of one of them rose.
  pub read_fault : answer ≡ Err ReadFault → AnyRose names before.files now.files
  -- A write failed only where a count of the output rose.
  pub write_fault : answer ≡ Err WriteFault → OutRose before.out now.out
  -- No stage finds fault with the words.
  pub words : answer ≡ Err Usage → ⊥
  -- No other name's count changes.
  pub others : Spares names before.files now.files
  -- The queries are refused only while none of the two files was read before, and then no name's count but the first one's changes.
  pub queries : (fault : QueryFault) → answer ≡ Err (Refused (Queries fault)) → (unread ≡ 2) × Spares (take 1 names) before.files now.files
  -- The switch is refused only while it wasn't read before, and then no count changes of a name after the two.
  pub switch : (fault : TextFault) → answer ≡ Err (Refused (Switch fault)) → (1 ≤ unread) × Spares (take unread names) before.files now.files
  pub follows : Follows before now

-- a run after the queries and the switch
abbrev pub Runs : {A : Type 0} → List (List ℕ) → Stage A → World → Result A Refusal → World → Type 0
Runs = RunsFrom 0

-- A run that begins with the first of these files: it is missing where that one isn't known.
pub record WorksFrom {A : Type 0} (unread : ℕ) (names : List (List ℕ)) (stage : Stage A) (before : World) (answer : Result A Refusal)
    (now : World) : Type 0 where
  pub runs : RunsFrom unread names stage before answer now
  pub unknown : FirstUnknown names before.files → answer ≡ Err Missing

abbrev pub Works : {A : Type 0} → List (List ℕ) → Stage A → World → Result A Refusal → World → Type 0
Works = WorksFrom 0

-- What a function answers that reads and writes nothing: what is judged, or that memory ran out.
abbrev pub Answers : {A : Type 0} → (Result A Fault → Type 0) → Result A Refusal → Type 0
Answers judgement (Ok value) = judgement (Ok value)
Answers judgement (Err Memory) = Unit {0}
Answers judgement (Err (Refused fault)) = judgement (Err fault)
Answers judgement (Err refusal) = ⊥

-- What is left of a stage leads to the whole: a run of what is left, from now on, is a run of the whole from before.
abbrev pub Leads : {A : Type 0} → List (List ℕ) → Stage A → Stage A → World → World → Type 0
Leads {A} names left whole before now = (answer : Result A Refusal) (later : World) → Runs names left now answer later → Runs names whole before answer later
