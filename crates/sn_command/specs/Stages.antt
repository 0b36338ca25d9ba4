-- to be believed
-- The stages of which commands are made.
use Rattle.std.specs.Prelude.{◌≡◌, ℕ, List, ◌++◌, Result, Ok, Err, Option, Some, None, nat_lt, ◌^◌, length, if◌then◌else◌}
use Rattle.std.specs.FinMap.{get}
use Rattle.sn_io.specs.Counts.{ByName}
use Rattle.sn_command.specs.declared.fault.Fault.{Fault}
use Rattle.sn_command.specs.declared.fault.Fault.TheVariants.{TooLarge}
use Rattle.sn_command.specs.declared.refusal.Refusal.{Refusal}
use Rattle.sn_command.specs.declared.refusal.Refusal.TheVariants.{Missing, Refused}
use Rattle.sn_command.specs.Refusals.{refusing}
use Rattle.sn_command.specs.Outcomes.{Outcome, silent, Stage}

-- a stage that does this over all files
abbrev pub Does : {A : Type 0} → Outcome A → Stage A
Does due files outcome = outcome ≡ due

-- a stage that adds a text
abbrev pub Adds : List ℕ → Stage (Unit {0})
Adds text = Does (record { text = text; end = Ok tt })

-- A stage that adds nothing, and gives a value or refuses as this relation says.
pub record Judges {A : Type 0} (judgement : Result A Fault → Type 0) (files : ByName (List ℕ)) (outcome : Outcome A) : Type 0 where
  pub verdict : Result A Fault
  pub is : judgement verdict
  pub same : outcome ≡ silent (refusing verdict)

-- a stage that adds nothing, and gives this value or refuses for this fault
abbrev pub Gives : {A : Type 0} → Result A Fault → Stage A
Gives verdict = Does (silent (refusing verdict))

-- the relation holds of exactly one verdict
pub record HasVerdict {A : Type 0} (judgement : Result A Fault → Type 0) : Type 0 where
  pub verdict : Result A Fault
  pub is : judgement verdict
  pub once : (first second : Result A Fault) → judgement first → judgement second → first ≡ second

-- a fault of a text, under the name that it has among the faults of commands
abbrev pub named : {A F : Type 0} → (F → Fault) → Result A F → Result A Fault
named name (Ok value) = Ok value
named name (Err fault) = Err (name fault)

-- a reading of a text as a judgement
pub record ReadAs {A F : Type 0} (name : F → Fault) (reading : Result A F → Type 0) (verdict : Result A Fault) : Type 0 where
  pub found : Result A F
  pub is : reading found
  pub same : verdict ≡ named name found

-- the bytes of a file, of which there may be this many
abbrev pub within_limit : ℕ → Option (List ℕ) → Result (List ℕ) Refusal
within_limit most None = Err Missing
within_limit most (Some bytes) = if nat_lt most (length bytes) then Err (Refused TooLarge) else Ok bytes

-- A stage that gives the bytes of a file, at most this many: it refuses where the name isn't known, or the file has more.
abbrev pub Bytes : ℕ → List ℕ → Stage (List ℕ)
Bytes most name files outcome = outcome ≡ silent (within_limit most (get files name))

-- the most bytes of a text
abbrev pub most_text : ℕ
most_text = 2 ^ 30

-- What follows an outcome: nothing after a refusal, and after a value what goes on from it.
abbrev pub GoesOn : {A B : Type 0} → (A → Stage B) → ByName (List ℕ) → List ℕ → Result A Refusal → Outcome B → Type 0
GoesOn second files text (Err refusal) whole = whole ≡ record { text = text; end = Err refusal }
GoesOn {B = B} second files text (Ok value) whole = (rest : Outcome B) × second value files rest × (whole ≡ record { text = text ++ rest.text; end = rest.end })

-- One stage and then another, which goes on from the value of the first. Its text stands after the first one's. Where the
-- first refuses, nothing follows.
pub record Then {A B : Type 0} (first : Stage A) (second : A → Stage B) (files : ByName (List ℕ)) (whole : Outcome B) : Type 0 where
  pub begun : Outcome A
  pub begins : first files begun
  pub goes_on : GoesOn second files begun.text begun.end whole

-- a stage that reads a text from a file, and gives what it is judged to be
abbrev pub Text : {A : Type 0} → List ℕ → (List ℕ → Result A Fault → Type 0) → Stage A
Text name judgement = Then (Bytes most_text name) (λ bytes. Judges (judgement bytes))
