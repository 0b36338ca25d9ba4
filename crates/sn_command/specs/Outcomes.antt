-- to be believed
-- What a stage of a command's work does.
use Rattle.std.specs.Prelude.{◌≡◌, ℕ, ◌≤◌, List, [], Result, Option, false, length, take}
use Rattle.std.specs.Io.KnownBytes.{append_known}
use Rattle.sn_io.specs.Counts.{ByName}
use Rattle.sn_command.specs.declared.refusal.Refusal.{Refusal}
use Rattle.sn_command.specs.Refusals.{by_chance}

-- the text that it adds to the output, and the value that it gives or the refusal that ends the work
pub record Outcome (A : Type 0) : Type 0 where
  pub text : List ℕ
  pub end : Result A Refusal

-- an outcome that adds nothing
abbrev pub silent : {A : Type 0} → Result A Refusal → Outcome A
silent end = record { text = []; end = end }

-- A stage of a command's work: over files, the outcomes that it may have.
abbrev pub Stage : Type 0 → Type 1
Stage A = ByName (List ℕ) → Outcome A → Type 0

pub record Has {A : Type 0} (stage : Stage A) (files : ByName (List ℕ)) : Type 0 where
  pub outcome : Outcome A
  pub is : stage files outcome

-- over each set of files the stage has exactly one outcome
pub record HasOne {A : Type 0} (stage : Stage A) : Type 0 where
  pub some : (files : ByName (List ℕ)) → Has stage files
  pub once : (files : ByName (List ℕ)) (first second : Outcome A) → stage files first → stage files second → first ≡ second

-- what went out is a front of this text
abbrev pub WentOutFront : List ℕ → Option (List ℕ) → Option (List ℕ) → Type 0
WentOutFront text before now = (k : ℕ) × (k ≤ length text) × (now ≡ append_known before (take k text))

-- A run against an outcome. What went out is always a front of the outcome's text. Where nothing failed by chance,
-- the run ended as the outcome does, and all of the text went out.
pub record Keeps {A : Type 0} (outcome : Outcome A) (answer : Result A Refusal) (before now : Option (List ℕ)) : Type 0 where
  pub front : WentOutFront outcome.text before now
  pub ends : by_chance answer ≡ false → answer ≡ outcome.end
  pub whole : by_chance answer ≡ false → now ≡ append_known before outcome.text
