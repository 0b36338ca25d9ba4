-- to be believed
-- The status of each refusal, which refusals are chances, and the refusal of each read that gives nothing.
use Rattle.std.specs.Prelude.{ℕ, Bool, true, false, Result, Ok, Err}
use Rattle.sn_command.specs.declared.refusal.Refusal.{Refusal}
use Rattle.sn_command.specs.declared.refusal.Refusal.TheVariants.{Memory, Usage, Missing, ReadFault, WriteFault, Refused}
use Rattle.sn_command.specs.declared.fault.Fault.{Fault}
use Rattle.sn_command.specs.declared.fault.Fault.TheVariants as faults
use Rattle.sn_command.specs.Faults.{fault_status}
use Rattle.sn_io.specs.declared.inputs.ReadError.{ReadError}
use Rattle.sn_io.specs.declared.inputs.ReadError.TheVariants as errors

abbrev pub status_of : Refusal → ℕ
status_of Memory = 1
status_of Usage = 2
status_of Missing = 9
status_of ReadFault = 9
status_of WriteFault = 10
status_of (Refused fault) = fault_status fault

-- Out of memory, or a read or a write that failed: these don't follow from the words and the files.
abbrev pub is_chance : Refusal → Bool
is_chance Memory = true
is_chance ReadFault = true
is_chance WriteFault = true
is_chance refusal = false

-- the answer is such a refusal
abbrev pub by_chance : {A : Type 0} → Result A Refusal → Bool
by_chance (Ok a) = false
by_chance (Err refusal) = is_chance refusal

-- the refusal where a file can't be read, or can't be read on
abbrev pub read_refusal : ReadError → Refusal
read_refusal errors.Missing = Missing
read_refusal errors.ReadFault = ReadFault
read_refusal errors.TooLarge = Refused faults.TooLarge
read_refusal errors.Memory = Memory

-- a fault is a refusal
abbrev pub refusing : {A : Type 0} → Result A Fault → Result A Refusal
refusing (Ok a) = Ok a
refusing (Err fault) = Err (Refused fault)

-- the answer with its value seen so
abbrev pub seen_as : {A B : Type 0} → (A → B) → Result A Refusal → Result B Refusal
seen_as view (Ok a) = Ok (view a)
seen_as view (Err refusal) = Err refusal
