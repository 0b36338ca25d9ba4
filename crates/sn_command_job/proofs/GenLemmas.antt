-- The stage of `gen` has one outcome.
use Rattle.std.proofs.Common.{ℕ}
use Rattle.sn_command_job.specs.Gen.{Gen}
use Rattle.sn_command.specs.Outcomes.{HasOne}
use Rattle.sn_command.proofs.OneLemmas.{one_does}

pub one_gen : (number : ℕ) → HasOne (Gen number)
one_gen number = one_does _
