use Rattle.sn_top_laws.proofs.ShiftLemmas.{shifted_out}
use Rattle.sn_top_laws.proofs.shifts.wide_shifts_give_0.Goals as goal

pub returns : goal.returns
returns c = shifted_out
