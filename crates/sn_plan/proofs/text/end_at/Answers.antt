use Rattle.std.proofs.Common.{refl}
use Rattle.sn_plan.proofs.Plans.{end_gives}
use Rattle.sn_plan.proofs.text.end_at.Goals as goal

pub returns-in-Ok : goal.returns-in-Ok
returns-in-Ok c = end_gives _ _ _ c.in-Ok.field-0 _ c.scan.ensures c.in-Ok.ensures refl
