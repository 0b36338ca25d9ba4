use Rattle.std.proofs.Common.{List, sym, subst}
use Rattle.sn_plan_fit.specs.declared.loads.Load.{Load}
use Rattle.sn_plan_fit.specs.Loads.{AreLoads}
use Rattle.sn_plan_fit.proofs.LoadLaws.{add_within, added_load}
use Rattle.sn_plan_fit.proofs.loads.Loads.add.Goals as goal

pub returns-then-place-lt-STAGES : goal.returns-then-place-lt-STAGES
returns-then-place-lt-STAGES c = λ all e standing are.
    let inside : AreLoads c.self.inside.stages standing = subst (λ (loads : List Load). AreLoads loads standing) (sym c.self.view_is) are in
    add_within c.self.inside.stages standing c.args.stage all _ c.if-place-lt-STAGES.true inside
    (added_load c.self.inside.stages standing c.args.stage all c.args.bits _ _ c.if-place-lt-STAGES.true e inside c.saturating_add.ensures c.saturating_add-then-place-lt-STAGES.ensures)
