use Rattle.std.proofs.Common.{List, sym, ◌∙◌, subst}
use Rattle.sn_emit.specs.Plans.{pieces_from}
use Rattle.sn_engine_lockstep.proofs.Beginning.{sources_are}
use Rattle.sn_engine_lockstep.proofs.Laws.{new_idle}
use Rattle.sn_engine_lockstep.specs.Work.{AreIdle}
use Rattle.sn_engine.specs.declared.intake.Intake.{Intake}
use Rattle.sn_engine_many.proofs.many.switch_of.Goals as goal

pub returns-clause-can : goal.returns-clause-can
returns-clause-can c = let e = c.in_ok-switch.ensures in record { many = e.many; known = e.known }

pub returns-clause-resting : goal.returns-clause-resting
returns-clause-resting c =
    let t = c.args.t.now in
    let entries = c.args.short.now.entries in
    let e = c.in_ok-switch.ensures in
    let made = c.in_ok-switch.switch in
    record {
      queries_are = e.queries;
      sources = e.sources ∙ sources_are 0 entries;
      idle = subst (λ (ls : List Intake). AreIdle t.queries c.args.tables (pieces_from 0 entries) made.emitter ls) (sym e.empty)
          (new_idle t.queries c.args.tables entries made.emitter c.requires.shape.paths e.lanes);
    }
