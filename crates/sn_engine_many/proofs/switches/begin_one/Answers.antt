use Rattle.std.proofs.Common.{List, [], sym, ◌∙◌, subst}
use Rattle.sn_engine_lockstep.specs.Sources.{kept_in}
use Rattle.sn_engine_lockstep.specs.Work.{AreAtWork, AreIdle}
use Rattle.sn_engine_many.proofs.Switching.{still_begins}
use Rattle.sn_types.specs.declared.typed_query.TypedQuery.{TypedQuery}
use Rattle.sn_engine_many.proofs.switches.begin_one.Goals as goal

pub returns-clause-can : goal.returns-clause-can
returns-clause-can c =
    let e = c.in_ok-begin.ensures in
    record { begins = still_begins c.args.switch.now c.begin.new.self e.sources e.count e.queries c.requires; unread = e.unread }

pub returns-clause-work : goal.returns-clause-work
returns-clause-work c = λ queries tables pieces r.
    let s = c.args.switch.now in
    let new = c.begin.new.self in
    let e = c.in_ok-begin.ensures in
    record {
      queries_are = e.queries ∙ r.queries_are;
      sources = e.sources ∙ r.sources;
      lanes = e.lanes queries tables pieces r.idle.lanes;
      work = subst (λ (qs : List TypedQuery). AreAtWork qs tables pieces (kept_in qs c.args.last.now c.args.window) [] new.emitter new.engine.lanes.items) r.queries_are
          (e.work tables pieces r.sources (subst (λ (qs : List TypedQuery). AreIdle qs tables pieces s.emitter s.engine.lanes.items) (sym r.queries_are) r.idle));
    }
