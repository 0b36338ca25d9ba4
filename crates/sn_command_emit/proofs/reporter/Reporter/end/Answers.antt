use Rattle.std.proofs.Common.{◌∙◌, ℕ, List, ap, subst}
use Rattle.std.specs.declared.alloc.Global.{Global}
use Rattle.std.specs.declared.vec.Vec.{Vec}
use Rattle.sn_engine_asked.proofs.Answered.{HeardAdmitted, HeardEmptied, HeardRecalled}
use Rattle.sn_engine_lockstep.proofs.Driving.{driver_after}
use Rattle.sn_plan_grammar.specs.declared.plan.Entry.{Entry}
use Rattle.sn_command_emit.proofs.StateLemmas.{admitted_at, block_is, closed_idle, emptied_at, recalled_at}
use Rattle.sn_command_emit.proofs.reporter.Reporter.end.Goals as goal

pub returns-clause-text : goal.returns-clause-text
returns-clause-text c = λ closed tuples h.
    c.from_vec.ensures ∙ ap (λ (v : Vec ℕ Global). v.items) c.replace-sent.ensures.value ∙ block_is c.args.self.now closed c.args.number tuples h _ c.in_ok-answers.ensures.sent

pub returns-clause-closed : goal.returns-clause-closed
returns-clause-closed c = λ closed tuples h.
    let a = c.args.self.now in
    let s = a.driver in
    let d = c.close.new.driver in
    let e = c.in_ok-answers.ensures in
    let answers = c.in_ok-answers.answers in
    let number = c.args.number in
    let same = c.as_slice-plan.ensures in
    closed_idle a closed number tuples h d answers _ e.window
    (admitted_at a closed number tuples h answers (subst (λ (es : List Entry). HeardAdmitted es s.engine.t.queries number s.engine.closed s.engine.kept s.emitter s.engine.lanes.items answers) same e.admitted))
    (driver_after a.typed.queries a.tables a.plan.entries s h.driver d e.queries c.close.ensures.sources e.count)
    (emptied_at a closed number tuples h d.emitter d.engine.lanes.items (subst (λ (es : List Entry). HeardEmptied es s.engine.t.queries s.emitter s.engine.lanes.items d.emitter d.engine.lanes.items) same e.empty))
    (recalled_at a closed number tuples h answers d.engine.closed d.engine.kept (subst (λ (es : List Entry). HeardRecalled es s.engine.t.queries s.emitter s.engine.lanes.items d.engine.closed d.engine.kept answers) same e.recalls))
    (ap (λ (v : Vec ℕ Global). v.items) c.replace-sent.ensures.after ∙ c.new.ensures.items)
