use Rattle.std.proofs.Common.{ℕ, refl, sym, subst}
use Rattle.sn_emit.specs.Plans.{pieces_from}
use Rattle.sn_engine.specs.Keeping.{kept_for}
use Rattle.sn_engine_lockstep.specs.Work.{AreKept}
use Rattle.sn_engine_many.specs.Switches.{AreWorking, shorts_of}
use Rattle.sn_engine_many.proofs.many.Many.close_window.Goals as goal

pub returns-in_ok-copy_answers-in-Begun-clause-answers : goal.returns-in_ok-copy_answers-in-Begun-clause-answers
returns-in_ok-copy_answers-in-Begun-clause-answers c = λ typed_for tables entries kept captures ty paths can widths b.
    let queries = c.args.self.now.engine.t.queries in
    c.in_ok-answers-in-Begun.ensures.answers typed_for tables queries entries kept captures ty paths can widths refl record {
      each = subst (AreWorking queries tables (shorts_of queries entries) kept captures) (sym c.deref_mut.ensures.value) b.each;
      none = b.none;
      held = subst (λ (w : ℕ). AreKept (pieces_from 0 entries) kept (kept_for c.args.self.now.engine.closed c.args.self.now.engine.kept w)) c.in_ok-answers-in-Begun.ensures.window b.held;
    }
