use Rattle.std.proofs.Common.{ℕ, List, [], ◌∷◌, ◌++◌, subst}
use Rattle.sn_emit.specs.Plans.{Placed}
use Rattle.sn_emit.specs.declared.tables.Tables.{Tables}
use Rattle.sn_engine_asked.specs.Asked.{AreHeard}
use Rattle.sn_engine_lockstep.specs.declared.source.Source.{Source}
use Rattle.sn_plan_grammar.specs.declared.plan.Entry.{Entry}
use Rattle.sn_refine.specs.Steps.{Set}
use Rattle.sn_types.specs.declared.typed_query.TypedQuery.{TypedQuery}
use Rattle.sn_command_emit.proofs.StateLemmas.{given_hand, on_five}
use Rattle.sn_command_emit.proofs.reporter.Reporter.take.Goals as goal

pub returns-clause-given : goal.returns-clause-given
returns-clause-given c =
    let e = c.packet.ensures in
    let s = c.args.self.now.driver in
    let d = c.packet.new.driver in
    let tuple = c.args.tuple.now in
    on_five c.packet.result e.work e.sent e.unread e.lanes e.count
    (λ work sent unread lanes count closed number tuples h.
    given_hand c.args.self.now d c.packet.new.bytes tuple closed number tuples h c.widths.ensures
    (subst (λ (es : List Entry). (qs : List TypedQuery) (tables : Tables) (xs : List Placed) (kept : Source → Set) (before : List (List ℕ)) → AreHeard es qs tables xs kept before s.emitter s.engine.lanes.items
    → AreHeard es qs tables xs kept (before ++ tuple ∷ []) d.emitter d.engine.lanes.items) c.as_slice-plan.ensures work)
    sent unread lanes count e.queries e.sources e.closed e.prefixes)
