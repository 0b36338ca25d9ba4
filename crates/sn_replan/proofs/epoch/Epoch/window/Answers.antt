use Rattle.std.proofs.Common.{◌++◌, ◌∷◌, [], Some, sym, subst}
use Rattle.sn_replan.specs.Resting.{Rests}
use Rattle.sn_replan.proofs.Resting.{answers_are, early_is, ended_by, rests_on}
use Rattle.sn_types.specs.declared.answers.Answers.{Answers}
use Rattle.sn_replan.proofs.epoch.Epoch.window.Goals as goal

pub returns-clause-answers : goal.returns-clause-answers
returns-clause-answers c = λ queries tables entries windows h.
    let d = c.args.self.driver in
    let last = c.args.self.last in
    let w = c.args.w in
    let tuples = c.args.tuples.now in
    let b = c.in_ok-begin.ensures in
    let g = c.in_ok-give.ensures in
    let r = c.in_ok-drain.ensures in
    let ended = ended_by queries tables entries windows d last h w c.begin.new.self c.give.new.driver c.drain.new.self tuples (record { queries = b.queries; sources = b.sources; count = b.count; closed = b.closed; prefixes = b.prefixes }) b.lanes b.work
    (record { queries = g.queries; sources = g.sources; count = g.count; closed = g.closed; prefixes = g.prefixes }) g.lanes g.work g.widths (record { queries = r.queries; sources = r.sources; count = r.count; closed = r.closed; prefixes = r.prefixes }) r.lanes r.items in
    let e = c.in_ok-answers.ensures in
    answers_are queries tables entries windows d last h w c.requires c.drain.new.self tuples ended c.in_ok-answers.answers e.window e.emitted e.parts

pub returns-clause-early : goal.returns-clause-early
returns-clause-early c = λ queries tables entries windows h.
    let d = c.args.self.driver in
    let last = c.args.self.last in
    let w = c.args.w in
    let tuples = c.args.tuples.now in
    let b = c.in_ok-begin.ensures in
    let g = c.in_ok-give.ensures in
    let r = c.in_ok-drain.ensures in
    let ended = ended_by queries tables entries windows d last h w c.begin.new.self c.give.new.driver c.drain.new.self tuples (record { queries = b.queries; sources = b.sources; count = b.count; closed = b.closed; prefixes = b.prefixes }) b.lanes b.work
    (record { queries = g.queries; sources = g.sources; count = g.count; closed = g.closed; prefixes = g.prefixes }) g.lanes g.work g.widths (record { queries = r.queries; sources = r.sources; count = r.count; closed = r.closed; prefixes = r.prefixes }) r.lanes r.items in
    early_is queries tables entries windows d last h w c.requires c.drain.new.self tuples ended c.early-early.result c.early-early.ensures

pub returns-clause-rests : goal.returns-clause-rests
returns-clause-rests c = λ queries tables entries windows h.
    let d = c.args.self.driver in
    let last = c.args.self.last in
    let w = c.args.w in
    let tuples = c.args.tuples.now in
    let b = c.in_ok-begin.ensures in
    let g = c.in_ok-give.ensures in
    let r = c.in_ok-drain.ensures in
    let ended = ended_by queries tables entries windows d last h w c.begin.new.self c.give.new.driver c.drain.new.self tuples (record { queries = b.queries; sources = b.sources; count = b.count; closed = b.closed; prefixes = b.prefixes }) b.lanes b.work
    (record { queries = g.queries; sources = g.sources; count = g.count; closed = g.closed; prefixes = g.prefixes }) g.lanes g.work g.widths (record { queries = r.queries; sources = r.sources; count = r.count; closed = r.closed; prefixes = r.prefixes }) r.lanes r.items in
    let e = c.in_ok-answers.ensures in
    subst (λ (a : Answers). Rests queries tables entries (windows ++ (w, tuples) ∷ []) c.finish.new.self (Some a)) (sym c.in_ok-copied.ensures)
    (rests_on queries tables entries windows d last h w c.requires c.drain.new.self tuples ended c.finish.new.self c.in_ok-answers.answers e.window e.emitted e.parts e.lanes e.emptied e.queries e.sources e.closed e.prefixes)
