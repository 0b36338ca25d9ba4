use Rattle.std.proofs.Common.{◌≡◌, ℕ, List, map, Option, Some, Result, Ok, Err, IfOk, OnOk, ap, sym, subst, ◌∙◌}
use Rattle.sn_emit.specs.Plans.{AreLanesOf, pieces_from}
use Rattle.sn_engine.specs.declared.intake.Intake.{Intake}
use Rattle.sn_engine.specs.Answers.{parts_of, window_of}
use Rattle.sn_engine.specs.Intakes.{emptied}
use Rattle.sn_engine.specs.Keeping.{gathered}
use Rattle.sn_engine.proofs.Firsts.{ok_then}
use Rattle.sn_engine_asked.proofs.Answered.{HeardAdmitted, HeardEmptied, HeardRecalled, close_admits, close_empties, close_recalls}
use Rattle.sn_engine_lockstep.specs.Work.{lanes_left}
use Rattle.sn_refine.specs.Steps.{Set}
use Rattle.sn_types.specs.declared.answers.Answers.{Answers}
use Rattle.sn_types.specs.declared.typed_query.TypedQuery.{TypedQuery}
use Rattle.sn_engine_asked.proofs.window.close.Goals as goal

one_ok : {E : Type 0} (P R : Answers → Type 0) (r : Result Answers E) → IfOk r P → ((a : Answers) → P a → R a) → IfOk r R
one_ok P R (Ok a) p h = h a p
one_ok P R (Err e) p h = tt

three_ok : {E : Type 0} (C : Type 0) (P Q R : Answers → Type 0) (r : Result Answers E) → OnOk r C → IfOk r P → IfOk r Q → ((a : Answers) → C → P a → Q a → R a) → IfOk r R
three_ok C P Q R (Ok a) c p q h = h a c p q
three_ok C P Q R (Err e) c p q h = tt

pub returns-clause-admitted : goal.returns-clause-admitted
returns-clause-admitted c =
    let e = c.args.driver.now.engine in
    let queries = e.t.queries in
    let drained = c.drain_lanes.new.engine in
    let same = c.in_ok-drain_lanes.ensures in
    let lanes : List Intake = drained.lanes.items in
    one_ok (λ (a : Answers). a.parts ≡ parts_of drained.t.queries (lanes_left drained.t.queries drained.closed drained.kept lanes))
    (HeardAdmitted c.args.plan.now queries c.args.window e.closed e.kept c.args.driver.now.emitter e.lanes.items) c.finish.result c.finish.ensures.parts
    (λ a is typed_for tables kept tuples t h can widths w keeps.
    close_admits c.args.plan.now queries tables kept tuples c.args.window typed_for e.closed e.kept lanes a.parts t h can widths
    (same.items typed_for tables queries (pieces_from 0 c.args.plan.now) kept tuples t can widths w)
    (is ∙ ap (λ (qs : List TypedQuery). parts_of qs (lanes_left qs drained.closed drained.kept lanes)) same.queries
    ∙ ap (λ (o : Option ℕ). parts_of queries (lanes_left queries o drained.kept lanes)) same.closed
    ∙ ap (λ (sets : List Set). parts_of queries (lanes_left queries e.closed sets lanes)) same.prefixes) keeps)

pub returns-clause-recalls : goal.returns-clause-recalls
returns-clause-recalls c =
    let e = c.args.driver.now.engine in
    let queries = e.t.queries in
    let drained = c.drain_lanes.new.engine in
    let now = c.finish.new.self.engine in
    let same = c.in_ok-drain_lanes.ensures in
    let lanes : List Intake = drained.lanes.items in
    three_ok (now.closed ≡ Some (window_of lanes)) (λ (a : Answers). now.kept ≡ gathered drained.t.queries a.parts lanes) (λ (a : Answers). a.window ≡ c.args.window)
    (HeardRecalled c.args.plan.now queries c.args.driver.now.emitter e.lanes.items now.closed now.kept) c.finish.result c.finish.ensures.closed c.finish.ensures.prefixes c.finish.ensures.window
    (λ a last are number typed_for tables pieces kept tuples t can widths w.
    close_recalls c.args.plan.now queries tables kept tuples c.args.window pieces lanes a now.closed now.kept (same.items typed_for tables queries pieces kept tuples t can widths w) number last
    (are ∙ ap (λ (qs : List TypedQuery). gathered qs a.parts lanes) same.queries))

pub returns-clause-empty : goal.returns-clause-empty
returns-clause-empty c =
    let s = c.args.driver.now in
    let queries = s.engine.t.queries in
    let drained = c.drain_lanes.new in
    let closed = c.finish.new.self in
    let same = c.in_ok-drain_lanes.ensures in
    ok_then (closed.engine.lanes.items ≡ map emptied drained.engine.lanes.items) (HeardEmptied c.args.plan.now queries s.emitter s.engine.lanes.items closed.emitter closed.engine.lanes.items) c.finish.result
    (λ empty typed_for tables pieces kept tuples t can widths w lanes. record {
      apart = w.is.apart;
      lanes = subst (AreLanesOf queries tables pieces) (sym c.finish.ensures.lanes) (same.lanes queries tables pieces lanes);
      empty = empty ∙ ap (map emptied) (same.items typed_for tables queries pieces kept tuples t can widths w) ∙ close_empties c.args.plan.now queries tables kept tuples c.args.window pieces;
    })
    c.finish.ensures.emptied
