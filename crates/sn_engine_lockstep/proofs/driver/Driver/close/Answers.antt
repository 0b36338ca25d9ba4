use Rattle.std.proofs.Common.{◌≡◌, ℕ, List, map, Option, Some, Result, Ok, Err, IfOk, OnOk, ap, sym, subst, ◌∙◌}
use Rattle.sn_emit.specs.Plans.{AreLanesOf}
use Rattle.sn_engine.specs.declared.intake.Intake.{Intake}
use Rattle.sn_engine.specs.Answers.{parts_of, window_of}
use Rattle.sn_engine.specs.Intakes.{emptied, total}
use Rattle.sn_engine.specs.Keeping.{gathered}
use Rattle.sn_engine.proofs.Firsts.{ok_then}
use Rattle.sn_refine.specs.Steps.{Set}
use Rattle.sn_types.specs.declared.answers.Answers.{Answers}
use Rattle.sn_types.specs.declared.typed_query.TypedQuery.{TypedQuery}
use Rattle.sn_engine_lockstep.specs.Work.{lanes_left}
use Rattle.sn_engine_lockstep.proofs.Beginning.{done_emptied}
use Rattle.sn_engine_lockstep.proofs.Laws.{Closed, Emptied, Recalled}
use Rattle.sn_engine_lockstep.proofs.Recalling.{closed_parts, recalls_next}
use Rattle.sn_engine_lockstep.proofs.driver.Driver.close.Goals as goal

two_ok : {E : Type 0} (P Q R : Answers → Type 0) (r : Result Answers E) → IfOk r P → IfOk r Q → ((a : Answers) → P a → Q a → R a) → IfOk r R
two_ok P Q R (Ok a) p q h = h a p q
two_ok P Q R (Err e) p q h = tt

three_ok : {E : Type 0} (C : Type 0) (P Q R : Answers → Type 0) (r : Result Answers E) → OnOk r C → IfOk r P → IfOk r Q → ((a : Answers) → C → P a → Q a → R a) → IfOk r R
three_ok C P Q R (Ok a) c p q h = h a c p q
three_ok C P Q R (Err e) c p q h = tt

pub returns-clause-answers : goal.returns-clause-answers
returns-clause-answers g c =
    let e = c.args.self.now.engine in
    let queries = e.t.queries in
    let drained = c.drain.new.self.engine in
    let same = c.in_ok-drain.ensures in
    let lanes : List Intake = drained.lanes.items in
    two_ok (λ (a : Answers). a.emitted ≡ total lanes) (λ (a : Answers). a.parts ≡ parts_of drained.t.queries (lanes_left drained.t.queries drained.closed drained.kept lanes))
    (Closed queries c.args.window e.closed e.kept c.args.self.now.emitter e.lanes.items) c.finish.result c.finish.ensures.emitted c.finish.ensures.parts
    (λ a count is typed_for tables pieces kept tuples t can widths w.
    let items = same.items typed_for tables queries pieces kept tuples t can widths w in (
      count ∙ ap total items,
      λ h. closed_parts queries tables kept tuples c.args.window e.closed e.kept pieces lanes a.parts items
          (is ∙ ap (λ (qs : List TypedQuery). parts_of qs (lanes_left qs drained.closed drained.kept lanes)) same.queries
          ∙ ap (λ (o : Option ℕ). parts_of queries (lanes_left queries o drained.kept lanes)) same.closed
          ∙ ap (λ (sets : List Set). parts_of queries (lanes_left queries e.closed sets lanes)) same.prefixes) h,
    ))

pub returns-clause-recalls : goal.returns-clause-recalls
returns-clause-recalls g c =
    let e = c.args.self.now.engine in
    let queries = e.t.queries in
    let drained = c.drain.new.self.engine in
    let now = c.finish.new.self.engine in
    let same = c.in_ok-drain.ensures in
    let lanes : List Intake = drained.lanes.items in
    three_ok (now.closed ≡ Some (window_of lanes)) (λ (a : Answers). now.kept ≡ gathered drained.t.queries a.parts lanes) (λ (a : Answers). a.window ≡ c.args.window)
    (Recalled queries c.args.self.now.emitter e.lanes.items now.closed now.kept) c.finish.result c.finish.ensures.closed c.finish.ensures.prefixes c.finish.ensures.window
    (λ a last are number typed_for tables pieces kept tuples t can widths w.
    let items = same.items typed_for tables queries pieces kept tuples t can widths w in
    recalls_next queries tables kept tuples c.args.window pieces a now.closed now.kept number (last ∙ ap (λ (ls : List Intake). Some (window_of ls)) items)
    (are ∙ ap (λ (qs : List TypedQuery). gathered qs a.parts lanes) same.queries ∙ ap (gathered queries a.parts) items))

pub returns-clause-empty : goal.returns-clause-empty
returns-clause-empty g c =
    let s = c.args.self.now in
    let queries = s.engine.t.queries in
    let drained = c.drain.new.self in
    let closed = c.finish.new.self in
    ok_then (closed.engine.lanes.items ≡ map emptied drained.engine.lanes.items) (Emptied queries s.emitter s.engine.lanes.items closed.emitter closed.engine.lanes.items) c.finish.result
    (λ empty typed_for tables pieces kept tuples t can widths w lanes. record {
      apart = w.apart;
      lanes = subst (AreLanesOf queries tables pieces) (sym c.finish.ensures.lanes) (c.in_ok-drain.ensures.lanes queries tables pieces lanes);
      empty = empty ∙ ap (map emptied) (c.in_ok-drain.ensures.items typed_for tables queries pieces kept tuples t can widths w) ∙ done_emptied queries tables c.args.window kept tuples pieces;
    })
    c.finish.ensures.emptied
