use Rattle.std.proofs.Common.{◌≡◌, ℕ, List, map, Option, Some, ap, sym, ◌∙◌, subst}
use Rattle.std.specs.List.{AllByRecursion}
use Rattle.sn_emit.specs.Plans.{pieces_from}
use Rattle.sn_engine.specs.Answers.{parts_of, window_of}
use Rattle.sn_engine.specs.Intakes.{emptied, total}
use Rattle.sn_engine.specs.Keeping.{gathered, kept_for}
use Rattle.sn_engine.specs.declared.intake.Intake.{Intake}
use Rattle.sn_engine_lockstep.specs.Work.{AreKept, lanes_left}
use Rattle.sn_engine_lockstep.specs.declared.driver.Driver.{Driver}
use Rattle.sn_engine_many.proofs.Answered.{each_widths, lanes_answer, lanes_are, lanes_empty, lanes_recall, lanes_sent}
use Rattle.sn_engine_many.proofs.Ending.{one_window}
use Rattle.sn_engine_many.proofs.Plans.{shorts_can}
use Rattle.sn_engine_many.specs.Switches.{IsResting, shorts_of}
use Rattle.sn_refine.specs.Steps.{Set}
use Rattle.sn_types.specs.declared.typed_query.TypedQuery.{TypedQuery}
use Rattle.sn_engine_many.proofs.many.answer.Goals as goal

pub returns-clause-window : goal.returns-clause-window
returns-clause-window c = one_window c.args.window c.in_ok-answers.answers.window c.end_lanes.new.engine.lanes.items c.in_ok-end_lanes.ensures.ended c.in_ok-answers.ensures.ended

pub returns-clause-answers : goal.returns-clause-answers
returns-clause-answers c = λ typed_for tables queries entries kept captures t paths can widths same b.
    let w = c.args.window in
    let e = c.args.engine.now in
    let ended = c.end_lanes.new.engine in
    let first : Driver = c.in-Some.first.now in
    let drained = c.in_ok-drain_all.ensures.work typed_for tables queries (shorts_of queries entries) kept captures t (shorts_can queries (pieces_from 0 entries) can) (each_widths captures widths) b.each in
    let rests = subst (AllByRecursion (IsResting queries tables (shorts_of queries entries))) c.in-Some.ensures.cases.0 drained.0 in
    let is = lanes_are queries tables w entries kept captures paths e.lanes.items c.drain_all.new.engine.lanes.items ended.lanes.items c.deref.result.now
    b.none drained.1 c.in_ok-end_lanes.ensures.taken (c.deref.ensures.value ∙ rests.0.idle.empty) in
    let closed : ended.closed ≡ e.closed = c.in_ok-end_lanes.ensures.closed ∙ c.in_ok-drain_all.ensures.closed in
    let prefixes : ended.kept ≡ e.kept = c.in_ok-end_lanes.ensures.prefixes ∙ c.in_ok-drain_all.ensures.prefixes in
    let held : AreKept (pieces_from 0 entries) kept (kept_for ended.closed ended.kept w) =
    subst (λ (o : Option ℕ). AreKept (pieces_from 0 entries) kept (kept_for o ended.kept w)) (sym closed)
    (subst (λ (sets : List Set). AreKept (pieces_from 0 entries) kept (kept_for e.closed sets w)) (sym prefixes) b.held) in (
      c.in_ok-answers.ensures.emitted ∙ ap total is ∙ lanes_sent queries tables w entries kept captures paths,
      c.in_ok-answers.ensures.parts
          ∙ ap (λ (qs : List TypedQuery). parts_of qs (lanes_left qs ended.closed ended.kept ended.lanes.items)) (c.in_ok-end_lanes.ensures.queries ∙ c.in_ok-drain_all.ensures.queries ∙ same)
          ∙ ap (λ (ls : List Intake). parts_of queries (lanes_left queries ended.closed ended.kept ls)) is
          ∙ lanes_answer queries tables w entries kept captures paths typed_for ended.closed ended.kept t can widths held,
    )

pub returns-clause-between : goal.returns-clause-between
returns-clause-between c = λ typed_for tables queries entries kept captures t paths can widths same b.
    let w = c.args.window in
    let ended = c.end_lanes.new.engine in
    let now = c.close.new.engine in
    let answers = c.in_ok-answers.answers in
    let drained = c.in_ok-drain_all.ensures.work typed_for tables queries (shorts_of queries entries) kept captures t (shorts_can queries (pieces_from 0 entries) can) (each_widths captures widths) b.each in
    let rests = subst (AllByRecursion (IsResting queries tables (shorts_of queries entries))) c.in-Some.ensures.cases.0 drained.0 in
    let is = lanes_are queries tables w entries kept captures paths c.args.engine.now.lanes.items c.drain_all.new.engine.lanes.items ended.lanes.items c.deref.result.now
    b.none drained.1 c.in_ok-end_lanes.ensures.taken (c.deref.ensures.value ∙ rests.0.idle.empty) in
    let number : answers.window ≡ w = one_window w answers.window ended.lanes.items c.in_ok-end_lanes.ensures.ended c.in_ok-answers.ensures.ended in
    record {
      each = drained.0;
      none = c.in_ok-answers.ensures.emptied ∙ ap (map emptied) is ∙ lanes_empty queries tables w entries kept captures paths;
      recalls = lanes_recall queries tables w entries kept captures paths answers now.closed now.kept number
          (c.in_ok-answers.ensures.closed ∙ ap (λ (ls : List Intake). Some (window_of ls)) is)
          (c.in_ok-answers.ensures.prefixes
          ∙ ap (λ (qs : List TypedQuery). gathered qs answers.parts ended.lanes.items) (c.in_ok-end_lanes.ensures.queries ∙ c.in_ok-drain_all.ensures.queries ∙ same)
          ∙ ap (gathered queries answers.parts) is);
    }
