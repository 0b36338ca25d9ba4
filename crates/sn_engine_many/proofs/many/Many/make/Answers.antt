use Rattle.std.proofs.Common.{◌≤◌, List, length, ap, sym, ◌∙◌, subst, arith}
use Rattle.std.specs.List.{AllByRecursion}
use Rattle.std.proofs.lemmas.List.{length-map}
use Rattle.sn_emit.proofs.PlanFacts.{all_few}
use Rattle.sn_emit.specs.Making.{CanMake}
use Rattle.sn_emit.specs.Plans.{Placed, pieces_from, tables_of}
use Rattle.sn_emit.specs.declared.tables.Tables.{Tables}
use Rattle.sn_engine.proofs.Lanes.{as_many_entries}
use Rattle.sn_engine_lockstep.proofs.Beginning.{has_shape}
use Rattle.sn_engine_lockstep.proofs.Laws.{plan_made}
use Rattle.sn_engine_lockstep.proofs.Recalling.{recalls_none}
use Rattle.sn_engine_many.proofs.Plans.{pieces_short, shape_short, shorts_can}
use Rattle.sn_engine_many.specs.Shorts.{short_placed}
use Rattle.sn_engine_many.specs.Switches.{IsResting}
use Rattle.sn_plan_fit.specs.Fits.{HasShape}
use Rattle.sn_engine_many.proofs.many.Many.make.Goals as goal

pub short_plan-requires-clause-few : goal.short_plan-requires-clause-few
short_plan-requires-clause-few c =
    let many = as_many_entries c.args.t.now.queries c.args.plan.now.entries c.requires.fits.paths in
    omega (arith, many)

pub short_plan-requires-clause-can : goal.short_plan-requires-clause-can
short_plan-requires-clause-can c =
    let t = c.args.t.now in
    plan_made t.window_us t.queries c.args.s.now c.args.plan.now.entries t.typed c.requires.switch c.requires.fits

pub switches_of-requires-clause-some_depth : goal.switches_of-requires-clause-some_depth
switches_of-requires-clause-some_depth c = subst (λ (tables : Tables). 1 ≤ tables.depth) (sym c.of-tables.ensures) c.requires.switch.chain.0

pub switches_of-requires-clause-most_depth : goal.switches_of-requires-clause-most_depth
switches_of-requires-clause-most_depth c = subst (λ (tables : Tables). tables.depth ≤ 4) (sym c.of-tables.ensures) c.requires.switch.chain.1

pub switches_of-requires-clause-shape : goal.switches_of-requires-clause-shape
switches_of-requires-clause-shape c =
    let t = c.args.t.now in
    let entries = c.args.plan.now.entries in
    subst (HasShape t.queries) (sym c.in_ok-short.ensures) (shape_short t.queries entries (has_shape t.queries c.args.s.now entries c.requires.fits))

pub switches_of-requires-clause-most : goal.switches_of-requires-clause-most
switches_of-requires-clause-most c =
    let t = c.args.t.now in
    let entries = c.args.plan.now.entries in
    let few = all_few t.window_us t.queries c.args.s.now t.typed c.requires.switch entries c.requires.fits.paths c.requires.fits.pieces in
    let same = length-map (pieces_from 0 entries) (short_placed t.queries) in
    subst (λ (ps : List Placed). length ps ≤ 64) (sym (ap (pieces_from 0) c.in_ok-short.ensures ∙ pieces_short t.queries 0 entries)) (omega (arith, few, same))

pub switches_of-requires-clause-can : goal.switches_of-requires-clause-can
switches_of-requires-clause-can c =
    let t = c.args.t.now in
    let entries = c.args.plan.now.entries in
    subst (AllByRecursion (CanMake t.queries)) (sym (ap (pieces_from 0) c.in_ok-short.ensures ∙ pieces_short t.queries 0 entries))
    (shorts_can t.queries (pieces_from 0 entries) (plan_made t.window_us t.queries c.args.s.now entries t.typed c.requires.switch c.requires.fits))

pub make_many-requires : goal.make_many-requires
make_many-requires c = has_shape c.args.t.now.queries c.args.s.now c.args.plan.now.entries c.requires.fits

pub returns-clause-between : goal.returns-clause-between
returns-clause-between c =
    let t = c.args.t.now in
    let entries = c.args.plan.now.entries in
    record {
      each = subst (λ (ps : List Placed). AllByRecursion (IsResting t.queries (tables_of c.args.s.now) ps) c.in_ok-switches.switches.items) (ap (pieces_from 0) c.in_ok-short.ensures ∙ pieces_short t.queries 0 entries) (subst (λ (tables : Tables). AllByRecursion (IsResting t.queries tables (pieces_from 0 c.in_ok-short.short.entries)) c.in_ok-switches.switches.items) c.of-tables.ensures c.in_ok-switches.ensures.resting);
      none = c.in_ok-engine.ensures.lanes;
      recalls = recalls_none t.queries (pieces_from 0 entries) c.in_ok-engine.engine.closed c.in_ok-engine.engine.kept c.in_ok-engine.ensures.closed;
    }
