use Rattle.std.proofs.Common.{◌≤◌, ◌<◌, ◌^◌, List, length, ap, sym, ◌∙◌, subst, arith}
use Rattle.sn_plan_grammar.specs.declared.plan.Entry.{Entry}
use Rattle.sn_types.specs.declared.typed_query.TypedQuery.{TypedQuery}
use Rattle.sn_types.proofs.Facts.{few_queries}
use Rattle.sn_engine.specs.declared.intake.Intake.{Intake}
use Rattle.sn_engine.specs.Intakes.{intakes_of, total, AreIntakes, EndsAgree}
use Rattle.sn_engine.proofs.Ends.{plan_agrees}
use Rattle.sn_engine.proofs.Lanes.{as_many_entries, few_lanes, lanes_are_sound, nothing_came}
use Rattle.sn_engine.proofs.engine.Engine.make.Goals as goal

pub intakes-requires : goal.intakes-requires
intakes-requires c =
    let t = c.args.t.now in
    let entries = c.args.plan.now.entries in
    let many = as_many_entries t.queries entries c.requires.paths in
    let few = few_queries t.window_us t.queries t.typed in
    let most : length entries ≤ 8 = omega (arith, many, few) in
    subst (λ (es : List Entry). length es ≤ 8) (sym c.as_slice.ensures) most

pub invariant_of-result : goal.invariant_of-result
invariant_of-result c =
    let queries = c.args.t.now.queries in
    let entries = c.args.plan.now.entries in
    let is = c.in_ok-lanes.ensures ∙ ap (intakes_of 0) c.as_slice.ensures in
    record {
      counted = sym (ap total is ∙ nothing_came entries);
      few = subst (λ (ls : List Intake). length ls < 2 ^ 32) (sym is) (few_lanes c.args.t.now.window_us queries entries c.args.t.now.typed c.requires.paths);
      agreed = subst EndsAgree (sym is) (plan_agrees entries);
      sound = subst (λ (qs : List TypedQuery). AreIntakes qs c.in_ok-lanes.lanes.items) (sym c.in_ok-copied.ensures.queries) (subst (AreIntakes queries) (sym is) (lanes_are_sound queries entries c.requires));
    }
