use Rattle.std.proofs.Common.{◌≤◌, ◌<◌, List, length, sym, subst, ap, ◌∙◌}
use Rattle.std.specs.List.{AllByRecursion}
use Rattle.sn_plan_grammar.specs.declared.plan.Entry.{Entry}
use Rattle.sn_types.specs.declared.typed_query.TypedQuery.{TypedQuery}
use Rattle.sn_engine_lockstep.specs.declared.source.Source.{Source}
use Rattle.sn_engine_lockstep.specs.Sources.{sources_of}
use Rattle.sn_engine_lockstep.proofs.Laws.{few_of, made_known, made_many}
use Rattle.sn_engine_lockstep.proofs.driver.Driver.of.Goals as goal

pub sources-requires : goal.sources-requires
sources-requires c =
    let t = c.args.t.now in
    subst (λ (es : List Entry). length es ≤ 8) (sym c.as_slice.ensures) (few_of t.window_us t.queries c.args.plan.now.entries t.typed c.requires.shape.paths)

pub of-requires-clause-few : goal.of-requires-clause-few
of-requires-clause-few c =
    let t = c.args.t.now in
    few_of t.window_us t.queries c.args.plan.now.entries t.typed c.requires.shape.paths

pub returns-clause-many : goal.returns-clause-many
returns-clause-many c =
    let entries = c.args.plan.now.entries in
    ap (λ (ss : List Source). length ss) (c.in_ok-sources.ensures ∙ ap (sources_of 0) c.as_slice.ensures) ∙ made_many c.args.t.now.queries c.args.tables entries c.in_ok-emitter.emitter c.in_ok-emitter.ensures

pub returns-clause-known : goal.returns-clause-known
returns-clause-known c =
    let t = c.args.t.now in
    let entries = c.args.plan.now.entries in
    let known = made_known t.queries entries c.requires.can in
    subst (λ (qs : List TypedQuery). AllByRecursion (λ (source : Source). source.query < length qs) c.in_ok-sources.sources) (sym c.in_ok-engine.ensures.queries)
    (subst (AllByRecursion (λ (source : Source). source.query < length t.queries)) (sym (c.in_ok-sources.ensures ∙ ap (sources_of 0) c.as_slice.ensures)) known)
