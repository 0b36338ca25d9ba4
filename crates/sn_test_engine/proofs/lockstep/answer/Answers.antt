use Rattle.std.proofs.Common.{◌≡◌, ◌<◌, ◌∙◌, List, length, Result, Ok, Err, OnOk, sym, subst}
use Rattle.std.specs.List.{AllByRecursion}
use Rattle.sn_engine_lockstep.specs.declared.source.Source.{Source}
use Rattle.sn_types.specs.declared.typed_query.TypedQuery.{TypedQuery}
use Rattle.sn_test_engine.proofs.lockstep.answer.Goals as goal

on_ok : {X Y P Q : Type 0} (r : Result X Y) → (P → Q) → OnOk r P → OnOk r Q
on_ok (Ok x) f h = f h
on_ok (Err e) f h = tt

pub returns-clause-known : goal.returns-clause-known
returns-clause-known c =
    let before = c.args.driver.now in
    let after = c.close.new.self in
    let v = c.loop-tuple.invariant in
    let sources : after.sources ≡ before.sources = c.close.ensures.sources ∙ v.sources in
    on_ok c.close.result
    (λ same. subst (AllByRecursion (λ (source : Source). source.query < length after.engine.t.queries)) (sym sources)
    (subst (λ (qs : List TypedQuery). AllByRecursion (λ (source : Source). source.query < length qs) before.sources) (sym (same ∙ v.queries)) c.requires.known))
    c.close.ensures.queries
