use Rattle.std.proofs.Common.{◌<◌, List, [], ◌∷◌, ◌++◌, length, ap, ◌∙◌, arith}
use Rattle.sn_ops.proofs.Steps.{map_step}
use Rattle.sn_types.specs.declared.answers.Part.{Part}
use Rattle.sn_types.specs.Typed.{query_at}
use Rattle.sn_refine.specs.Steps.{Set, prefixes_of}
use Rattle.sn_refine.proofs.refined.prefixes_of.Goals as goal

pub loop-part-preserved : goal.loop-part-preserved
loop-part-preserved c =
    let query = query_at c.args.t.now.queries c.args.q in
    let parts = c.args.parts.now in
    let i = c.loop-part.part-index in
    let part = c.part-item.result in
    let within : i < length parts = omega arith in
    let f : Part → Set = λ (p : Part). prefixes_of query p.rows in
    c.in_ok-push.ensures.ok
    ∙ ap (λ (set : Set). c.loop-part.sets ++ set ∷ []) c.in_ok-members.ensures.set
    ∙ ap (λ (sets : List Set). sets ++ f part ∷ []) c.loop-part.invariant
    ∙ map_step f parts i part within c.part-item.is
