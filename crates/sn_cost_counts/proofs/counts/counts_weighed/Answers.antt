use Rattle.std.proofs.Common.{◌≡◌, ℕ, ◌+◌, ◌≤◌, List, [], ◌∷◌, ◌++◌, length, true, ap, sym, subst, ◌∙◌, arith, append_assoc}
use Rattle.std.specs.List.{AllByRecursion}
use Rattle.std.proofs.lemmas.List.Elements.{recursion_from_All}
use Rattle.sn_base.specs.Groups.{Row}
use Rattle.sn_cost_tally.specs.Weighed.{repeated}
use Rattle.sn_ops.specs.Flow.{AllFit}
use Rattle.sn_types.specs.declared.typed_op.TOp.{TOp}
use Rattle.sn_types.specs.Cuts.{greatest_cut, is_stateful}
use Rattle.sn_cost_counts.specs.Coming.{ahead}
use Rattle.sn_cost_counts.specs.Fitting.{AllGo, Takes}
use Rattle.sn_cost_counts.specs.Flows.{counts_from, starting, wider}
use Rattle.sn_cost_counts.specs.Passing.{flows_of}
use Rattle.sn_cost_counts.proofs.Branching.{started}
use Rattle.sn_cost_counts.proofs.Going.{fits_next, if_ok, wider_go}
use Rattle.sn_cost_counts.proofs.Weighing.{all_stand, none_ahead, wide_first}
use Rattle.sn_cost_counts.proofs.counts.counts_weighed.Goals as goal

pub after_registers-requires-clause-fits : goal.after_registers-requires-clause-fits
after_registers-requires-clause-fits g c =
    let a = c.args in
    let op : TOp = c.in-Some.op.now in
    let after : List TOp = c.in-Some.after.now in
    let are : a.steps.now.ops.now ≡ op ∷ after = c.in-Some.ensures.cases.0 in
    let weights = c.requires.weights in
    let takes : AllByRecursion (Takes a.steps.now.level (op ∷ after)) a.found.rows =
    subst (λ (os : List TOp). AllByRecursion (Takes a.steps.now.level os) a.found.rows) are
    (all_stand (Takes a.steps.now.level a.steps.now.ops.now) a.found.rows a.found.weights.items weights.0 (recursion_from_All (λ n. 1 ≤ n) a.found.weights.items weights.1) c.requires.can.takes) in
    fits_next a.steps.now.level op after a.found.rows (subst (λ (os : List TOp). AllFit a.steps.now.level os []) are c.requires.can.fits) takes

pub counts_on-requires-clause-go : goal.counts_on-requires-clause-go
counts_on-requires-clause-go g c =
    let a = c.args in
    let op : TOp = c.in-Some.op.now in
    let after : List TOp = c.in-Some.after.now in
    let are : a.steps.now.ops.now ≡ op ∷ after = c.in-Some.ensures.cases.0 in
    let rows : List Row = repeated a.found.rows a.found.weights.items in
    let first : is_stateful op ≡ true = none_ahead op after (ap ahead (sym are) ∙ c.requires.first.1) in
    let long = ap length are in
    let go : AllGo a.steps.now.level 1 after (wider a.steps.now.registers.now.chain a.steps.now.level a.steps.now.registers.now.sizes.now op (starting rows ∷ [])) =
    wider_go a.steps.now.level 0 a.steps.now.registers.now.chain a.steps.now.registers.now.sizes.now op after (starting rows ∷ [])
    (subst (λ (os : List TOp). AllGo a.steps.now.level 0 os (starting rows ∷ [])) are (started a.steps.now.level a.steps.now.ops.now rows c.requires.can.few c.requires.can.takes c.requires.can.fits)) in
    let is : flows_of c.in_ok-passing.passing ≡ wider a.steps.now.registers.now.chain a.steps.now.level a.steps.now.registers.now.sizes.now op (starting rows ∷ []) =
    c.in_ok-passing.ensures.flows ∙ ap (λ ns. wider a.steps.now.registers.now.chain 0 a.steps.now.registers.now.sizes.now op (starting (repeated a.found.rows ns) ∷ [])) c.as_slice.ensures.value ∙ wide_first a.steps.now.registers.now.chain a.steps.now.level a.steps.now.registers.now.sizes.now op (starting rows ∷ []) first in
    (1, omega (arith, long, c.requires.can.short), subst (AllGo a.steps.now.level 1 after) (sym is) go)

pub counts_on-requires-clause-shape : goal.counts_on-requires-clause-shape
counts_on-requires-clause-shape g c =
    let are : c.args.steps.now.ops.now ≡ c.in-Some.op.now ∷ c.in-Some.after.now = c.in-Some.ensures.cases.0 in
    c.in_ok-passing.ensures.shape c.in-Some.after.now (subst (λ (os : List TOp). length os ≤ greatest_cut os) are c.requires.can.shape)

pub returns-clause-counts : goal.returns-clause-counts
returns-clause-counts g c =
    let a = c.args in
    let op : TOp = c.in-Some.op.now in
    let after : List TOp = c.in-Some.after.now in
    let are : a.steps.now.ops.now ≡ op ∷ after = c.in-Some.ensures.cases.0 in
    let rows : List Row = repeated a.found.rows a.found.weights.items in
    let first : is_stateful op ≡ true = none_ahead op after (ap ahead (sym are) ∙ c.requires.first.1) in
    let is : flows_of c.in_ok-passing.passing ≡ wider a.steps.now.registers.now.chain a.steps.now.level a.steps.now.registers.now.sizes.now op (starting rows ∷ []) =
    c.in_ok-passing.ensures.flows ∙ ap (λ ns. wider a.steps.now.registers.now.chain 0 a.steps.now.registers.now.sizes.now op (starting (repeated a.found.rows ns) ∷ [])) c.as_slice.ensures.value ∙ wide_first a.steps.now.registers.now.chain a.steps.now.level a.steps.now.registers.now.sizes.now op (starting rows ∷ []) first in
    let all : ℕ → List ℕ = λ n. n ∷ counts_from a.steps.now.registers.now.chain a.steps.now.level a.steps.now.registers.now.sizes.now after (wider a.steps.now.registers.now.chain a.steps.now.level a.steps.now.registers.now.sizes.now op (starting rows ∷ [])) in
    let none : length rows ≡ 0 + length rows = omega arith in
    if_ok c.counts_on.result (λ along. along.counts ≡ c.push.new.self ++ counts_from a.steps.now.registers.now.chain a.steps.now.level a.steps.now.registers.now.sizes.now after (flows_of c.in_ok-passing.passing)) _
    (λ along reported.
    reported ∙ ap (λ ns. ns ++ counts_from a.steps.now.registers.now.chain a.steps.now.level a.steps.now.registers.now.sizes.now after (flows_of c.in_ok-passing.passing)) c.in_ok-push.ensures.ok
    ∙ append_assoc a.before (a.found.together ∷ []) (counts_from a.steps.now.registers.now.chain a.steps.now.level a.steps.now.registers.now.sizes.now after (flows_of c.in_ok-passing.passing))
    ∙ ap (λ fs. a.before ++ a.found.together ∷ counts_from a.steps.now.registers.now.chain a.steps.now.level a.steps.now.registers.now.sizes.now after fs) is
    ∙ ap (λ n. a.before ++ all n) (c.requires.together ∙ none)
    ∙ ap (λ (os : List TOp). a.before ++ counts_from a.steps.now.registers.now.chain a.steps.now.level a.steps.now.registers.now.sizes.now os (starting rows ∷ [])) (sym are))
    c.counts_on.ensures.counts
