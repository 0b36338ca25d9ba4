use Rattle.std.proofs.Common.{◌≡◌, List, true, false, get_or, ap, sym, subst, ◌∙◌}
use Rattle.std.specs.List.{list_all}
use Rattle.sn_types.specs.Values.{holds}
use Rattle.sn_types.specs.declared.typed_op.TCond.{TCond}
use Rattle.sn_pipe.specs.AnyStage.{Stage}
use Rattle.sn_pipe.specs.declared.stage.Stage.TheVariants.{Filter}
use Rattle.sn_pipe.proofs.Leads.{leads_more, stops_here}
use Rattle.sn_pipe.proofs.start.leading.Goals as goal

pub returns-then-not-passes-clause-none : goal.returns-then-not-passes-clause-none
returns-then-not-passes-clause-none g c = λ none.
    let stages = c.args.stages.now in
    let level = c.args.level in
    let row = c.args.packet.now in
    let place = c.loop-place.place in
    let conds = c.in-Filter.conds in
    let is : Filter conds ≡ get_or stages place (Filter conds) = subst (λ (s : Stage). s ≡ get_or stages place s) c.in-Filter.is c.index-stages-place.is in
    let fails : list_all (λ x. holds level x row) conds ≡ false =
    ap (λ (cs : List TCond). list_all (λ x. holds level x row) cs) (sym c.as_slice.ensures) ∙ sym c.passes.ensures ∙ c.if-not-passes.true in
    stops_here level stages row place conds c.loop-place.invariant c.loop-place-test.true is fails

pub loop-place-preserved : goal.loop-place-preserved
loop-place-preserved g c =
    let stages = c.args.stages.now in
    let level = c.args.level in
    let row = c.args.packet.now in
    let place = c.loop-place.place in
    let conds = c.in-Filter.conds in
    let is : Filter conds ≡ get_or stages place (Filter conds) = subst (λ (s : Stage). s ≡ get_or stages place s) c.in-Filter.is c.index-stages-place.is in
    let passes : list_all (λ x. holds level x row) conds ≡ true =
    ap (λ (cs : List TCond). list_all (λ x. holds level x row) cs) (sym c.as_slice.ensures) ∙ sym c.passes.ensures ∙ c.if-not-passes.false in
    leads_more level stages row place conds c.loop-place.invariant c.loop-place-test.true is passes
