use Rattle.std.proofs.Common.{◌≡◌, List, ℕ, Some, None, cond, ap, sym, subst, slice_index, ◌∙◌}
use Rattle.std.specs.List.{list_all}
use Rattle.sn_base.specs.AnyFold.{any_has, any_step}
use Rattle.sn_base.specs.Groups.{Row, columns_at}
use Rattle.sn_base.specs.declared.any_fold.AnyFold.{AnyFold}
use Rattle.sn_chain.specs.Chain.{ChainState, after_offer}
use Rattle.sn_types.specs.declared.typed_op.TCond.{TCond}
use Rattle.sn_types.specs.declared.typed_op.TReduce.{TReduce}
use Rattle.sn_types.specs.Values.{holds}
use Rattle.sn_pipe.specs.AnyStage.{Stage}
use Rattle.sn_pipe.specs.Passing.{CanTake}
use Rattle.sn_pipe.specs.declared.stage.Stage.TheVariants.{Reduce}
use Rattle.sn_pipe.specs.Stages.{after_row, answer_to, flows, is_over, overflows}
use Rattle.sn_pipe.proofs.Begins.{word_had}
use Rattle.sn_pipe.proofs.stage.Stage+Chain+Or+R+Chain+AnyFold+R.begin.Goals as goal

pub returns-in-Filter-clause-gone : goal.returns-in-Filter-clause-gone
returns-in-Filter-clause-gone g c =
    let level = c.args.level in
    let packet : Row = c.args.packet.now in
    c.same_if.ensures.gone packet (g.R.Columns.columns c.args.row.now)
    ∙ ap (λ b. cond b (Some packet) None) (c.passes.ensures ∙ ap (list_all (λ (x : TCond). holds level x packet)) c.as_slice.ensures)
    ∙ ap (λ s. flows level s packet) (sym c.in-Filter.is)

pub returns-after-spilled-clause-over : goal.returns-after-spilled-clause-over
returns-after-spilled-clause-over g c =
    let packet : Row = c.args.packet.now in
    c.as_made.ensures.over
    ∙ c.first_only.ensures.over
    ∙ ap is_over (c.offer-answer.ensures.answer ∙ ap (answer_to c.in-Distinct.chain) c.put_into.ensures)
    ∙ ap (λ s. overflows s packet) (sym c.in-Distinct.is)

pub returns-in-Reduce-clause-over : goal.returns-in-Reduce-clause-over
returns-in-Reduce-clause-over g c =
    let packet : Row = c.args.packet.now in
    let key : g.R.Columns.columns c.columns_into.new.key ≡ columns_at c.in-Reduce.r.keys packet = c.columns_into.ensures ∙ ap (λ (ks : List ℕ). columns_at ks packet) c.as_slice-in-Reduce.ensures in
    c.folded.ensures.over
    ∙ ap is_over (c.offer.ensures.answer ∙ ap (answer_to c.in-Reduce.chain) key)
    ∙ ap (λ s. overflows s packet) (sym c.in-Reduce.is)

pub returns-in-Reduce-clause-after : goal.returns-in-Reduce-clause-after
returns-in-Reduce-clause-after g c =
    let packet : Row = c.args.packet.now in
    let r : TReduce = record { keys = c.in-Reduce.r.keys; value = c.in-Reduce.r.value; fold = c.in-Reduce.r.fold } in
    let chain : ChainState AnyFold = c.in-Reduce.chain in
    let can : CanTake (Reduce r chain) packet = subst (λ (s : Stage). CanTake s packet) c.in-Reduce.is c.requires in
    let word = word_had chain.fold c.word.result _ (slice_index packet r.value) c.word.ensures c.column.ensures can.3 in
    let key : g.R.Columns.columns c.columns_into.new.key ≡ columns_at r.keys packet = c.columns_into.ensures ∙ ap (λ (ks : List ℕ). columns_at ks packet) c.as_slice-in-Reduce.ensures in
    ap (Reduce r)
    (c.offer.ensures.after
    ∙ ap (λ (k : List ℕ). after_offer any_step chain k c.word.result) key
    ∙ ap (λ (v : ℕ). after_offer any_step chain (columns_at r.keys packet) v) word)
    ∙ ap (λ s. after_row s packet) (sym c.in-Reduce.is)

pub offer-requires : goal.offer-requires
offer-requires g c =
    let packet : Row = c.args.packet.now in
    let r : TReduce = record { keys = c.in-Reduce.r.keys; value = c.in-Reduce.r.value; fold = c.in-Reduce.r.fold } in
    let chain : ChainState AnyFold = c.in-Reduce.chain in
    let can : CanTake (Reduce r chain) packet = subst (λ (s : Stage). CanTake s packet) c.in-Reduce.is c.requires in
    subst (any_has chain.fold) (sym (word_had chain.fold c.word.result _ (slice_index packet r.value) c.word.ensures c.column.ensures can.3)) can.3
