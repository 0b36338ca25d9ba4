use Rattle.std.proofs.Common.{◌≡◌, ◌∙◌, ◌++◌, ℕ, ap, subst, sym, take, drop, length, List}
use Rattle.sn_core_net.specs.Holders.{all_took}
use Rattle.sn_core_net.specs.Marks.{AreMarksFrom}
use Rattle.sn_core_net.specs.declared.holder.Holder.{Holder}
use Rattle.sn_core_net.proofs.Both.{length_took, whole}
use Rattle.sn_core_net.proofs.lanes.take_in_all.Goals as goal

pub returns-clause-lanes : goal.returns-clause-lanes
returns-clause-lanes c =
    let lanes = c.args.lanes.now in
    let items : List Holder = lanes.items in
    let tuple : List ℕ = c.args.tuple.now in
    let new : c.take_tuple.new.lanes ≡ all_took tuple items = c.take_tuple.ensures.lanes ∙ ap (all_took tuple) c.deref_mut.ensures.value in
    ap (λ (xs : List Holder). take lanes.len (xs ++ drop (length xs) items)) new ∙ whole lanes.len (all_took tuple items) items (length_took tuple items) lanes.ok.0

pub returns-clause-marks : goal.returns-clause-marks
returns-clause-marks c = λ are.
    let lanes = c.args.lanes.now in
    let items : List Holder = lanes.items in
    let tuple : List ℕ = c.args.tuple.now in
    let new : c.take_tuple.new.lanes ≡ all_took tuple items = c.take_tuple.ensures.lanes ∙ ap (all_took tuple) c.deref_mut.ensures.value in
    let long : length c.take_tuple.new.lanes ≡ length items = ap (λ (xs : List Holder). length xs) new ∙ length_took tuple items in
    subst (λ (hs : List Holder). AreMarksFrom 0 c.args.room hs c.take_tuple.new.marks) (sym (whole lanes.len c.take_tuple.new.lanes items long lanes.ok.0))
    (c.take_tuple.ensures.marks (subst (λ (hs : List Holder). AreMarksFrom 0 c.args.room hs c.args.marks.now) (sym c.deref_mut.ensures.value) are))
