use Rattle.std.proofs.Common.{◌≡◌, ◌∙◌, ◌++◌, ap, take, drop, length, List}
use Rattle.sn_core_net.specs.Holders.{all_begun}
use Rattle.sn_core_net.specs.declared.holder.Holder.{Holder}
use Rattle.sn_core_net.proofs.Both.{length_begun, whole}
use Rattle.sn_core_net.proofs.lanes.begin_all.Goals as goal

pub returns : goal.returns
returns c =
    let lanes = c.args.lanes.now in
    let items : List Holder = lanes.items in
    let new : c.begin.new.lanes ≡ all_begun items c.args.kepts.now = c.begin.ensures ∙ ap (λ (hs : List Holder). all_begun hs c.args.kepts.now) c.deref_mut.ensures.value in
    ap (λ (xs : List Holder). take lanes.len (xs ++ drop (length xs) items)) new ∙ whole lanes.len (all_begun items c.args.kepts.now) items (length_begun items c.args.kepts.now) lanes.ok.0
