use Rattle.std.proofs.Common.{◌∙◌, ap, sym, nat_lt, length}
use Rattle.std.proofs.lemmas.List.{length-map}
use Rattle.sn_core.specs.Needs.{has_room}
use Rattle.sn_core_net.specs.Reports.{frame_of}
use Rattle.sn_core_net.specs.declared.holder.Holder.{Holder}
use Rattle.sn_core_net.proofs.Zips.{passes_left}
use Rattle.sn_core_net.proofs.net.Net.has_room.Goals as goal

pub returns : goal.returns
returns c =
    let net = c.args.self.now in
    c.has_room.ensures ∙ ap (λ (h : Holder). nat_lt (length h.ring.items) net.room) c.index.ensures
    ∙ sym (passes_left (λ h. nat_lt (length h.ring.items) net.room) (has_room net.room) (λ h x. ap (λ m. nat_lt m net.room) (length-map h.ring.items frame_of)) net.lanes.items net.engine.lanes.items c.args.lane c.index.result.now net.matched c.requires)
