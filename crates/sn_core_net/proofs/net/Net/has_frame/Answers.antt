use Rattle.std.proofs.Common.{◌∙◌, ap, sym, not, nat_eq, length}
use Rattle.std.proofs.lemmas.List.{length-map}
use Rattle.sn_core.specs.Needs.{is_empty}
use Rattle.sn_core_net.specs.Reports.{frame_of}
use Rattle.sn_core_net.specs.declared.holder.Holder.{Holder}
use Rattle.sn_core_net.proofs.Zips.{passes_left}
use Rattle.sn_core_net.proofs.net.Net.has_frame.Goals as goal

pub returns : goal.returns
returns c =
    let net = c.args.self.now in
    ap not c.is_empty.ensures ∙ ap (λ (h : Holder). not (nat_eq (length h.ring.items) 0)) c.index.ensures
    ∙ sym (passes_left (λ h. not (nat_eq (length h.ring.items) 0)) (λ x. not (is_empty x)) (λ h x. ap (λ m. not (nat_eq m 0)) (length-map h.ring.items frame_of)) net.lanes.items net.engine.lanes.items c.args.lane c.index.result.now net.matched c.requires)
