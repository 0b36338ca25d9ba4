use Rattle.std.proofs.Common.{◌∙◌, ap, sym, not, refl}
use Rattle.sn_core_net.specs.declared.holder.Holder.{Holder}
use Rattle.sn_core_net.proofs.Zips.{passes_left}
use Rattle.sn_core_net.proofs.net.Net.runs.Goals as goal

pub returns : goal.returns
returns c =
    let net = c.args.self.now in
    ap not c.has_ended.ensures ∙ ap (λ (h : Holder). not h.sender.ended) c.index.ensures
    ∙ sym (passes_left (λ h. not h.sender.ended) (λ x. not x.ended) (λ h x. refl) net.lanes.items net.engine.lanes.items c.args.lane c.index.result.now net.matched c.requires)
