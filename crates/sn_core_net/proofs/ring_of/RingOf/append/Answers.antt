use Rattle.std.proofs.Common.{ap, ◌∙◌}
use Rattle.circular_buffer.specs.Buffer.{buffer}
use Rattle.sn_report.specs.Items.{frame_by}
use Rattle.sn_core_net.proofs.Rings.{kept_whole}
use Rattle.sn_core_net.proofs.ring_of.RingOf.append.Goals as goal

pub returns : goal.returns
returns g c =
    let ring = c.args.self.now in
    c.push.ensures ∙ ap (λ xs. buffer xs ring.capacity) (kept_whole ring.capacity ring.items (frame_by g.R.Columns.columns c.args.frame) c.requires)
