use Rattle.sn_io.specs.Inputs.{stated_file}
use Rattle.sn_pcap.proofs.HeadLemmas.{reported_head}
use Rattle.sn_pcap.proofs.front.read_head.Goals as goal

pub returns-in-Ok-clause-head : goal.returns-in-Ok-clause-head
returns-in-Ok-clause-head g c =
    reported_head (stated_file (g.I.Inputs.reported c.args.files.now) c.args.name.now) c.split_at.result.0.now c.read_front.new.bytes c.in-Ok.count c.head.result
    c.split_at.ensures.front c.head.ensures.first c.in-Ok.ensures.bytes
