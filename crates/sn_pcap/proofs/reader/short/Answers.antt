use Rattle.std.proofs.Common.{arith}
use Rattle.sn_io.specs.Inputs.{stated_file}
use Rattle.sn_pcap.proofs.ReportedLemmas.{reported_held}
use Rattle.sn_pcap.proofs.reader.short.Goals as goal

pub returns-then-need-offset-clause-whole : goal.returns-then-need-offset-clause-whole
returns-then-need-offset-clause-whole g c _ =
    reported_held (stated_file (g.I.Inputs.reported c.args.files.now) c.args.name.now) c.args.buffer.now c.args.offset c.args.need
    (omega arith) c.requires.some (omega arith)
