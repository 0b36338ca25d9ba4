use Rattle.sn_io.specs.Inputs.{stated_file}
use Rattle.sn_report_reader.proofs.ReportedLemmas.{past_is}
use Rattle.sn_report_reader.proofs.reader.goes_past.Goals as goal

pub returns-clause-past : goal.returns-clause-past
returns-clause-past g c = past_is (stated_file (g.I.Inputs.reported c.args.files.now) c.args.name.now) c.in_ok-count.count c.in_ok-count.ensures.none
