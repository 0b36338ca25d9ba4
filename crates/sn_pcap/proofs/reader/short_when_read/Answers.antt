use Rattle.std.proofs.Common.{◌≤◌, arith}
use Rattle.sn_io.specs.Inputs.{stated_file}
use Rattle.sn_pcap.proofs.ReportedLemmas.{reported_large, reported_clean, reported_cut, reported_whole}
use Rattle.sn_pcap.proofs.reader.short_when_read.Goals as goal

pub returns-then-offset-count-gt-MOST_BYTES-clause-ends : goal.returns-then-offset-count-gt-MOST_BYTES-clause-ends
returns-then-offset-count-gt-MOST_BYTES-clause-ends g c =
    let want = c.min-want.result in
    let count = c.in_ok-count.count in
    let asked : count ≤ want = c.in_ok-count.ensures.most in
    reported_large (stated_file (g.I.Inputs.reported c.args.files.now) c.args.name.now) c.args.buffer.now c.args.offset c.args.need want count
    c.requires.most (omega arith) asked (omega arith) c.in_ok-count.ensures.count

pub returns-then-count-need-clause-whole : goal.returns-then-count-need-clause-whole
returns-then-count-need-clause-whole g c _ =
    reported_whole (stated_file (g.I.Inputs.reported c.args.files.now) c.args.name.now) c.args.buffer.now c.args.offset c.args.need c.min-want.result c.in_ok-count.count
    (omega arith) c.requires.some (omega arith) c.in_ok-count.ensures.count

pub returns-then-count-eq0-clause-ends : goal.returns-then-count-eq0-clause-ends
returns-then-count-eq0-clause-ends g c =
    reported_clean (stated_file (g.I.Inputs.reported c.args.files.now) c.args.name.now) c.args.buffer.now c.args.offset c.args.need c.min-want.result c.in_ok-count.count
    c.requires.most c.requires.some (omega arith) (omega arith) c.in_ok-count.ensures.count

pub returns-clause-ends : goal.returns-clause-ends
returns-clause-ends g c =
    reported_cut (stated_file (g.I.Inputs.reported c.args.files.now) c.args.name.now) c.args.buffer.now c.args.offset c.args.need c.min-want.result c.in_ok-count.count
    c.requires.most (omega arith) (omega arith) (omega arith) (omega arith) c.in_ok-count.ensures.count
