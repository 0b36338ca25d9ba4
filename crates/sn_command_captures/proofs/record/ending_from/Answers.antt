use Rattle.std.proofs.Common.{◌+◌, refl, sym, ◌∙◌}
use Rattle.sn_command_captures.proofs.WalkLemmas.{ending_here, ending_next}
use Rattle.sn_command_captures.proofs.record.ending_from.Goals as goal

pub records-preserved : goal.records-preserved
records-preserved c =
    c.records.invariant ∙ ending_next c.args.header.now c.args.file.now c.records.at (c.records.at + (16 + c.in-Ok.packet.cap)) c.in-Ok.packet c.in-Ok.ensures.whole c.in-Ok.ensures.packet refl

pub returns-in-Err : goal.returns-in-Err
returns-in-Err c = sym (c.records.invariant ∙ ending_here c.args.header.now c.args.file.now c.records.at c.in-Err.ending c.in-Err.ensures.ending)
