use Rattle.std.proofs.Common.{◌<◌, ◌+◌, ap, refl, sym, ◌∙◌}
use Rattle.std.proofs.lemmas.Bool.{false≢true}
use Rattle.sn_base.proofs.Tests.{by_order}
use Rattle.sn_command_captures.proofs.WalkLemmas.{few_then, full_here, no_packets, packets_next}
use Rattle.sn_command_captures.specs.Walks.{are_few, packets_from}
use Rattle.sn_windows.specs.Blocks.{most_records}
use Rattle.sn_windows.specs.Numbering.{Numbering, next_count}
use Rattle.sn_windows.specs.NumberingOf.{numbering}
use Rattle.sn_command_captures.proofs.share.count_all.Goals as goal

pub records-preserved : goal.records-preserved
records-preserved c =
    let header = c.args.header.now in
    let file = c.args.file.now in
    let packet = c.in-Ok.packet in
    let after = c.records.at + (16 + packet.cap) in
    let rest = packets_from header file after in
    let parts = packets_next header file c.records.at after packet c.in-Ok.ensures.whole c.in-Ok.ensures.packet refl in
    let count = next_count (numbering c.records.windows) packet.time in
    let room : count < most_records = by_order count most_records (λ lt. lt) (λ le. absurd (false≢true (c.in-Ok-next_number.ensures.too_many.1 le))) in
    c.records.invariant ∙ few_then (numbering c.records.windows) (packets_from header file c.records.at) packet rest parts room
    ∙ ap (λ (s : Numbering). are_few s rest) (sym c.in-Ok-next_number.ensures.after)

pub returns-in-Err : goal.returns-in-Err
returns-in-Err c =
    let header = c.args.header.now in
    let file = c.args.file.now in
    let packet = c.in-Ok.packet in
    let after = c.records.at + (16 + packet.cap) in
    let parts = packets_next header file c.records.at after packet c.in-Ok.ensures.whole c.in-Ok.ensures.packet refl in
    sym (c.records.invariant
    ∙ full_here (numbering c.records.windows) (packets_from header file c.records.at) packet (packets_from header file after) parts (c.in-Err.ensures.too_many.0 refl))

pub returns : goal.returns
returns c =
    sym (c.records.invariant ∙ ap (are_few (numbering c.records.windows)) (no_packets c.args.header.now c.args.file.now c.records.at c.in_default.field-0 c.in_default.ensures.ending))
