use Rattle.std.proofs.Common.{◌≡◌, ◌+◌, ◌≤◌, ℕ, List, Option, None, length, min, ap, sym, subst, ◌∙◌, arith, rules}
use Rattle.sn_io.specs.Counts.{ByName}
use Rattle.sn_io.specs.Inputs.{stated_file}
use Rattle.sn_pcap.specs.Capture.{number_at, captured, packet_at}
use Rattle.sn_pcap.specs.Reading.{IsSeen}
use Rattle.sn_pcap.proofs.Fronts.{captured_kept}
use Rattle.sn_pcap.proofs.ReportedLemmas.{reported_in_header, reported_bad, reported_in_packet, reported_packet, short_ends}
use Rattle.sn_pcap.proofs.reader.look.Goals as goal

pub returns-in-Some-clause-last : goal.returns-in-Some-clause-last
returns-in-Some-clause-last g c =
    let reported = stated_file (g.I.Inputs.reported c.args.files.now) c.args.name.now in
    reported_in_header reported c.args.header.now c.args.buffer.now c.args.offset c.in-Some.last
    (short_ends c.in_ok-last.field-0 c.in-Some.last reported c.args.buffer.now c.args.offset 16 c.in-Some.is c.in_ok-last.ensures.ends)

pub returns-then-cap-gt-MOST_CAPTURED-clause-last : goal.returns-then-cap-gt-MOST_CAPTURED-clause-last
returns-then-cap-gt-MOST_CAPTURED-clause-last g c =
    let held = c.short.new.buffer in
    let none : c.in_ok-last.field-0 ≡ None = search rules in
    let long : 16 ≤ length held = c.in_ok-last.ensures.held none in
    let cap : c.u32_at-cap.result ≡ number_at c.args.header.now.big 4 held 8 = c.u32_at-cap.ensures ∙ ap (λ (xs : List ℕ). number_at c.args.header.now.big 4 xs 8) c.as_slice.ensures in
    reported_bad (stated_file (g.I.Inputs.reported c.args.files.now) c.args.name.now) c.args.header.now c.args.buffer.now held c.args.offset c.u32_at-cap.result
    long cap (omega arith) c.short.ensures.holds (c.in_ok-last.ensures.whole none)

pub returns-in-Some-2-clause-last : goal.returns-in-Some-2-clause-last
returns-in-Some-2-clause-last g c =
    let I = g.I.Inputs in
    let name = c.args.name.now in
    let reported = stated_file (I.reported c.args.files.now) name in
    let now = stated_file (I.reported c.short.new.files) name in
    let held = c.short.new.buffer in
    let none : c.in_ok-last.field-0 ≡ None = search rules in
    let long : 16 ≤ length held = c.in_ok-last.ensures.held none in
    let cap : c.u32_at-cap.result ≡ number_at c.args.header.now.big 4 held 8 = c.u32_at-cap.ensures ∙ ap (λ (xs : List ℕ). number_at c.args.header.now.big 4 xs 8) c.as_slice.ensures in
    reported_in_packet reported now c.args.header.now c.args.buffer.now held c.args.offset c.u32_at-cap.result (16 + c.from.result) c.in-Some-2.last
    (ap (λ (t : Option (ByName (List ℕ))). stated_file t name) c.short.ensures.reported) long cap (omega arith) (omega arith) c.short.ensures.holds (c.in_ok-last.ensures.whole none)
    (short_ends c.in_ok-last-2.field-0 c.in-Some-2.last now held c.args.offset (16 + c.from.result) c.in-Some-2.is c.in_ok-last-2.ensures.ends)

pub returns-clause-packet : goal.returns-clause-packet
returns-clause-packet g c _ =
    let I = g.I.Inputs in
    let name = c.args.name.now in
    let header = c.args.header.now in
    let reported = stated_file (I.reported c.args.files.now) name in
    let now = stated_file (I.reported c.short.new.files) name in
    let held = c.short.new.buffer in
    let more = c.short-2.new.buffer in
    let none : c.in_ok-last.field-0 ≡ None = search rules in
    let none_again : c.in_ok-last-2.field-0 ≡ None = search rules in
    let long : 16 ≤ length held = c.in_ok-last.ensures.held none in
    let long_again : min (16 + c.from.result) 65536 ≤ length more = c.in_ok-last-2.ensures.held none_again in
    let cap : c.u32_at-cap.result ≡ number_at header.big 4 held 8 = c.u32_at-cap.ensures ∙ ap (λ (xs : List ℕ). number_at header.big 4 xs 8) c.as_slice.ensures in
    let still : captured header more 0 ≡ number_at header.big 4 held 8 = captured_kept header held more c.short-2.ensures.kept (omega arith) in
    reported_packet reported now header c.args.buffer.now held more c.args.offset c.u32_at-cap.result (16 + c.from.result) c.see.new.seen
    (ap (λ (t : Option (ByName (List ℕ))). stated_file t name) c.short.ensures.reported) (cap ∙ sym still) (omega arith) (omega arith) (omega arith)
    c.short.ensures.holds c.short-2.ensures.holds (c.in_ok-last-2.ensures.whole none_again)
    (subst (λ (xs : List ℕ). IsSeen xs (packet_at header xs 0) c.see.new.seen) c.as_slice-2.ensures c.see.ensures.packet)
