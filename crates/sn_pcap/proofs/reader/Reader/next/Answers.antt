use Rattle.std.proofs.Common.{◌≡◌, ◌+◌, ℕ, List, Err, None, Some, take, subst, refl, ap, ◌∙◌, rules}
use Rattle.sn_io.specs.Inputs.{stated_file}
use Rattle.sn_io.specs.declared.inputs.ReadError.{ReadError}
use Rattle.sn_pcap.specs.Reading.{ReaderState, Follows, HasRead}
use Rattle.sn_pcap.proofs.ReportedLemmas.{reported_packet_step, reported_end_step, reported_fault_step, reported_takes, reported_follows, reported_still, known_still, not_unknown, not_err}
use Rattle.sn_pcap.proofs.reader.Reader.next.Goals as goal

pub returns-in-Ok-None-clause-takes : goal.returns-in-Ok-None-clause-takes
returns-in-Ok-None-clause-takes g c =
    let reported = stated_file (g.I.Inputs.reported c.args.files.now) c.args.name.now in
    let inside = c.self.inside in
    let seen_as : ReaderState = record { header = inside.header; offset = inside.offset; held = inside.buffer; last = inside.last } in
    let none : inside.last ≡ None = search rules in
    let now = c.pass.new.self in
    let count : c.from.result ≡ c.look.new.seen.cap = c.from.ensures in
    let header : now.header ≡ inside.header = ap (λ (r : ReaderState). r.header) c.pass.ensures in
    let offset : now.offset ≡ inside.offset + (16 + c.look.new.seen.cap) = ap (λ (r : ReaderState). r.offset) c.pass.ensures ∙ ap (λ (n : ℕ). inside.offset + (16 + n)) count in
    let still : now.last ≡ inside.last = ap (λ (r : ReaderState). r.last) c.pass.ensures in
    reported_takes reported c.args.self.now now _ c.look.new.seen (reported_packet_step reported seen_as c.args.self.now now c.look.new.seen c.self.view_is none header offset (still ∙ none) c.requires.follows (c.in-Ok-None.ensures.packet c.in-Ok-None.field-0-is))

pub returns-in-Ok-None-clause-follows : goal.returns-in-Ok-None-clause-follows
returns-in-Ok-None-clause-follows g c =
    let reported = stated_file (g.I.Inputs.reported c.args.files.now) c.args.name.now in
    let inside = c.self.inside in
    let seen_as : ReaderState = record { header = inside.header; offset = inside.offset; held = inside.buffer; last = inside.last } in
    let now = c.pass.new.self in
    reported_still (g.I.Inputs.reported c.args.files.now) (g.I.Inputs.reported c.look.new.files) c.args.name.now (λ file. Follows file now) c.look.ensures.reported
    (reported_follows reported seen_as c.args.self.now now c.look.new.buffer (16 + c.from.result) c.self.view_is (ap (λ (r : ReaderState). r.offset) c.pass.ensures) (ap (λ (r : ReaderState). r.held) c.pass.ensures) c.requires.follows c.look.ensures.holds)

pub returns-in-Ok-None-clause-known : goal.returns-in-Ok-None-clause-known
returns-in-Ok-None-clause-known g c _ =
    let I = g.I.Inputs in
    let inside = c.self.inside in
    let seen_as : ReaderState = record { header = inside.header; offset = inside.offset; held = inside.buffer; last = inside.last } in
    known_still c.args.name.now (I.faults c.args.files.now) (I.faults c.look.new.files) c.look.ensures.faults
    (not_unknown seen_as c.args.self.now c.args.name.now (I.faults c.args.files.now) c.self.view_is c.requires.known (λ empty none. not_err (c.in-Ok-None.ensures.unknown empty none)))

pub returns-in-Ok-Some-clause-known : goal.returns-in-Ok-Some-clause-known
returns-in-Ok-Some-clause-known g c _ =
    let I = g.I.Inputs in
    let inside = c.self.inside in
    let seen_as : ReaderState = record { header = inside.header; offset = inside.offset; held = inside.buffer; last = inside.last } in
    known_still c.args.name.now (I.faults c.args.files.now) (I.faults c.look.new.files) c.look.ensures.faults
    (not_unknown seen_as c.args.self.now c.args.name.now (I.faults c.args.files.now) c.self.view_is c.requires.known (λ empty none. not_err (c.in-Ok-Some.ensures.unknown empty none)))

pub returns-in-Err-clause-known : goal.returns-in-Err-clause-known
returns-in-Err-clause-known g c has =
    let inside = c.self.inside in
    let held : c.keep.new.self ≡ inside.buffer = c.keep.ensures ∙ ap (λ (n : ℕ). take n c.look.new.buffer) c.len-held.ensures.len ∙ c.look.ensures.kept in
    let same : ◌≡◌ {A = ReaderState} (record { header = inside.header; offset = inside.offset; held = c.keep.new.self; last = inside.last }) c.args.self.now =
    ap (λ (h : List ℕ). record { header = inside.header; offset = inside.offset; held = h; last = inside.last }) held ∙ c.self.view_is in
    c.look.ensures.faults.known ∙ c.requires.known (subst (λ (r : ReaderState). HasRead r) same has)

pub returns-in-Ok-Some-clause-step : goal.returns-in-Ok-Some-clause-step
returns-in-Ok-Some-clause-step g c =
    let inside = c.self.inside in
    let none : inside.last ≡ None = search rules in
    reported_end_step (stated_file (g.I.Inputs.reported c.args.files.now) c.args.name.now) (record { header = inside.header; offset = inside.offset; held = inside.buffer; last = inside.last }) c.args.self.now
    (record { header = inside.header; offset = inside.offset; held = c.look.new.buffer; last = Some c.in-Ok-Some.last }) c.in-Ok-Some.last c.answer_of-in-Ok-Some.result c.look.new.seen
    c.self.view_is c.answer_of-in-Ok-Some.ensures none refl refl refl c.requires.follows (rw c.in-Ok-Some.field-0-is at c.in-Ok-Some.ensures).last

pub returns-in-Ok-Some-clause-takes : goal.returns-in-Ok-Some-clause-takes
returns-in-Ok-Some-clause-takes g c =
    let inside = c.self.inside in
    let none : inside.last ≡ None = search rules in
    let reported = stated_file (g.I.Inputs.reported c.args.files.now) c.args.name.now in
    let now : ReaderState = record { header = inside.header; offset = inside.offset; held = c.look.new.buffer; last = Some c.in-Ok-Some.last } in
    reported_takes reported c.args.self.now now c.answer_of-in-Ok-Some.result c.look.new.seen
    (reported_end_step reported (record { header = inside.header; offset = inside.offset; held = inside.buffer; last = inside.last }) c.args.self.now now c.in-Ok-Some.last c.answer_of-in-Ok-Some.result c.look.new.seen
    c.self.view_is c.answer_of-in-Ok-Some.ensures none refl refl refl c.requires.follows (rw c.in-Ok-Some.field-0-is at c.in-Ok-Some.ensures).last)

pub returns-in-Err-clause-step : goal.returns-in-Err-clause-step
returns-in-Err-clause-step g c =
    let I = g.I.Inputs in
    let inside = c.self.inside in
    reported_fault_step (I.reported c.args.files.now) (I.faults c.args.files.now) c.args.name.now c.args.self.now
    (record { header = inside.header; offset = inside.offset; held = c.keep.new.self; last = inside.last }) c.in-Err.fault (Err c.error_of.result) c.look.new.seen
    (ap (λ (e : ReadError). Err e) c.error_of.ensures) (g.met.I.Inputs.same_names c.args.files.now) (λ is. c.in-Err.ensures.missing (ap (λ f. Err f) is))

pub returns-in-Err-clause-takes : goal.returns-in-Err-clause-takes
returns-in-Err-clause-takes g c =
    let I = g.I.Inputs in
    let inside = c.self.inside in
    let now : ReaderState = record { header = inside.header; offset = inside.offset; held = c.keep.new.self; last = inside.last } in
    reported_takes (stated_file (I.reported c.args.files.now) c.args.name.now) c.args.self.now now (Err c.error_of.result) c.look.new.seen
    (reported_fault_step (I.reported c.args.files.now) (I.faults c.args.files.now) c.args.name.now c.args.self.now now c.in-Err.fault (Err c.error_of.result) c.look.new.seen
    (ap (λ (e : ReadError). Err e) c.error_of.ensures) (g.met.I.Inputs.same_names c.args.files.now) (λ is. c.in-Err.ensures.missing (ap (λ f. Err f) is)))
