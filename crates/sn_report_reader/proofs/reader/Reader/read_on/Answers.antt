use Rattle.std.proofs.Common.{◌≡◌, ◌+◌, ◌-◌, ◌^◌, ◌++◌, ℕ, List, IfSome, length, drop, take, ap, sym, subst, ◌∙◌, arith}
use Rattle.sn_io.specs.Inputs.{stated_file}
use Rattle.sn_report_reader.specs.Reading.{Follows, ReaderState, place_of}
use Rattle.sn_report_reader.proofs.RangeLemmas.{range_long, range_read, written_over}
use Rattle.sn_report_reader.proofs.ReportedLemmas.{ends_full, ends_here, follows_more}
use Rattle.sn_report_reader.proofs.reader.Reader.read_on.Goals as goal

pub returns-then-place-eq-MOST_BYTES-clause-reached : goal.returns-then-place-eq-MOST_BYTES-clause-reached
returns-then-place-eq-MOST_BYTES-clause-reached g c =
    let s = c.self.inside in
    let long = range_long s.bytes.items s.start s.end (omega (arith, c.self.invariant)) (omega (arith, c.self.invariant)) in
    let full : place_of c.args.self.now ≡ 2 ^ 30 = omega (arith, ap place_of c.self.view_is, long, c.if-place-eq-MOST_BYTES.true) in
    ends_full (stated_file (g.I.Inputs.reported c.args.files.now) c.args.name.now) c.args.self.now c.in_ok-goes_past.field-0 full c.if-branch.false c.in_ok-goes_past.ensures.past

pub returns-then-count-eq0-clause-reached : goal.returns-then-count-eq0-clause-reached
returns-then-count-eq0-clause-reached g c =
    let s = c.self.inside in
    let long = range_long s.bytes.items s.start s.end (omega (arith, c.self.invariant)) (omega (arith, c.self.invariant)) in
    let at : s.offset + (s.end - s.start) ≡ place_of c.args.self.now = omega (arith, ap place_of c.self.view_is, long) in
    let most = c.room_after-room.ensures.most in
    let some = c.room_after-room.ensures.some in
    ends_here (stated_file (g.I.Inputs.reported c.args.files.now) c.args.name.now) c.args.self.now c.in_ok-count.count (s.offset + (s.end - s.start)) at (omega (arith, most, some)) (omega (arith, c.if-count-eq0.true)) c.in_ok-count.ensures.none

pub returns-clause-reached : goal.returns-clause-reached
returns-clause-reached g c =
    let reported = stated_file (g.I.Inputs.reported c.args.files.now) c.args.name.now in
    let s = c.self.inside in
    let held : ℕ = s.end - s.start in
    let seen_as : ReaderState = record { offset = s.offset; held = take held (drop s.start s.bytes.items) } in
    let count = c.in_ok-count.count in
    let bytes : List ℕ = c.read_piece.new.bytes in
    let long = range_long s.bytes.items s.start s.end (omega (arith, c.self.invariant)) (omega (arith, c.self.invariant)) in
    let at : s.offset + held ≡ place_of seen_as = ap (λ (n : ℕ). s.offset + n) (omega (arith, long)) in
    let whole : length c.move_front.new.bytes ≡ s.bytes.len = omega (arith, c.move_front.ensures.len, c.deref_mut.ensures.len) in
    let moved = written_over c.move_front.new.bytes (drop (length c.move_front.new.bytes) s.bytes.items) s.bytes.len whole in
    let most = c.room_after-room.ensures.most in
    let few = c.in_ok-count.ensures.within in
    let all : List ℕ = take s.bytes.len (bytes ++ drop (length bytes) (take s.bytes.len (c.move_front.new.bytes ++ drop (length c.move_front.new.bytes) s.bytes.items))) in
    let over : all ≡ bytes = written_over bytes _ s.bytes.len (c.read_piece.ensures.len ∙ ap (λ (xs : List ℕ). length xs) (c.deref_mut-2.ensures.value ∙ moved) ∙ whole) in
    let from_front : held + count ≡ held + count - 0 = omega arith in
    subst (λ (n : ℕ). IfSome reported (λ file. Follows file c.args.self.now → Follows file (record { offset = s.offset; held = take n all }))) from_front
    (subst (λ (xs : List ℕ). IfSome reported (λ file. Follows file c.args.self.now → Follows file (record { offset = s.offset; held = take (held + count) xs }))) (sym over)
    (subst (λ (r : ReaderState). IfSome reported (λ file. Follows file r → Follows file (record { offset = s.offset; held = take (held + count) bytes }))) c.self.view_is
    (follows_more reported seen_as count (s.offset + held) (take count (drop held bytes)) (take (held + count) bytes) at (omega (arith, most, few))
    (range_read s.bytes.items s.start s.end c.move_front.new.bytes bytes count (c.move_front.ensures.front ∙ ap (λ (xs : List ℕ). take held (drop s.start xs)) c.deref_mut.ensures.value)
    (c.read_piece.ensures.kept ∙ ap (take held) (c.deref_mut-2.ensures.value ∙ moved))) c.in_ok-count.ensures.bytes c.in_ok-count.ensures.stand)))
