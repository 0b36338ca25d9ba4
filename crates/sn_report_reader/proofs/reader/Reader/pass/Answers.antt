use Rattle.std.proofs.Common.{◌≡◌, ◌+◌, ◌-◌, ◌≤◌, ℕ, List, length, take, drop, ap, ◌∙◌, arith}
use Rattle.sn_report_reader.specs.Reading.{ReaderState}
use Rattle.sn_report_reader.proofs.RangeLemmas.{range_long, range_passed}
use Rattle.sn_report_reader.proofs.reader.Reader.pass.Goals as goal

pub returns-clause-state : goal.returns-clause-state
returns-clause-state c =
    let s = c.self.inside in
    let count = c.args.count in
    let same : length (take (s.end - s.start) (drop s.start s.bytes.items)) ≡ length c.args.self.now.held = ap (λ (r : ReaderState). length r.held) c.self.view_is in
    let long = range_long s.bytes.items s.start s.end (omega (arith, c.self.invariant)) (omega (arith, c.self.invariant)) in
    let fits : s.start + count ≤ s.end = omega (arith, same, long, c.requires, c.self.invariant) in
    ap (λ (xs : List ℕ). record { offset = s.offset + count; held = xs }) (range_passed s.bytes.items s.start s.end count fits)
    ∙ ap (λ (r : ReaderState). record { offset = r.offset + count; held = drop count r.held }) c.self.view_is
