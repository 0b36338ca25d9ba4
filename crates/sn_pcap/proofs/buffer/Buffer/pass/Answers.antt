use Rattle.std.proofs.Common.{◌≡◌, ◌≤◌, ◌+◌, ◌-◌, take, drop, length, ap, ◌∙◌, arith, length-take}
use Rattle.sn_pcap.proofs.Pieces.{range_passed}
use Rattle.sn_pcap.proofs.buffer.Buffer.pass.Goals as goal

pub returns : goal.returns
returns c =
    let s = c.self.inside in
    let long : length (take (s.end - s.start) (drop s.start s.bytes.items)) ≡ length c.args.self.now = ap length c.self.view_is in
    let fits : s.start + c.args.count ≤ s.end = omega (arith, long, length-take (s.end - s.start) (drop s.start s.bytes.items), c.requires, c.self.invariant) in
    range_passed s.bytes.items s.start s.end c.args.count fits ∙ ap (drop c.args.count) c.self.view_is
