use Rattle.std.proofs.Common.{◌≡◌, None, Option, List, ℕ, ap, ◌∙◌, arith, rules}
use Rattle.std.specs.FinMap.{get}
use Rattle.sn_io.specs.Counts.{ByName}
use Rattle.sn_io.specs.Inputs.{stated_file}
use Rattle.sn_pcap.proofs.ReportedLemmas.{still_unknown, not_err}
use Rattle.sn_pcap.proofs.HeadLemmas.{front_more}
use Rattle.sn_pcap.proofs.front.read_front.Goals as goal

pub reading-preserved : goal.reading-preserved
reading-preserved g c =
    let I = g.I.Inputs in
    let name = c.args.name.now in
    let first = c.args.files.now in
    let before = c.reading.files in
    let same : stated_file (I.reported before) name ≡ stated_file (I.reported first) name = ap (λ (t : Option (ByName (List ℕ))). stated_file t name) c.reading.invariant.reported in
    let apart : get (I.faults first) name ≡ None → ⊥ = λ none. not_err (c.in-Ok.ensures.missing.1 (still_unknown name (I.faults first) (I.faults before) c.reading.invariant.faults none)) in
    record {
      within = omega (arith, c.in-Ok.ensures.within);
      bytes = front_more (stated_file (I.reported first) name) (stated_file (I.reported before) name) c.reading.bytes c.read_after.new.bytes c.reading.held c.in-Ok.count same c.reading.invariant.bytes c.in-Ok.ensures.bytes;
      reported = c.read_after.ensures.reported ∙ c.reading.invariant.reported;
      faults = search rules;
      unknown = λ none. absurd (apart none);
      none = λ none. absurd (apart none);
    }
