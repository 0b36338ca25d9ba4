use Rattle.std.proofs.Common.{◌≡◌, ◌+◌, None, Option, List, ℕ, ap, ◌∙◌, rules}
use Rattle.std.specs.FinMap.{get}
use Rattle.sn_io.specs.Inputs.{stated_file}
use Rattle.sn_io.specs.Counts.{ByName}
use Rattle.sn_pcap.proofs.ReportedLemmas.{kept_more, reported_more, still_unknown, not_err}
use Rattle.sn_pcap.proofs.reader.fill.Goals as goal

pub filling-preserved : goal.filling-preserved
filling-preserved g c =
    let I = g.I.Inputs in
    let name = c.args.name.now in
    let first = c.args.files.now in
    let before = c.filling.files in
    let same : stated_file (I.reported before) name ≡ stated_file (I.reported first) name = ap (λ (t : Option (ByName (List ℕ))). stated_file t name) c.filling.invariant.reported in
    let apart : get (I.faults first) name ≡ None → ⊥ = λ none. not_err (c.in-Ok.ensures.missing.1 (still_unknown name (I.faults first) (I.faults before) c.filling.invariant.faults none)) in
    record {
      kept = kept_more c.args.buffer.now c.filling.buffer c.read.new.self c.filling.invariant.kept c.read.ensures.kept;
      holds = reported_more (stated_file (I.reported first) name) (stated_file (I.reported before) name) c.args.buffer.now c.filling.buffer c.read.new.self c.args.offset _ c.in-Ok.field-0
          same (ap (λ (n : ℕ). c.args.offset + n) c.len-held.ensures.len) c.filling.invariant.holds c.in-Ok.ensures.bytes c.in-Ok.ensures.stand;
      reported = c.read.ensures.reported ∙ c.filling.invariant.reported;
      faults = search rules;
      unknown = λ none. absurd (apart none);
      same = λ none. absurd (apart none);
    }
