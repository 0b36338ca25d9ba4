use Rattle.std.proofs.Common.{◌≡◌, ℕ, List, ap, ◌∙◌}
use Rattle.std.specs.String.{string_bytes}
use Rattle.std.proofs.Math.Seq.{map-set_same}
use Rattle.sn_io.specs.declared.known.Entry.{Entry}
use Rattle.sn_io.proofs.known.read_place.Goals as goal

abbrev shown : Entry → List ℕ × ℕ
shown e = (string_bytes e.name, e.count)

pub returns-clause-same : goal.returns-clause-same
returns-clause-same c =
    let before = c.index_mut.result.now in
    let after = c.read_at.new.self in
    let name : string_bytes after.name ≡ string_bytes before.name = ap (λ s. string_bytes s) c.read_at.ensures.name in
    let count : after.count ≡ before.count = c.read_at.ensures.count in
    let same : shown after ≡ shown before = cc in
    map-set_same shown c.args.known.now.items c.args.place after before (same ∙ ap shown c.index_mut.ensures.value)
