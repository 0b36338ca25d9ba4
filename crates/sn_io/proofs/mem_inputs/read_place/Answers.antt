use Rattle.std.proofs.Common.{◌≡◌, ℕ, ◌-◌, List, Some, length, min, ap, sym, ◌∙◌}
use Rattle.std.specs.FinMap.{get}
use Rattle.sn_io.specs.Inputs.{Reads}
use Rattle.sn_io.specs.MemInputs.{FileState, held_by}
use Rattle.sn_io.proofs.FileLemmas.{held_first, if_some}
use Rattle.sn_io.proofs.mem_inputs.read_place.Goals as goal

pub returns-clause-count : goal.returns-clause-count
returns-clause-count c =
    let f = c.index-files-place.result in
    let held : get (held_by c.args.files.now) c.args.name.now ≡ Some f.bytes =
    held_first c.args.name.now c.args.files.now c.args.place f c.requires ∙ ap (λ (g : FileState). Some g.bytes) (sym c.index-files-place.is) in
    if_some (λ (file : List ℕ). c.read.result ≡ min (length c.args.into.now) (length file - c.args.at)) (get (held_by c.args.files.now) c.args.name.now) f.bytes held c.read.ensures.count

pub returns-clause-reads : goal.returns-clause-reads
returns-clause-reads c =
    let f = c.index-files-place.result in
    let held : get (held_by c.args.files.now) c.args.name.now ≡ Some f.bytes =
    held_first c.args.name.now c.args.files.now c.args.place f c.requires ∙ ap (λ (g : FileState). Some g.bytes) (sym c.index-files-place.is) in
    if_some (λ (file : List ℕ). Reads file c.args.at c.read.result c.args.into.now c.read.new.into) (get (held_by c.args.files.now) c.args.name.now) f.bytes held c.read.ensures.reads
