use Rattle.std.proofs.Common.{ℕ, List, ap, ◌∙◌}
use Rattle.sn_io.specs.MemInputs.{FileState, has_name}
use Rattle.sn_io.proofs.Updates.{set_first}
use Rattle.sn_io.proofs.mem_inputs.set_bytes_at.Goals as goal

abbrev change : List ℕ → FileState → FileState
change bytes f = record f { bytes = bytes }

pub returns : goal.returns
returns c = set_first (has_name c.args.name.now) (change c.args.bytes) c.args.files.now.items c.args.place c.index_mut.result.now c.set_bytes.new.self c.requires (c.set_bytes.ensures ∙ ap (change c.args.bytes) c.index_mut.ensures.value)
