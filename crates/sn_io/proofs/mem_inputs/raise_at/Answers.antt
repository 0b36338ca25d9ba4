use Rattle.std.proofs.Common.{ap, ◌∙◌}
use Rattle.sn_io.specs.Known.{counted}
use Rattle.sn_io.specs.MemInputs.{FileState, has_name}
use Rattle.sn_io.proofs.Updates.{set_first}
use Rattle.sn_io.proofs.mem_inputs.raise_at.Goals as goal

abbrev change : FileState → FileState
change f = record f { count = counted f.count }

pub returns : goal.returns
returns c = set_first (has_name c.args.name.now) change c.args.files.now.items c.args.place c.index_mut.result.now c.raise.new.self c.requires (c.raise.ensures ∙ ap change c.index_mut.ensures.value)
