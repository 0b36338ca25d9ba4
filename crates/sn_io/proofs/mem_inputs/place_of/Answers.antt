use Rattle.std.proofs.Common.{is_some, ap, ◌∙◌}
use Rattle.sn_io.proofs.FileLemmas.{place_held}
use Rattle.sn_io.proofs.mem_inputs.place_of.Goals as goal

pub returns-clause-known : goal.returns-clause-known
returns-clause-known c = ap is_some c.first_place.ensures ∙ place_held c.args.name.now c.args.files.now
