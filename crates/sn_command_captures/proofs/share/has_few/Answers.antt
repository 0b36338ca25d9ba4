use Rattle.sn_command_captures.proofs.WalkLemmas.{few_bytes}
use Rattle.sn_windows.specs.NumberingOf.{numbering}
use Rattle.sn_command_captures.proofs.share.has_few.Goals as goal

pub returns-then-file-le-FEW_BYTES : goal.returns-then-file-le-FEW_BYTES
returns-then-file-le-FEW_BYTES c = few_bytes c.args.header.now c.args.file.now (numbering c.args.begun) c.requires c.if-file-le-FEW_BYTES.true
