use Rattle.std.proofs.Common.{ℕ, ap, arith}
use Rattle.sn_io.specs.Inputs.{stated_file}
use Rattle.sn_command_training.specs.Taking.{IsTaken}
use Rattle.sn_command_training.proofs.ReadLemmas.{all_taken}
use Rattle.sn_command_training.proofs.read.take_file.Goals as goal

pub returns-in-Ok-eq0-clause-taken : goal.returns-in-Ok-eq0-clause-taken
returns-in-Ok-eq0-clause-taken g c =
    let I = g.I.Inputs in
    all_taken (stated_file (I.reported c.args.files.now) c.args.name.now) (stated_file (I.reported c.reading.files) c.args.name.now)
    (λ file place. (window : ℕ) → IsTaken window file 0 c.args.taking.now → IsTaken window file place c.reading.taking) c.reading.place c.in-Ok-eq0.field-0 c.reading.piece _
    (ap (λ reported. stated_file reported c.args.name.now) c.reading.invariant.reported) (let t = c.in-Ok-eq0.field-0-test in grind (arith, t)) (λ z. grind (arith, z)) c.reading.invariant.taken c.in-Ok-eq0.ensures.bytes
