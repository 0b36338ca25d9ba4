use Rattle.std.proofs.Common.{◌≤◌, refl, arith}
use Rattle.sn_test_inputs.proofs.SlowLemmas.{slow_reads}
use Rattle.sn_test_inputs.proofs.slow.SlowInputs.read_at.Goals as goal

pub returns-clause-bytes : goal.returns-clause-bytes
returns-clause-bytes c =
    let most = c.min-most.result in
    let old = c.args.into.now in
    slow_reads c.read_at.result _ old _ c.read_at.new.into _ c.args.at most refl refl (omega arith) (λ zero. let some : 1 ≤ c.args.self.now.most = c.args.self.now.some in omega arith) c.read_at.ensures.within c.read_at.ensures.bytes
