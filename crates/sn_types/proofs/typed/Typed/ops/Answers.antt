use Rattle.std.proofs.Common.{length, arith, ap}
use Rattle.sn_types.specs.declared.typed_query.TypedBranch.{TypedBranch}
use Rattle.sn_types.proofs.Facts.{few_ops}
use Rattle.sn_types.proofs.typed.Typed.ops.Goals as goal

pub overflow_cast-result : goal.overflow_cast-result
overflow_cast-result c = omega (arith, few_ops c.args.self.now.window_us c.args.self.now.queries c.args.q c.args.b c.args.self.now.typed c.requires.query c.requires.branch, ap length c.as_slice.ensures, ap (λ (x : TypedBranch). length x.ops) c.branch-self.ensures)
