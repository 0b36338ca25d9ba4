use Rattle.std.proofs.Common.{length, arith, ap}
use Rattle.sn_types.specs.declared.typed_query.TypedQuery.{TypedQuery}
use Rattle.sn_types.proofs.Facts.{few_branches}
use Rattle.sn_types.proofs.typed.Typed.branches.Goals as goal

pub overflow_cast-result : goal.overflow_cast-result
overflow_cast-result c = omega (arith, few_branches c.args.self.now.window_us c.args.self.now.queries c.args.q c.args.self.now.typed c.requires, ap length c.as_slice.ensures, ap (λ (x : TypedQuery). length x.branches) c.query.ensures)
