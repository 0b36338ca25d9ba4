use Rattle.std.proofs.Common.{length, arith, ap}
use Rattle.sn_types.specs.declared.typed_query.TypedBranch.{TypedBranch}
use Rattle.sn_types.proofs.Facts.{few_fields}
use Rattle.sn_types.proofs.typed.Typed.packet_fields.Goals as goal

pub returns-clause-few : goal.returns-clause-few
returns-clause-few c = omega (arith, few_fields c.args.self.now.window_us c.args.self.now.queries c.args.q c.args.b c.args.self.now.typed c.requires.query c.requires.branch, ap length c.as_slice.ensures, ap (λ (x : TypedBranch). length x.fields) c.branch-self.ensures)
