use Rattle.std.proofs.Common.{subst}
use Rattle.sn_types.specs.declared.typed_op.TOp.{TOp}
use Rattle.sn_ops.specs.Flow.{Fits}
use Rattle.sn_engine.proofs.value.taken.Goals as goal

pub map-requires-clause-reads : goal.map-requires-clause-reads
map-requires-clause-reads g c = rw c.as_slice-in-Map.ensures (subst (λ (op : TOp). Fits op c.args.rows.now) c.in-Map.is c.requires.rows).reads
