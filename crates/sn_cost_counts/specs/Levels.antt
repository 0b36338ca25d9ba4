-- serves proofs
-- That prefixes are those of a level is a fact.
use Rattle.std.specs.Prelude.{Option, Some, None}
use Rattle.std.proofs.Math.Bool.{Bool-set}
use Rattle.sn_ops.specs.Packets.{OfALevel}
use Rattle.sn_ops.specs.declared.packets.Kept.{Kept}
use Rattle.sn_types.specs.declared.typed_query.TypedQuery.{TypedQuery}

pub level_prop : (query : TypedQuery) (kept : Option Kept) → IsProp (OfALevel query kept)
level_prop query None = hlevel Bool-set
level_prop query (Some kept) = hlevel Bool-set
