use Rattle.std.proofs.Common.{◌≡◌, ℕ, List, ◌&&◌, take}
use Rattle.std.specs.List.{list_all}
use Rattle.sn_lanes_narrow.specs.Marks.{asks_all}
use Rattle.sn_types.specs.Typed.{packet_row}
use Rattle.sn_types.specs.Values.{holds}
use Rattle.sn_ops_stream.proofs.front.add_filter.Given as goal

abbrev pub invariant-loop-cond : goal.invariant-loop-cond
invariant-loop-cond l = record {
  kept : take l.before l.conditions.items ≡ l.initial.conditions.items;
  all : (tuple : List ℕ) → asks_all l.conditions.items tuple
      ≡ (asks_all l.initial.conditions.items tuple && list_all (λ c. holds l.packets.level c (packet_row l.packets.refined l.packets.level l.packets.fields.now tuple)) (take l.cond-index l.conds));
}
