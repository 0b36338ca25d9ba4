use Rattle.std.proofs.Common.{◌≡◌, ◌+◌, ◌*◌, ◌^◌, ◌≤◌, drop}
use Rattle.std.specs.List.{sum_by}
use Rattle.sn_prices.specs.Limits.{meta_price}
use Rattle.sn_prices_bound.proofs.pays.metas_price.Given as goal

abbrev pub invariant-loop-limit : goal.invariant-loop-limit
invariant-loop-limit l = record {
  value : l.total + sum_by (meta_price l.bits) (drop l.limit-index l.limits) ≡ sum_by (meta_price l.bits) l.limits;
  most : l.total ≤ l.limit-index * 2 ^ 97;
}
