use Rattle.std.proofs.Common.{◌≡◌, ◌++◌, drop}
use Rattle.sn_prices_text.specs.PricesPrinting.{limits_text}
use Rattle.sn_prices_text.proofs.canonical.put_limits.Given as goal

abbrev pub invariant-loop-limit : goal.invariant-loop-limit
invariant-loop-limit l = l.out.items ++ limits_text (drop l.limit-index l.limits) ≡ l.fn.out.items ++ limits_text l.limits
