-- to be believed
-- Prices that a text can tell.
use Rattle.std.specs.Prelude.{◌≤◌, length}
use Rattle.std.specs.List.{All}
use Rattle.sn_prices_grammar.specs.declared.prices.Limit.{Limit}
use Rattle.sn_prices_grammar.specs.declared.prices.Limit.TheVariants.{Stages, Meta}
use Rattle.sn_prices_grammar.specs.declared.prices.Prices.{Prices}

-- The stages of a limit are some of 32, and what is divided is divided by something.
abbrev pub IsWritable : Limit → Type 0
IsWritable (Stages l) = (l.first ≤ l.last) × (l.last ≤ 31) × (1 ≤ l.divisor)
IsWritable (Meta l) = 1 ≤ l.divisor

-- at least one part makes an item, and a text holds at most 64 limits
pub record AreWritable (p : Prices) : Type 0 where
  pub scale : 1 ≤ p.scale
  pub few : length p.limits ≤ 64
  pub limits : All IsWritable p.limits
