-- What the limits of an accepted text keep.
use Rattle.std.proofs.Common.{◌≤◌, List, length}
use Rattle.sn_text_rules.specs.declared.Flaw.TheVariants.{Expected}
use Rattle.sn_text_rules.specs.Rules.{kept}
use Rattle.sn_text_rules.proofs.Items.{many_count}
use Rattle.sn_prices_grammar.specs.declared.prices.Limit.{Limit}
use Rattle.sn_prices_grammar.specs.declared.prices.Shown.{Shown}
use Rattle.sn_prices_grammar.specs.PricesGrammar.{limit_rule, limits_rule, shown_rule}

few_limits : (ls : List Limit) → limits_rule.fits kept ls → length ls ≤ 64
unfolding limits_rule
few_limits ls f = many_count 64 Expected (λ seen. limit_rule) ls f

pub few_shown : (x : Shown) → shown_rule.fits kept x → length x.prices.limits ≤ 64
unfolding shown_rule
few_shown x f = few_limits x.prices.limits f.1.1.1.1.0
