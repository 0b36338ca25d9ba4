-- What is reported as it is has no fault.
use Rattle.std.proofs.Common.{◌≡◌, ℕ, true, List, Ok, refl, sym, ap, ◌∙◌, arith}
use Rattle.std.specs.Prelude.{◌==◌}
use Rattle.std.proofs.lemmas.Bool.{le-ltb}
use Rattle.std.proofs.lemmas.Bool.Decides.{nat_tests}
use Rattle.sn_plan_grammar.specs.declared.plan.Plan.{Plan}
use Rattle.sn_prices_grammar.specs.declared.prices.Shown.{Shown}
use Rattle.sn_switch.specs.declared.switch.Switch.{Switch}
use Rattle.sn_types.specs.declared.typed_query.TypedQuery.{TypedQuery}
use Rattle.sn_windows.specs.Rising.{Window}
use Rattle.sn_command_prices.specs.Priced.{PricedFor, price_verdict, priced_cost, priced_least}

pub equal_is : (n : ℕ) → (n == n) ≡ true
equal_is n = grind (arith, nat_tests)

reported_as_is : (cost least : ℕ) → Ok tt ≡ price_verdict cost least cost least
reported_as_is cost least = rw (equal_is cost, le-ltb least least (omega arith)) refl

pub priced_as_is : (s : Switch) (queries : List TypedQuery) (given : List Window) (plan : Plan) (x : Shown) → x.cost ≡ priced_cost s queries given plan → x.least ≡ priced_least s queries given x.prices
    → PricedFor s queries given plan x (Ok tt)
priced_as_is s queries given plan x e f =
    reported_as_is (priced_cost s queries given plan) (priced_least s queries given x.prices)
    ∙ ap (λ (n : ℕ). price_verdict (priced_cost s queries given plan) (priced_least s queries given x.prices) n (priced_least s queries given x.prices)) (sym e)
    ∙ ap (λ (n : ℕ). price_verdict (priced_cost s queries given plan) (priced_least s queries given x.prices) x.cost n) (sym f)
