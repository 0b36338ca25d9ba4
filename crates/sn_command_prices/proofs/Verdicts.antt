-- The text of prices after a plan is judged in one way, and so is what they show.
use Rattle.std.proofs.Common.{◌≡◌, ℕ, List, Bool, true, false, Result, Ok, Err, refl, sym, subst, ◌∙◌, cond}
use Rattle.std.specs.Prelude.{◌==◌, nat_lt}
use Rattle.sn_command.specs.declared.fault.Fault.{Fault}
use Rattle.sn_command.specs.declared.fault.TreeKind.TheVariants as kinds
use Rattle.sn_command.specs.Runs.{Answers}
use Rattle.sn_command.specs.Stages.{HasVerdict}
use Rattle.sn_command.proofs.OneLemmas.{one_reading, read_once}
use Rattle.sn_command.proofs.StageLemmas.{MayCome}
use Rattle.sn_text.specs.Cutting.{tokens_of}
use Rattle.sn_tree_text.specs.Places.{from_byte}
use Rattle.sn_plan_grammar.specs.declared.plan.Plan.{Plan}
use Rattle.sn_prices_grammar.specs.declared.prices.Shown.{Shown}
use Rattle.sn_prices_text.specs.PricesTexts as prices
use Rattle.sn_prices_text.proofs.Readings as readings
use Rattle.sn_prices_text.specs.declared.fault.PricesFault.{PricesFault}
use Rattle.sn_prices_text.specs.declared.fault.PricesFault.TheVariants as prices_faults
use Rattle.sn_switch.specs.declared.switch.Switch.{Switch}
use Rattle.sn_types.specs.declared.typed_query.TypedQuery.{TypedQuery}
use Rattle.sn_windows.specs.Rising.{Window}
use Rattle.sn_command_prices.specs.After.{PricesAfter, prices_text_fault, prices_text_refusal}
use Rattle.sn_command_prices.specs.Priced.{PricedFor, price_flaw, priced_cost, priced_least}

-- ---- the text

pub prices_once : (text : List ℕ) (byte : ℕ) (first second : Result Shown Fault) → PricesAfter text byte first → PricesAfter text byte second → first ≡ second
prices_once text byte = read_once prices_text_fault (prices.IsRead text byte) (readings.reading_once text byte)

-- the faults of a text of prices may come where the queries and the switch were read before
pub prices_may : (A : Type 0) (fault : PricesFault) → MayCome {A = A} 0 (Err (prices_text_fault fault))
prices_may A (prices_faults.Lex line) = tt
prices_may A (prices_faults.Expected line) = tt
prices_may A prices_faults.Memory = tt

pub one_prices_after : (text : List ℕ) (byte : ℕ) → HasVerdict (PricesAfter text byte)
one_prices_after text byte =
    one_reading prices_text_fault (prices.IsRead text byte) (readings.reading_once text byte) (readings.reading_some text byte).reading (readings.reading_some text byte).is

pub prices_refused : (text : List ℕ) (byte : ℕ) (e : PricesFault) → prices.IsFault (from_byte byte (tokens_of text)) e → Answers {A = Shown} (PricesAfter text byte) (Err (prices_text_refusal e))
prices_refused text byte (prices_faults.Lex line) h = record { found = Err (prices_faults.Lex line); is = (h, λ e. cc); same = refl }
prices_refused text byte (prices_faults.Expected line) h = record { found = Err (prices_faults.Expected line); is = (h, λ e. cc); same = refl }
prices_refused text byte prices_faults.Memory h = tt

-- ---- what they show

may_least : (least reported : ℕ) (b : Bool) → MayCome {A = Unit {0}} 0 (cond b (Err (price_flaw kinds.Bound least reported)) (Ok tt))
may_least least reported true = tt
may_least least reported false = tt

may_cost : (cost reported least given : ℕ) (b : Bool) → MayCome {A = Unit {0}} 0 (cond b (cond (nat_lt least given) (Err (price_flaw kinds.Bound least given)) (Ok tt)) (Err (price_flaw kinds.Cost cost reported)))
may_cost cost reported least given true = may_least least given (nat_lt least given)
may_cost cost reported least given false = tt

module _ (s : Switch) (queries : List TypedQuery) (given : List Window) (plan : Plan) (x : Shown) where
  pub priced_once : (first second : Result (Unit {0}) Fault) → PricedFor s queries given plan x first → PricedFor s queries given plan x second → first ≡ second
  priced_once first second a b = a ∙ sym b

  -- what prices show refuses neither the queries nor the switch
  pub priced_may : (verdict : Result (Unit {0}) Fault) → PricedFor s queries given plan x verdict → MayCome 0 verdict
  priced_may verdict is =
      subst (λ (v : Result (Unit {0}) Fault). MayCome 0 v) (sym is)
      (may_cost (priced_cost s queries given plan) x.cost (priced_least s queries given x.prices) x.least (x.cost == priced_cost s queries given plan))

  pub one_priced : HasVerdict (PricedFor s queries given plan x)
  one_priced = record { verdict = _; is = refl; once = priced_once }
