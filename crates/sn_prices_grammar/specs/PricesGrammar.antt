-- to be believed
-- The grammar of the text of prices, production by production. The production stands above each rule.
use Rattle.std.specs.Prelude.{ℕ, List, Option, max, ◌⊎◌, codes}
use Rattle.std.proofs.Common.{inl, inr}
use Rattle.sn_text_rules.specs.declared.Flaw.TheVariants.{Expected}
use Rattle.sn_text_rules.specs.declared.symbols.TheConstants.{SEMICOLON, COMMA}
use Rattle.sn_text_rules.specs.Rules.{Rule, anything, pair, pair_on, renamed, maybe, either, many}
use Rattle.sn_text_rules.specs.Words.{is_word, keyword, sign, the_end, number_in, any_number, full, ◌▸◌, ◌◂◌}
use Rattle.sn_prices_grammar.specs.declared.prices.Mix.{Mix}
use Rattle.sn_prices_grammar.specs.declared.prices.StageLimit.{StageLimit}
use Rattle.sn_prices_grammar.specs.declared.prices.MetaLimit.{MetaLimit}
use Rattle.sn_prices_grammar.specs.declared.prices.Limit.{Limit}
use Rattle.sn_prices_grammar.specs.declared.prices.Limit.TheVariants.{Stages, Meta}
use Rattle.sn_prices_grammar.specs.declared.prices.Shown.{Shown}

-- ---- numbers

-- the greatest number of prices: of 32 bits
abbrev pub most : ℕ
most = 4294967295

-- a number of 32 bits that may be 0
abbrev pub count_rule : Rule ℕ
count_rule = number_in 0 most

-- a number of 32 bits that isn't 0
abbrev pub some_rule : Rule ℕ
some_rule = number_in 1 most

-- a number of 64 bits before its sign
abbrev pub total_rule : Rule ℕ
total_rule = any_number ◂ sign SEMICOLON

-- ---- limits

abbrev pub to_mix : ℕ × ℕ → Mix
to_mix x = record { times = x.0; plus = x.1 }

abbrev pub from_mix : Mix → ℕ × ℕ
from_mix m = (m.times, m.plus)

-- mix = "bits" NUM "plus" NUM
unfoldable pub mix_rule : Rule Mix
mix_rule = renamed to_mix from_mix (keyword (codes "bits") ▸ pair count_rule (keyword (codes "plus") ▸ count_rule))

-- [ mix ]
unfoldable pub maybe_mix_rule : Rule (Option Mix)
maybe_mix_rule = maybe (is_word (codes "bits")) mix_rule

-- the last stage is one from the first on, and stages end at 31
abbrev pub last_rule : ℕ → Rule ℕ
last_rule first = sign COMMA ▸ number_in first (max first 31)

-- NUM "," NUM
unfoldable pub span_rule : Rule (ℕ × ℕ)
span_rule = pair_on (number_in 0 31) last_rule anything

-- "divisor" NUM "price" NUM ";"
unfoldable pub worth_rule : Rule (ℕ × ℕ)
worth_rule = keyword (codes "divisor") ▸ pair some_rule (keyword (codes "price") ▸ (count_rule ◂ sign SEMICOLON))

abbrev pub to_stages : (ℕ × ℕ) × (Option Mix × (ℕ × ℕ)) → StageLimit
to_stages x = record { first = x.0.0; last = x.0.1; mix = x.1.0; divisor = x.1.1.0; price = x.1.1.1 }

abbrev pub from_stages : StageLimit → (ℕ × ℕ) × (Option Mix × (ℕ × ℕ))
from_stages l = ((l.first, l.last), (l.mix, (l.divisor, l.price)))

-- "stages" NUM "," NUM [ mix ] "divisor" NUM "price" NUM ";"
unfoldable pub stages_rule : Rule StageLimit
stages_rule = renamed to_stages from_stages (keyword (codes "stages") ▸ pair span_rule (pair maybe_mix_rule worth_rule))

abbrev pub to_meta : ℕ × ℕ → MetaLimit
to_meta x = record { divisor = x.0; price = x.1 }

abbrev pub from_meta : MetaLimit → ℕ × ℕ
from_meta l = (l.divisor, l.price)

-- "meta" "divisor" NUM "price" NUM ";"
unfoldable pub meta_rule : Rule MetaLimit
meta_rule = renamed to_meta from_meta (keyword (codes "meta") ▸ worth_rule)

abbrev pub to_limit : StageLimit ⊎ MetaLimit → Limit
to_limit (inl l) = Stages l
to_limit (inr l) = Meta l

abbrev pub from_limit : Limit → StageLimit ⊎ MetaLimit
from_limit (Stages l) = inl l
from_limit (Meta l) = inr l

-- "stages" .. | "meta" ..
unfoldable pub kind_rule : Rule Limit
kind_rule = renamed to_limit from_limit (either (is_word (codes "stages")) stages_rule meta_rule)

-- limit = "limit" ( "stages" .. | "meta" .. )
unfoldable pub limit_rule : Rule Limit
limit_rule = keyword (codes "limit") ▸ kind_rule

-- { limit }, 64 at most
unfoldable pub limits_rule : Rule (List Limit)
limits_rule = many (is_word (codes "limit")) (full 64 Expected) (λ seen. limit_rule)

-- ---- the text

abbrev pub to_shown : ℕ × (ℕ × (List Limit × ℕ)) → Shown
to_shown x = record { cost = x.0; prices = record { scale = x.1.0; limits = x.1.1.0 }; least = x.1.1.1 }

abbrev pub from_shown : Shown → ℕ × (ℕ × (List Limit × ℕ))
from_shown x = (x.cost, (x.prices.scale, (x.prices.limits, x.least)))

-- "least" NUM ";" "done", and nothing after it
unfoldable pub least_rule : Rule ℕ
least_rule = keyword (codes "least") ▸ ((total_rule ◂ keyword (codes "done")) ◂ the_end)

-- text = "cost" NUM ";" "prices" NUM ";" { limit } "least" NUM ";" "done", and nothing after it
unfoldable pub shown_rule : Rule Shown
shown_rule = renamed to_shown from_shown (keyword (codes "cost") ▸ pair total_rule
    (keyword (codes "prices") ▸ pair (some_rule ◂ sign SEMICOLON) (pair limits_rule least_rule)))
