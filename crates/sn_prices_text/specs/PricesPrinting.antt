-- to be believed
-- The canonical text of a cost, prices and what they show.
use Rattle.std.specs.Prelude.{ℕ, List, [], ◌∷◌, ◌++◌, Option, Some, None, codes}
use Rattle.std.specs.Fmt.{decimal}
use Rattle.sn_prices_grammar.specs.declared.prices.Mix.{Mix}
use Rattle.sn_prices_grammar.specs.declared.prices.Limit.{Limit}
use Rattle.sn_prices_grammar.specs.declared.prices.Limit.TheVariants.{Stages, Meta}
use Rattle.sn_prices_grammar.specs.declared.prices.Shown.{Shown}

-- a mix, where there is one
abbrev pub mix_text : Option Mix → List ℕ
mix_text None = []
mix_text (Some m) = codes " bits " ++ decimal m.times ++ codes " plus " ++ decimal m.plus

-- a divisor and a price, to the end of the line
abbrev pub worth_text : ℕ → ℕ → List ℕ
worth_text divisor price = codes " divisor " ++ decimal divisor ++ codes " price " ++ decimal price ++ codes ";\n"

-- the first and the last stage of a limit
abbrev pub span_text : ℕ → ℕ → List ℕ
span_text first last = codes "limit stages " ++ decimal first ++ codes ", " ++ decimal last

-- the line of a limit
abbrev pub limit_text : Limit → List ℕ
limit_text (Stages l) = span_text l.first l.last ++ mix_text l.mix ++ worth_text l.divisor l.price
limit_text (Meta l) = codes "limit meta" ++ worth_text l.divisor l.price

-- a line for each limit
abbrev pub limits_text : List Limit → List ℕ
limits_text [] = []
limits_text (l ∷ ls) = limit_text l ++ limits_text ls

abbrev pub shown_text : Shown → List ℕ
shown_text x = codes "cost " ++ decimal x.cost ++ codes ";\nprices " ++ decimal x.prices.scale ++ codes ";\n" ++ limits_text x.prices.limits
    ++ codes "least " ++ decimal x.least ++ codes ";\ndone\n"
