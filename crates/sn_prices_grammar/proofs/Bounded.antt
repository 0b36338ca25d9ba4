-- A text of prices is read to its end or to a fault of a token that can't stand there: it has no limit with a fault of its own.
use Rattle.std.proofs.Common.{Bool, true, false, max, refl}
use Rattle.std.specs.Prelude.{codes}
use Rattle.sn_text_rules.specs.declared.Flaw.{Flaw}
use Rattle.sn_text_rules.specs.declared.Flaw.TheVariants.{Lex, Expected}
use Rattle.sn_text_rules.specs.Rules.{anything}
use Rattle.sn_text_rules.specs.Words.{is_word}
use Rattle.sn_text_rules.proofs.Bounded.{Flaws, Bounded, Whole, full_allows, number_in_bounded, keyword_bounded, sign_bounded, pair_on_bounded, pair_bounded, pair_whole, renamed_bounded, renamed_whole, after_bounded, before_bounded, maybe_bounded, either_bounded, many_bounded, the_end_whole, after_whole, before_whole}
use Rattle.sn_prices_grammar.specs.PricesGrammar.{most, count_rule, some_rule, total_rule, to_mix, from_mix, mix_rule, maybe_mix_rule, span_rule, worth_rule, to_stages, from_stages, stages_rule, to_meta, from_meta, meta_rule, to_limit, from_limit, kind_rule, limit_rule, limits_rule, to_shown, from_shown, least_rule, shown_rule}
use Rattle.sn_prices_grammar.proofs.Goods.{limits_alike}

abbrev of_prices : Flaw → Bool
of_prices Lex = true
of_prices Expected = true
of_prices _ = false

abbrev pub flaws : Flaws
flaws = record { ok = of_prices; lex = refl; expected = refl }

count_bounded : Bounded flaws count_rule
count_bounded = number_in_bounded flaws 0 most

some_bounded : Bounded flaws some_rule
some_bounded = number_in_bounded flaws 1 most

total_bounded : Bounded flaws total_rule
total_bounded = before_bounded (number_in_bounded flaws 0 18446744073709551615) (sign_bounded flaws 2)

maybe_mix_bounded : Bounded flaws maybe_mix_rule
unfolding maybe_mix_rule mix_rule
maybe_mix_bounded = maybe_bounded (is_word (codes "bits")) (renamed_bounded to_mix from_mix
    (after_bounded (keyword_bounded flaws (codes "bits")) (pair_bounded count_bounded (after_bounded (keyword_bounded flaws (codes "plus")) count_bounded))))

span_bounded : Bounded flaws span_rule
unfolding span_rule
span_bounded = pair_on_bounded anything (number_in_bounded flaws 0 31) (λ first. after_bounded (sign_bounded flaws 3) (number_in_bounded flaws first (max first 31)))

worth_bounded : Bounded flaws worth_rule
unfolding worth_rule
worth_bounded = after_bounded (keyword_bounded flaws (codes "divisor")) (pair_bounded some_bounded
    (after_bounded (keyword_bounded flaws (codes "price")) (before_bounded count_bounded (sign_bounded flaws 2))))

kind_bounded : Bounded flaws kind_rule
unfolding kind_rule stages_rule meta_rule
kind_bounded = renamed_bounded to_limit from_limit (either_bounded (is_word (codes "stages"))
    (renamed_bounded to_stages from_stages (after_bounded (keyword_bounded flaws (codes "stages")) (pair_bounded span_bounded (pair_bounded maybe_mix_bounded worth_bounded))))
    (renamed_bounded to_meta from_meta (after_bounded (keyword_bounded flaws (codes "meta")) worth_bounded)))

limit_bounded : Bounded flaws limit_rule
unfolding limit_rule
limit_bounded = after_bounded (keyword_bounded flaws (codes "limit")) kind_bounded

limits_bounded : Bounded flaws limits_rule
unfolding limits_rule
limits_bounded = many_bounded limits_alike (full_allows flaws 64 Expected refl) (λ seen. limit_bounded)

least_whole : Whole flaws least_rule
unfolding least_rule
least_whole = after_whole (keyword_bounded flaws (codes "least")) (before_whole (before_bounded total_bounded (keyword_bounded flaws (codes "done"))) (the_end_whole flaws))

pub shown_whole : Whole flaws shown_rule
unfolding shown_rule
shown_whole = renamed_whole to_shown from_shown (after_whole (keyword_bounded flaws (codes "cost")) (pair_whole total_bounded
    (after_whole (keyword_bounded flaws (codes "prices")) (pair_whole (before_bounded some_bounded (sign_bounded flaws 2)) (pair_whole limits_bounded least_whole)))))
