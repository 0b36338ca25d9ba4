-- Tokens of the text of prices that are read without a fault begin an accepted one.
use Rattle.std.proofs.Common.{ℕ, max, refl, arith}
use Rattle.std.specs.Prelude.{codes}
use Rattle.sn_text_rules.specs.Rules.{anything}
use Rattle.sn_text_rules.specs.Words.{is_word}
use Rattle.sn_text_rules.proofs.Starts.{Able, Starting, starting, pair_on_able, pair_able, renamed_able, maybe_able, either_able, keyword_able, sign_able, end_able, number_in_able, before_able, after_word_able, after_sign_able, kept_steps, many_able}
use Rattle.sn_text_rules.proofs.Words.{number_in_good}
use Rattle.sn_prices_grammar.specs.PricesGrammar.{most, count_rule, some_rule, total_rule, to_mix, from_mix, mix_rule, maybe_mix_rule, last_rule, span_rule, worth_rule, to_stages, from_stages, stages_rule, to_meta, from_meta, meta_rule, to_limit, from_limit, kind_rule, limit_rule, limits_rule, to_shown, from_shown, least_rule, shown_rule}
use Rattle.sn_prices_grammar.proofs.Goods.{count_good, some_good, any_good, total_good, maybe_mix_good, span_good, limit_back, limits_alike, limits_good, done_good, scale_good}

count_able : Able count_rule
count_able = number_in_able 0 most (omega arith)

some_able : Able some_rule
some_able = number_in_able 1 most (omega arith)

total_able : Able total_rule
total_able = before_able any_good (number_in_able 0 18446744073709551615 (omega arith)) (sign_able 2)

mix_able : Able mix_rule
unfolding mix_rule
mix_able = renamed_able to_mix from_mix (λ a. refl) (after_word_able (codes "bits") (pair_able count_good count_able (after_word_able (codes "plus") count_able)))

maybe_mix_able : Able maybe_mix_rule
unfolding maybe_mix_rule
maybe_mix_able = maybe_able (is_word (codes "bits")) mix_able.keeps

last_able : (first : ℕ) → Able (last_rule first)
last_able first = after_sign_able 3 (number_in_able first (max first 31) (omega arith))

span_able : Able span_rule
unfolding span_rule
span_able = pair_on_able anything (number_in_good 0 31 (omega arith)) (number_in_able 0 31 (omega arith)) (λ first f. last_able first)

worth_able : Able worth_rule
unfolding worth_rule
worth_able = after_word_able (codes "divisor") (pair_able some_good some_able (after_word_able (codes "price") (before_able count_good count_able (sign_able 2))))

stages_able : Able stages_rule
unfolding stages_rule
stages_able = renamed_able to_stages from_stages (λ a. refl) (after_word_able (codes "stages") (pair_able span_good span_able (pair_able maybe_mix_good maybe_mix_able worth_able)))

meta_able : Able meta_rule
unfolding meta_rule
meta_able = renamed_able to_meta from_meta (λ a. refl) (after_word_able (codes "meta") worth_able)

kind_able : Able kind_rule
unfolding kind_rule
kind_able = renamed_able to_limit from_limit limit_back (either_able (is_word (codes "stages")) stages_able meta_able)

limit_able : Able limit_rule
unfolding limit_rule
limit_able = after_word_able (codes "limit") kind_able

limits_able : Able limits_rule
unfolding limits_rule
limits_able = many_able limits_alike (λ seen e. kept_steps limit_able.keeps)

least_able : Able least_rule
unfolding least_rule
least_able = after_word_able (codes "least") (before_able done_good (before_able total_good total_able (keyword_able (codes "done"))) end_able)

shown_able : Able shown_rule
unfolding shown_rule
shown_able =
    let scale = before_able some_good some_able (sign_able 2) in
    let shown = pair_able scale_good scale (pair_able limits_good limits_able least_able) in
    renamed_able to_shown from_shown (λ a. refl) (after_word_able (codes "cost") (pair_able total_good total_able (after_word_able (codes "prices") shown)))

pub shown_starts : Starting shown_rule
shown_starts = starting shown_able
