-- The rules of the text of prices keep the laws.
use Rattle.std.proofs.Common.{◌≡◌, ℕ, true, List, [], ◌∷◌, max, Option, Some, None, refl, ap, subst, arith, inl, inr, ◌⊎◌}
use Rattle.std.specs.Prelude.{codes, not}
use Rattle.sn_text_rules.specs.declared.Flaw.TheVariants.{Expected}
use Rattle.sn_text_rules.specs.Tokens.{Lexeme, Tok, Mark, Spelled}
use Rattle.sn_text_rules.specs.Rules.{kept, aside}
use Rattle.sn_text_rules.specs.Words.{is_word, keyword, sign, the_end, any_number, full, ◌◂◌}
use Rattle.sn_text_rules.proofs.Common.{Heads, bearers, bearers_spelled, both_made}
use Rattle.sn_text_rules.proofs.Laws.{Good, pair_on_good, free_pair, freely, headed_pair}
use Rattle.sn_text_rules.proofs.Choices.{renamed_good, maybe_good, either_good}
use Rattle.sn_text_rules.proofs.Series.{Alike, many_good}
use Rattle.sn_text_rules.proofs.Words.{keyword_good, end_good, number_in_good, word_mark, same_self, before_sign, before_good, after_word, after_sign}
use Rattle.sn_text_rules.proofs.Lists.{always_alike}
use Rattle.sn_prices_grammar.specs.declared.prices.Mix.{Mix}
use Rattle.sn_prices_grammar.specs.declared.prices.StageLimit.{StageLimit}
use Rattle.sn_prices_grammar.specs.declared.prices.MetaLimit.{MetaLimit}
use Rattle.sn_prices_grammar.specs.declared.prices.Limit.{Limit}
use Rattle.sn_prices_grammar.specs.declared.prices.Limit.TheVariants.{Stages, Meta}
use Rattle.sn_prices_grammar.specs.declared.prices.Shown.{Shown}
use Rattle.sn_prices_grammar.specs.PricesGrammar.{most, count_rule, some_rule, total_rule, to_mix, from_mix, mix_rule, maybe_mix_rule, last_rule, span_rule, worth_rule, to_stages, from_stages, stages_rule, to_meta, from_meta, meta_rule, to_limit, from_limit, kind_rule, limit_rule, limits_rule, to_shown, from_shown, least_rule, shown_rule}

-- ---- numbers

pub count_good : Good count_rule
count_good = number_in_good 0 most (omega arith)

pub some_good : Good some_rule
some_good = number_in_good 1 most (omega arith)

pub any_good : Good any_number
any_good = number_in_good 0 18446744073709551615 (omega arith)

pub total_good : Good total_rule
total_good = before_sign 2 any_good (λ t us e. refl)

-- ---- limits

pub mix_good : Good mix_rule
unfolding mix_rule
mix_good = renamed_good to_mix from_mix (λ a. refl) (λ b. refl) (after_word (codes "bits") (free_pair count_good (after_word (codes "plus") count_good) (λ us. refl)))

pub mix_heads : (a : Mix) → Heads (is_word (codes "bits")) (mix_rule.spell a)
unfolding mix_rule
mix_heads a = same_self (codes "bits")

mix_free : (us : List Tok) → mix_rule.follow us ≡ true
unfolding mix_rule
mix_free us = refl

pub maybe_mix_good : Good maybe_mix_rule
unfolding maybe_mix_rule
maybe_mix_good = maybe_good (is_word (codes "bits")) mix_good (record { heads = λ a f. mix_heads a })

maybe_mix_end : (t : Tok) (us : List Tok) → is_word (codes "divisor") t.face ≡ true → maybe_mix_rule.follow (t ∷ us) ≡ true
unfolding maybe_mix_rule
maybe_mix_end t us e =
    both_made (not (is_word (codes "bits") t.face)) (mix_rule.follow (t ∷ us)) (ap (λ (x : Lexeme). not (is_word (codes "bits") x)) ((word_mark (codes "divisor")).only t.face e)) (mix_free (t ∷ us))

last_good : (first : ℕ) → Good (last_rule first)
last_good first = after_sign 3 (number_in_good first (max first 31) (omega arith))

pub span_good : Good span_rule
unfolding span_rule
span_good = pair_on_good (number_in_good 0 31 (omega arith)) last_good (record {
  meets = λ a front us b f s e. refl;
  ends = λ a us e. refl;
  steady = λ a c b e. (refl, λ f. subst (λ (k : ℕ). (last_rule k).fits kept b) e f, refl);
})

span_free : (us : List Tok) → span_rule.follow us ≡ true
unfolding span_rule
span_free us = refl

pub worth_good : Good worth_rule
unfolding worth_rule
worth_good = after_word (codes "divisor") (free_pair some_good (after_word (codes "price") (before_sign 2 count_good (λ t us e. refl))) (λ us. refl))

worth_heads : (a : ℕ × ℕ) → Heads (is_word (codes "divisor")) (worth_rule.spell a)
unfolding worth_rule
worth_heads a = same_self (codes "divisor")

worth_free : (us : List Tok) → worth_rule.follow us ≡ true
unfolding worth_rule
worth_free us = refl

pub stages_good : Good stages_rule
unfolding stages_rule
stages_good = renamed_good to_stages from_stages (λ a. refl) (λ b. refl) (after_word (codes "stages")
    (free_pair span_good (headed_pair (is_word (codes "divisor")) maybe_mix_good worth_good (λ b f. worth_heads b) maybe_mix_end) span_free))

stages_heads : (a : StageLimit) → Heads (is_word (codes "stages")) (stages_rule.spell a)
unfolding stages_rule
stages_heads a = same_self (codes "stages")

stages_free : (us : List Tok) → stages_rule.follow us ≡ true
unfolding stages_rule
stages_free us = worth_free us

pub meta_good : Good meta_rule
unfolding meta_rule
meta_good = renamed_good to_meta from_meta (λ a. refl) (λ b. refl) (after_word (codes "meta") worth_good)

meta_heads : (a : MetaLimit) → Heads (λ x. not (is_word (codes "stages") x)) (meta_rule.spell a)
unfolding meta_rule
meta_heads a = refl

meta_free : (us : List Tok) → meta_rule.follow us ≡ true
unfolding meta_rule
meta_free us = worth_free us

pub limit_back : (a : StageLimit ⊎ MetaLimit) → from_limit (to_limit a) ≡ a
limit_back (inl l) = refl
limit_back (inr l) = refl

limit_forth : (b : Limit) → to_limit (from_limit b) ≡ b
limit_forth (Stages l) = refl
limit_forth (Meta l) = refl

pub kind_good : Good kind_rule
unfolding kind_rule
kind_good = renamed_good to_limit from_limit limit_back limit_forth
    (either_good (is_word (codes "stages")) stages_good meta_good (record { heads = λ a f. stages_heads a }) (record { heads = λ a f. meta_heads a }))

kind_free : (us : List Tok) → kind_rule.follow us ≡ true
unfolding kind_rule
kind_free us = both_made (stages_rule.follow us) (meta_rule.follow us) (stages_free us) (meta_free us)

pub limit_good : Good limit_rule
unfolding limit_rule
limit_good = after_word (codes "limit") kind_good

limit_free : (us : List Tok) → limit_rule.follow us ≡ true
unfolding limit_rule
limit_free us = kind_free us

limit_heads : (a : Limit) → Heads (is_word (codes "limit")) (limit_rule.spell a)
unfolding limit_rule
limit_heads a = same_self (codes "limit")

tail_of : List Mark → List Mark
tail_of [] = []
tail_of (m ∷ ms) = ms

limit_opens : (t : Tok) → is_word (codes "limit") t.face ≡ true → (a : Limit) × (more : List Tok) × limit_rule.fits aside a × Spelled (t ∷ more) (limit_rule.spell a)
unfolding limit_rule tail_of
limit_opens t e =
    let a = limit_good.some in
    (a.0, bearers (tail_of (limit_rule.spell a.0)), a.1, (((word_mark (codes "limit")).only t.face e, tt), bearers_spelled (tail_of (limit_rule.spell a.0))))

pub limits_alike : Alike (is_word (codes "limit")) (full 64 Expected) (λ (seen : List Limit). limit_rule)
limits_alike = always_alike (is_word (codes "limit")) 64 Expected limit_good (λ t us e. limit_free (t ∷ us)) (λ a f. limit_heads a) limit_opens

pub limits_good : Good limits_rule
unfolding limits_rule
limits_good = many_good limits_alike

limits_end : (t : Tok) (us : List Tok) → is_word (codes "least") t.face ≡ true → limits_rule.follow (t ∷ us) ≡ true
unfolding limits_rule
limits_end t us e =
    both_made (not (is_word (codes "limit") t.face)) (limit_rule.follow (t ∷ us)) (ap (λ (x : Lexeme). not (is_word (codes "limit") x)) ((word_mark (codes "least")).only t.face e)) (limit_free (t ∷ us))

-- ---- the text

pub done_good : Good (total_rule ◂ keyword (codes "done"))
done_good = before_good total_good (keyword_good (codes "done")) (freely total_rule (keyword (codes "done")) (λ us. refl))

pub least_good : Good least_rule
unfolding least_rule
least_good = after_word (codes "least") (before_good done_good end_good (freely (total_rule ◂ keyword (codes "done")) the_end (λ us. refl)))

least_heads : (a : ℕ) → Heads (is_word (codes "least")) (least_rule.spell a)
unfolding least_rule
least_heads a = same_self (codes "least")

pub scale_good : Good (some_rule ◂ sign 2)
scale_good = before_sign 2 some_good (λ t us e. refl)

pub shown_good : Good shown_rule
unfolding shown_rule
shown_good = renamed_good to_shown from_shown (λ a. refl) (λ b. refl) (after_word (codes "cost") (free_pair total_good
    (after_word (codes "prices") (free_pair scale_good (headed_pair (is_word (codes "least")) limits_good least_good (λ b f. least_heads b) limits_end) (λ us. refl))) (λ us. refl)))

pub ends : shown_rule.follow [] ≡ true
unfolding shown_rule least_rule
ends = refl

-- ---- values hold no lines

maybe_mix_bare : (a : Option Mix) → maybe_mix_rule.bare a ≡ a
unfolding maybe_mix_rule mix_rule
maybe_mix_bare None = refl
maybe_mix_bare (Some m) = refl

limit_bare : (a : Limit) → limit_rule.bare a ≡ a
unfolding limit_rule kind_rule stages_rule meta_rule span_rule worth_rule
limit_bare (Stages l) = ap (λ (m : Option Mix). Stages (record { first = l.first; last = l.last; mix = m; divisor = l.divisor; price = l.price })) (maybe_mix_bare l.mix)
limit_bare (Meta l) = refl

limits_bare : (ls : List Limit) → limits_rule.bare ls ≡ ls
unfolding limits_rule
limits_bare [] = refl
limits_bare (l ∷ ls) = let a = limit_bare l in let b = limits_bare ls in rw (a, b) refl

pub shown_bare : (x : Shown) → shown_rule.bare x ≡ x
unfolding shown_rule least_rule
shown_bare x = ap (λ (ls : List Limit). to_shown (x.cost, (x.prices.scale, (ls, x.least)))) (limits_bare x.prices.limits)
