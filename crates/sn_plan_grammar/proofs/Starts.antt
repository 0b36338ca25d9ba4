-- Tokens of the plan text that are read without a fault begin an accepted one.
use Rattle.std.proofs.Common.{ℕ, ◌≤◌, true, refl, ap, arith}
use Rattle.std.specs.Prelude.{codes}
use Rattle.sn_text_rules.specs.Tokens.{word}
use Rattle.sn_text_rules.specs.Words.{is_word, is_symbol, word_in}
use Rattle.sn_text_rules.proofs.Choices.{maybe_good}
use Rattle.sn_text_rules.proofs.Starts.{Able, Starting, starting, pair_able, embedded_able, renamed_able, maybe_able, sign_able, leaf_able, number_in_able, before_able, after_word_able, after_sign_able, kept_steps, many_able, series_able}
use Rattle.sn_text_rules.proofs.Words.{number_in_good, before_sign}
use Rattle.sn_plan_grammar.specs.Grammar.{name_test, name, numbers, to_sizes, from_sizes, both_rule, sizes_rule, to_piece, from_piece, piece_rule, to_entry, from_entry, pieces_rule, entry_rule, to_plan, from_plan, entries_rule, plan_rule, end_face, end_in, any_end, file_rule}
use Rattle.sn_plan_grammar.proofs.Goods.{name_good, numbers_alike, numbers_good, numbers_end, both_good, sizes_undone, both_starts, sizes_good, pieces_alike, entry_good, entries_alike, plan_good}

name_able : Able name
name_able = leaf_able word word_in name_test (codes "a") refl

numbers_able : (limit low high : ℕ) → low ≤ high → Able (numbers limit low high)
unfolding numbers
numbers_able limit low high le =
    let number = number_in_able low high le in
    series_able (numbers_alike limit low high le) (λ seen e. kept_steps (after_sign_able 3 number).keeps) (number_in_good low high le) number

-- ---- pieces

both_able : Able both_rule
unfolding both_rule
both_able = after_word_able (codes "slots") (pair_able (numbers_good 2 1 65536 (omega arith)) (numbers_able 2 1 65536 (omega arith)) (after_word_able (codes "stages") (numbers_able 8 0 31 (omega arith))))

sizes_able : Able sizes_rule
unfolding sizes_rule
sizes_able = embedded_able to_sizes from_sizes sizes_undone (maybe_good (is_word (codes "slots")) both_good (record { heads = λ a f. both_starts a })) (maybe_able (is_word (codes "slots")) both_able.keeps)

piece_able : Able piece_rule
unfolding piece_rule
piece_able =
    let a = pair_able (number_in_good 0 12 (omega arith)) (number_in_able 0 12 (omega arith)) (before_able sizes_good sizes_able (sign_able 2)) in
    let b = pair_able (number_in_good 0 1 (omega arith)) (number_in_able 0 1 (omega arith)) (after_word_able (codes "cut") a) in
    let d = pair_able (number_in_good 0 128 (omega arith)) (number_in_able 0 128 (omega arith)) b in
    renamed_able to_piece from_piece (λ a. refl) (after_word_able (codes "piece") d)

-- ---- entries

pieces_able : Able pieces_rule
unfolding pieces_rule
pieces_able = many_able pieces_alike (λ seen e. kept_steps piece_able.keeps)

entry_able : Able entry_rule
unfolding entry_rule
entry_able =
    let levels = numbers_good 4 0 128 (omega arith) in
    let path = before_sign 2 levels (λ t us e. numbers_end 4 0 128 t us (ap (is_symbol 3) e)) in
    let a = pair_able path (before_able levels (numbers_able 4 0 128 (omega arith)) (sign_able 2)) pieces_able in
    renamed_able to_entry from_entry (λ a. refl) (after_word_able (codes "query") (pair_able name_good name_able (after_word_able (codes "path") a)))

entries_able : Able entries_rule
unfolding entries_rule
entries_able = series_able entries_alike (λ seen e. kept_steps entry_able.keeps) entry_good entry_able

plan_able : Able plan_rule
unfolding plan_rule
plan_able = renamed_able to_plan from_plan (λ a. refl) (after_word_able (codes "plan") entries_able)

-- ---- the text

file_able : Able file_rule
unfolding file_rule
file_able = pair_able plan_good plan_able (leaf_able end_face end_in any_end true refl)

pub file_starts : Starting file_rule
file_starts = starting file_able
