-- A plan text is read to its end or to a fault of a token that can't stand there: it has no limit with a fault of its own.
use Rattle.std.proofs.Common.{ℕ, ◌≤◌, Bool, true, false, length, Some, None, refl, arith}
use Rattle.std.specs.Prelude.{codes, nat_lt, ◌||◌, ◌==◌}
use Rattle.sn_text_rules.specs.declared.Flaw.{Flaw}
use Rattle.sn_text_rules.specs.declared.Flaw.TheVariants.{Lex, Expected}
use Rattle.sn_text_rules.specs.Words.{is_word}
use Rattle.sn_text_rules.proofs.Bounded.{Flaws, Bounded, Telling, if_allows, full_allows, word_by_bounded, number_in_bounded, keyword_bounded, sign_bounded, pair_bounded, embedded_bounded, renamed_bounded, after_bounded, before_bounded, maybe_bounded, many_bounded, series_bounded, pair_telling, leaf_telling}
use Rattle.sn_plan_grammar.specs.Grammar.{name_test, name, numbers, to_sizes, from_sizes, both_rule, sizes_rule, to_piece, from_piece, piece_rule, to_entry, from_entry, pieces_rule, entry_rule, to_plan, from_plan, entries_rule, plan_rule, end_face, end_in, any_end, file_rule}
use Rattle.sn_plan_grammar.proofs.Goods.{numbers_alike, pieces_alike, entries_alike}

abbrev of_plan : Flaw → Bool
of_plan Lex = true
of_plan Expected = true
of_plan _ = false

abbrev pub flaws : Flaws
flaws = record { ok = of_plan; lex = refl; expected = refl }

name_bounded : Bounded flaws name
name_bounded = word_by_bounded flaws name_test (λ w. if_allows flaws ((length w == 0) || nat_lt 32 (length w)) (Some Expected) None refl tt)

numbers_bounded : (limit low high : ℕ) → low ≤ high → Bounded flaws (numbers limit low high)
unfolding numbers
numbers_bounded limit low high le = series_bounded (numbers_alike limit low high le) (full_allows flaws limit Expected refl) (λ seen. after_bounded (sign_bounded flaws 3) (number_in_bounded flaws low high)) (number_in_bounded flaws low high)

sizes_bounded : Bounded flaws sizes_rule
unfolding sizes_rule both_rule
sizes_bounded = embedded_bounded to_sizes from_sizes (maybe_bounded (is_word (codes "slots")) (after_bounded (keyword_bounded flaws (codes "slots"))
    (pair_bounded (numbers_bounded 2 1 65536 (omega arith)) (after_bounded (keyword_bounded flaws (codes "stages")) (numbers_bounded 8 0 31 (omega arith))))))

piece_bounded : Bounded flaws piece_rule
unfolding piece_rule
piece_bounded = renamed_bounded to_piece from_piece (after_bounded (keyword_bounded flaws (codes "piece")) (pair_bounded (number_in_bounded flaws 0 128) (pair_bounded (number_in_bounded flaws 0 1)
    (after_bounded (keyword_bounded flaws (codes "cut")) (pair_bounded (number_in_bounded flaws 0 12) (before_bounded sizes_bounded (sign_bounded flaws 2)))))))

pieces_bounded : Bounded flaws pieces_rule
unfolding pieces_rule
pieces_bounded = many_bounded pieces_alike (full_allows flaws 8 Expected refl) (λ seen. piece_bounded)

entry_bounded : Bounded flaws entry_rule
unfolding entry_rule
entry_bounded = renamed_bounded to_entry from_entry (after_bounded (keyword_bounded flaws (codes "query")) (pair_bounded name_bounded
    (after_bounded (keyword_bounded flaws (codes "path")) (pair_bounded (before_bounded (numbers_bounded 4 0 128 (omega arith)) (sign_bounded flaws 2)) pieces_bounded))))

plan_bounded : Bounded flaws plan_rule
unfolding plan_rule entries_rule
plan_bounded = renamed_bounded to_plan from_plan (after_bounded (keyword_bounded flaws (codes "plan")) (series_bounded entries_alike (full_allows flaws 8 Expected refl) (λ seen. entry_bounded) entry_bounded))

pub file_telling : Telling flaws file_rule
unfolding file_rule
file_telling = pair_telling plan_bounded (leaf_telling flaws end_face end_in any_end (λ b. tt))
