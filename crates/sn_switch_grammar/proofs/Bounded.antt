-- A switch text is read to its end or to a fault, and has no limit on the number of its items.
use Rattle.std.proofs.Common.{◌≡◌, ℕ, Bool, true, false, List, Some, None, refl}
use Rattle.std.specs.Prelude.{nat_le, ◌&&◌}
use Rattle.std.specs.List.{list_all}
use Rattle.sn_text_rules.specs.declared.Flaw.{Flaw}
use Rattle.sn_text_rules.specs.declared.Flaw.TheVariants.{TooMany, Range, Twice, Missing}
use Rattle.sn_text_rules.specs.Tokens.{Lexeme, word, number, symbol, finish, bad}
use Rattle.sn_text_rules.specs.Rules.{anything}
use Rattle.sn_text_rules.specs.Words.{first, with_second}
use Rattle.sn_text_rules.proofs.Bounded.{Flaws, Bounded, Whole, if_allows, leaf_bounded, number_by_bounded, sign_bounded, pair_on_bounded, embedded_bounded, renamed_bounded, before_bounded, many_bounded, commas_bounded, end_whole, pair_on_whole, renamed_whole}
use Rattle.sn_switch_grammar.specs.declared.item.Setting.{Setting}
use Rattle.sn_switch_grammar.specs.declared.item.Setting.TheVariants as settings
use Rattle.sn_switch_grammar.specs.declared.item.Item.{Item}
use Rattle.sn_switch_grammar.specs.Settings.{word_of, setting_in, has}
use Rattle.sn_switch_grammar.specs.Grammar.{once, within, alone, lone, one_number, below, size_test, past_size, size_rule, numbers, to_item, from_item, item_rule, end_in, end_face, is_whole, complete, items_rule, switch_rule}
use Rattle.sn_switch_grammar.proofs.Goods.{settings_stand, ends_stand, size_listed, items_alike}

abbrev of_switch : Flaw → Bool
of_switch TooMany = false
of_switch _ = true

abbrev pub flaws : Flaws
flaws = record { ok = of_switch; lex = refl; expected = refl }

one_bounded : (low high : ℕ) → Bounded flaws (one_number low high)
one_bounded low high = embedded_bounded alone lone (number_by_bounded flaws (within low high) (λ n. if_allows flaws (nat_le low n && nat_le n high) None (Some Range) tt refl))

past_is : (x : Lexeme) → of_switch (past_size x) ≡ true
past_is (word w) = refl
past_is (number n) = refl
past_is (symbol k) = refl
past_is finish = refl
past_is bad = refl

size_bounded : (seen : List ℕ) → Bounded flaws (size_rule seen)
size_bounded seen = number_by_bounded flaws (size_test seen) (λ n. if_allows flaws (nat_le 1 n && nat_le n 65536 && list_all (below n) seen) None (Some Range) tt refl)

numbers_bounded : (k : Setting) → Bounded flaws (numbers k)
numbers_bounded settings.Stages = one_bounded 1 32
numbers_bounded settings.Actions = one_bounded 1 64
numbers_bounded settings.Bits = one_bounded 1 4294967296
numbers_bounded settings.Meta = one_bounded 0 65535
numbers_bounded settings.Chain = one_bounded 1 4
numbers_bounded settings.Slots = commas_bounded 4 size_listed past_is size_bounded
numbers_bounded settings.Entries = one_bounded 1 4194304
numbers_bounded settings.Weight = one_bounded 0 65536

item_bounded : (seen : List Item) → Bounded flaws (item_rule seen)
unfolding item_rule
item_bounded seen = renamed_bounded to_item from_item (pair_on_bounded anything
    (leaf_bounded flaws word_of setting_in (once seen) settings_stand (λ k. refl) (λ k. if_allows flaws (has k seen) (Some Twice) None refl tt))
    (λ k. before_bounded (numbers_bounded k) (sign_bounded flaws 2)))

items_bounded : Bounded flaws items_rule
unfolding items_rule
items_bounded = many_bounded items_alike (λ seen. tt) item_bounded

pub switch_whole : Whole flaws switch_rule
unfolding switch_rule
switch_whole = renamed_whole first with_second (pair_on_whole anything items_bounded
    (λ items. end_whole flaws end_face end_in (complete items) ends_stand (λ u. refl) (λ u. if_allows flaws (is_whole items) None (Some Missing) tt refl)))
