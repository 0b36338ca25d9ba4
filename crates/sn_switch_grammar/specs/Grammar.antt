-- to be believed
-- The grammar of the switch text, production by production. The production stands above each rule.
use Rattle.std.specs.Prelude.{ℕ, Bool, List, [], ◌∷◌, Option, Some, None, nat_le, nat_lt, ◌&&◌, if◌then◌else◌}
use Rattle.std.specs.List.{list_all}
use Rattle.sn_text_rules.specs.declared.Flaw.{Flaw}
use Rattle.sn_text_rules.specs.declared.Flaw.TheVariants.{Range, Twice, Missing}
use Rattle.sn_text_rules.specs.declared.symbols.TheConstants.{SEMICOLON}
use Rattle.sn_text_rules.specs.Tokens.{Lexeme, number, finish}
use Rattle.sn_text_rules.specs.Rules.{Rule, anything, pair_on, embedded, renamed, many}
use Rattle.sn_text_rules.specs.Words.{wrong, leaf, number_by, sign, first, with_second, never, commas, ◌◂◌}
use Rattle.sn_chain.specs.Limits.{largest_register}
use Rattle.sn_switch_grammar.specs.declared.item.Setting.{Setting}
use Rattle.sn_switch_grammar.specs.declared.item.Setting.TheVariants as settings
use Rattle.sn_switch_grammar.specs.declared.item.Item.{Item}
use Rattle.sn_switch_grammar.specs.Settings.{word_of, setting_in, begins, has}

-- ---- the word of an item

-- no two items are of one setting
abbrev pub once : List Item → Setting → Option Flaw
once seen k = if has k seen then Some Twice else None

abbrev pub setting_rule : List Item → Rule Setting
setting_rule seen = leaf word_of setting_in (once seen)

-- ---- its numbers

abbrev pub within : ℕ → ℕ → ℕ → Option Flaw
within low high n = if nat_le low n && nat_le n high then None else Some Range

abbrev pub alone : ℕ → List ℕ
alone n = n ∷ []

abbrev pub lone : List ℕ → Option ℕ
lone [] = None
lone (n ∷ []) = Some n
lone (n ∷ m ∷ ns) = None

-- NUM
abbrev pub one_number : ℕ → ℕ → Rule (List ℕ)
one_number low high = embedded alone lone (number_by (within low high))

abbrev pub below : ℕ → ℕ → Bool
below n m = nat_lt m n

-- a size is what a register may have, and above those before it
abbrev pub size_test : List ℕ → ℕ → Option Flaw
size_test seen n = if nat_le 1 n && nat_le n largest_register && list_all (below n) seen then None else Some Range

-- what stands where a fifth size would begin
abbrev pub past_size : Lexeme → Flaw
past_size (number n) = Range
past_size x = wrong x

abbrev pub size_rule : List ℕ → Rule ℕ
size_rule seen = number_by (size_test seen)

-- NUM { "," NUM }
abbrev pub sizes : Rule (List ℕ)
sizes = commas 4 past_size size_rule

abbrev pub numbers : Setting → Rule (List ℕ)
numbers settings.Stages = one_number 1 32
numbers settings.Actions = one_number 1 64
numbers settings.Bits = one_number 1 4294967296
numbers settings.Meta = one_number 0 65535
numbers settings.Chain = one_number 1 4
numbers settings.Slots = sizes
numbers settings.Entries = one_number 1 4194304
numbers settings.Weight = one_number 0 65536

-- ---- items

abbrev pub to_item : Setting × List ℕ → Item
to_item x = record { setting = x.0; numbers = x.1 }

abbrev pub from_item : Item → Setting × List ℕ
from_item item = (item.setting, item.numbers)

-- item = ( "stages" | "actions" | "bits" | "meta" | "chain" | "entries" | "weight" ) NUM ";" | "slots" NUM { "," NUM } ";"
unfoldable pub item_rule : List Item → Rule Item
item_rule seen = renamed to_item from_item (pair_on (setting_rule seen) (λ k. numbers k ◂ sign SEMICOLON) anything)

-- ---- the text

abbrev pub end_in : Lexeme → Option (Unit {0})
end_in finish = Some tt
end_in _ = None

abbrev pub end_face : Unit {0} → Lexeme
end_face u = finish

abbrev pub is_whole : List Item → Bool
is_whole items = has settings.Stages items && has settings.Actions items && has settings.Bits items && has settings.Meta items && has settings.Chain items
    && has settings.Slots items

-- at the end each of the first six settings has had its item
abbrev pub complete : List Item → Unit {0} → Option Flaw
complete items u = if is_whole items then None else Some Missing

abbrev pub end_rule : List Item → Rule (Unit {0})
end_rule items = leaf end_face end_in (complete items)

-- { item }
unfoldable pub items_rule : Rule (List Item)
items_rule = many begins never item_rule

-- file = { item }, each of the first six once and the other two at most once, in any order
unfoldable pub switch_rule : Rule (List Item)
switch_rule = renamed first with_second (pair_on items_rule end_rule anything)
