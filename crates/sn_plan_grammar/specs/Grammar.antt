-- to be believed
-- The grammar of the plan text, production by production. The production stands above each rule.
use Rattle.std.specs.Prelude.{ℕ, Bool, true, false, List, [], ◌∷◌, length, Option, Some, None, nat_lt, ◌==◌, ◌||◌, codes, if◌then◌else◌}
use Rattle.sn_text_rules.specs.declared.Flaw.{Flaw}
use Rattle.sn_text_rules.specs.declared.Flaw.TheVariants.{Expected}
use Rattle.sn_text_rules.specs.declared.symbols.TheConstants.{SEMICOLON, COMMA}
use Rattle.sn_text_rules.specs.Tokens.{Lexeme, word, finish}
use Rattle.sn_text_rules.specs.Rules.{Rule, pair, embedded, renamed, maybe, many, series}
use Rattle.sn_text_rules.specs.Words.{same, is_word, is_symbol, leaf, word_by, keyword, sign, number_in, full, ◌▸◌, ◌◂◌}
use Rattle.sn_chain.specs.Limits.{largest_register}
use Rattle.sn_plan_grammar.specs.declared.plan.Plan.{Plan}
use Rattle.sn_plan_grammar.specs.declared.plan.Entry.{Entry}
use Rattle.sn_plan_grammar.specs.declared.plan.Piece.{Piece}

-- ---- tokens

-- any word of at most 32 bytes is a name
abbrev pub name_test : List ℕ → Option Flaw
name_test w = if (length w == 0) || nat_lt 32 (length w) then Some Expected else None

abbrev pub name : Rule (List ℕ)
name = word_by name_test

-- NUM { "," NUM }, this many at most
unfoldable pub numbers : ℕ → ℕ → ℕ → Rule (List ℕ)
numbers limit low high = series (number_in low high) (is_symbol COMMA) (full limit Expected) (λ seen. sign COMMA ▸ number_in low high)

-- ---- pieces

abbrev pub Sizes : Type 0
Sizes = List ℕ × List ℕ

abbrev pub to_sizes : Option Sizes → Sizes
to_sizes None = ([], [])
to_sizes (Some x) = x

-- both lists, or neither
abbrev pub with_sizes : List ℕ → List ℕ → Option (Option Sizes)
with_sizes [] [] = Some None
with_sizes [] (t ∷ ts) = None
with_sizes (s ∷ ss) [] = None
with_sizes (s ∷ ss) (t ∷ ts) = Some (Some (s ∷ ss, t ∷ ts))

abbrev pub from_sizes : Sizes → Option (Option Sizes)
from_sizes x = with_sizes x.0 x.1

-- "slots" NUM { "," NUM } "stages" NUM { "," NUM }
unfoldable pub both_rule : Rule Sizes
both_rule = keyword (codes "slots") ▸ pair (numbers 2 1 largest_register) (keyword (codes "stages") ▸ numbers 8 0 31)

-- [ "slots" NUM { "," NUM } "stages" NUM { "," NUM } ]
unfoldable pub sizes_rule : Rule Sizes
sizes_rule = embedded to_sizes from_sizes (maybe (is_word (codes "slots")) both_rule)

abbrev pub to_piece : ℕ × (ℕ × (ℕ × Sizes)) → Piece
to_piece x = record { level = x.0; branch = x.1.0; cut = x.1.1.0; slots = x.1.1.1.0; stages = x.1.1.1.1 }

abbrev pub from_piece : Piece → ℕ × (ℕ × (ℕ × Sizes))
from_piece p = (p.level, (p.branch, (p.cut, (p.slots, p.stages))))

-- piece = "piece" LEVEL BRANCH "cut" NUM [ "slots" .. "stages" .. ] ";"
unfoldable pub piece_rule : Rule Piece
piece_rule =
    renamed to_piece from_piece (keyword (codes "piece")
    ▸ pair (number_in 0 128) (pair (number_in 0 1) (keyword (codes "cut") ▸ pair (number_in 0 12) (sizes_rule ◂ sign SEMICOLON))))

-- ---- entries

abbrev pub to_entry : List ℕ × (List ℕ × List Piece) → Entry
to_entry x = record { name = x.0; levels = x.1.0; pieces = x.1.1 }

abbrev pub from_entry : Entry → List ℕ × (List ℕ × List Piece)
from_entry e = (e.name, (e.levels, e.pieces))

-- { piece }
unfoldable pub pieces_rule : Rule (List Piece)
pieces_rule = many (is_word (codes "piece")) (full 8 Expected) (λ seen. piece_rule)

-- entry = "query" NAME "path" NUM { "," NUM } ";" { piece }
unfoldable pub entry_rule : Rule Entry
entry_rule = renamed to_entry from_entry (keyword (codes "query") ▸ pair name (keyword (codes "path") ▸ pair (numbers 4 0 128 ◂ sign SEMICOLON) pieces_rule))

abbrev pub to_plan : List Entry → Plan
to_plan entries = record { entries = entries }

abbrev pub from_plan : Plan → List Entry
from_plan p = p.entries

-- entry { entry }
unfoldable pub entries_rule : Rule (List Entry)
entries_rule = series entry_rule (is_word (codes "query")) (full 8 Expected) (λ seen. entry_rule)

-- plan = "plan" entry { entry }
unfoldable pub plan_rule : Rule Plan
plan_rule = renamed to_plan from_plan (keyword (codes "plan") ▸ entries_rule)

-- ---- the text

-- whether a cost follows
abbrev pub end_face : Bool → Lexeme
end_face true = word (codes "cost")
end_face false = finish

abbrev pub cost_in : Bool → Option Bool
cost_in true = Some true
cost_in false = None

abbrev pub end_in : Lexeme → Option Bool
end_in finish = Some false
end_in (word w) = cost_in (same w (codes "cost"))
end_in _ = None

abbrev pub any_end : Bool → Option Flaw
any_end b = None

-- the end of the text, or the word "cost"
abbrev pub end_rule : Rule Bool
end_rule = leaf end_face end_in any_end

-- a plan and what ends it
unfoldable pub file_rule : Rule (Plan × Bool)
file_rule = pair plan_rule end_rule
