-- A text of a cost and a tree has no prices.
use Rattle.std.proofs.Common.{◌≡◌, ℕ, List, [], ◌∷◌, false, Ok, ap}
use Rattle.std.specs.Prelude.{codes}
use Rattle.sn_text_rules.specs.Tokens.{Spelled, Tok}
use Rattle.sn_text_rules.specs.Words.{is_word}
use Rattle.sn_text.specs.Cutting.{tokens_of}
use Rattle.sn_plan_grammar.specs.TreeGrammar.{tree_rule}
use Rattle.sn_prices_text.specs.Announced.{has_prices}
use Rattle.sn_tree_space.specs.declared.node.Node.{Node}
use Rattle.sn_tree_text.specs.Places.{from_byte}
use Rattle.sn_tree_text.specs.Texts as trees

no_word : (ts : List Tok) (x : ℕ × List Node) → Spelled ts (tree_rule.spell x) → has_prices ts ≡ false
unfolding tree_rule
no_word [] x h = absurd h
no_word (a ∷ []) x h = absurd h.1
no_word (a ∷ b ∷ []) x h = absurd h.1.1
no_word (a ∷ b ∷ c ∷ []) x h = absurd h.1.1.1
no_word (a ∷ b ∷ c ∷ d ∷ ts) x h = ap (is_word (codes "prices")) h.1.1.1.0.0

pub tree_without_prices : (text : List ℕ) (byte : ℕ) (x : ℕ × List Node) → trees.IsRead text byte (Ok x) → has_prices (from_byte byte (tokens_of text)) ≡ false
tree_without_prices text byte x is = no_word (from_byte byte (tokens_of text)) x is.spelled
