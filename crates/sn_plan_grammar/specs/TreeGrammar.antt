-- to be believed
-- The grammar of the tree text, production by production. The production stands above each rule.
use Rattle.std.specs.Prelude.{ℕ, Bool, List, ◌||◌, ◌⊎◌, codes}
use Rattle.std.proofs.Common.{inl, inr}
use Rattle.sn_text_rules.specs.declared.symbols.TheConstants.{SEMICOLON}
use Rattle.sn_text_rules.specs.Tokens.{Lexeme}
use Rattle.sn_text_rules.specs.Rules.{Rule, pair, renamed, either, many}
use Rattle.sn_text_rules.specs.Words.{is_word, keyword, sign, the_end, never, ◌▸◌, ◌◂◌, any_number}
use Rattle.sn_tree_space.specs.declared.node.Node.{Node}
use Rattle.sn_tree_space.specs.declared.node.Node.TheVariants.{Expand, Bound, Broken, Chosen}

-- ---- nodes

abbrev pub Parts : Type 0
Parts = Unit {0} ⊎ (ℕ ⊎ (ℕ ⊎ ℕ))

abbrev pub to_node : Parts → Node
to_node (inl u) = Broken
to_node (inr (inl bound)) = Expand bound
to_node (inr (inr (inl bound))) = Bound bound
to_node (inr (inr (inr cost))) = Chosen cost

abbrev pub from_node : Node → Parts
from_node (Expand bound) = inr (inl bound)
from_node (Bound bound) = inr (inr (inl bound))
from_node Broken = inl tt
from_node (Chosen cost) = inr (inr (inr cost))

-- node = "X" | "E" NUM | "B" NUM | "P" NUM
unfoldable pub node_rule : Rule Node
node_rule = renamed to_node from_node (either (is_word (codes "X")) (keyword (codes "X")) (either (is_word (codes "E")) (keyword (codes "E") ▸ any_number)
    (either (is_word (codes "B")) (keyword (codes "B") ▸ any_number) (keyword (codes "P") ▸ any_number))))

-- a node begins with one of the four words
abbrev pub begins : Lexeme → Bool
begins x = is_word (codes "X") x || is_word (codes "E") x || is_word (codes "B") x || is_word (codes "P") x

-- ---- the text

-- { node }
unfoldable pub nodes_rule : Rule (List Node)
nodes_rule = many begins never (λ seen. node_rule)

-- text = "cost" NUM ";" "tree" { node } "done", and nothing after it
unfoldable pub tree_rule : Rule (ℕ × List Node)
tree_rule = keyword (codes "cost") ▸ pair (any_number ◂ sign SEMICOLON) (keyword (codes "tree") ▸ ((nodes_rule ◂ keyword (codes "done")) ◂ the_end))
