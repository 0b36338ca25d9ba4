-- serves proofs
-- The nodes at the front of tokens.
use Rattle.std.specs.Prelude.{ℕ, zero, suc, List, [], ◌∷◌, length}
use Rattle.sn_text_rules.specs.Tokens.{Tok, Read, got, fails, short}
use Rattle.sn_text_rules.specs.Rules.{kept}
use Rattle.sn_tree_space.specs.declared.node.Node.{Node}
use Rattle.sn_plan_grammar.specs.TreeGrammar.{node_rule}

-- a node that was read and those after it, if one was
abbrev pub and_after : Read Node → (List Tok → List Node) → List Node
and_after (got node us) following = node ∷ following us
and_after (fails flaw us) following = []
and_after short following = []

-- at most this many nodes, one after another
abbrev pub front_nodes : ℕ → List Tok → List Node
front_nodes zero ts = []
front_nodes (suc n) ts = and_after (node_rule.read kept ts) (λ us. front_nodes n us)

-- all nodes that stand one after another at the front of tokens: there is no more than one for each token
unfoldable pub nodes_of : List Tok → List Node
nodes_of ts = front_nodes (length ts) ts
