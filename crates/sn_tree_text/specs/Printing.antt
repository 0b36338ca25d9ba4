-- to be believed
-- The canonical text of a tree.
use Rattle.std.specs.Prelude.{ℕ, List, [], ◌∷◌, ◌++◌, ◌<◌, ◌^◌, codes}
use Rattle.std.specs.Fmt.{decimal}
use Rattle.sn_tree_space.specs.declared.node.Node.{Node}
use Rattle.sn_tree_space.specs.declared.node.Node.TheVariants.{Expand, Bound, Broken, Chosen}

-- the line of a node
abbrev pub node_text : Node → List ℕ
node_text (Expand bound) = codes "E " ++ decimal bound ++ codes "\n"
node_text (Bound bound) = codes "B " ++ decimal bound ++ codes "\n"
node_text Broken = codes "X\n"
node_text (Chosen cost) = codes "P " ++ decimal cost ++ codes "\n"

-- a line for each node
abbrev pub nodes_text : List Node → List ℕ
nodes_text [] = []
nodes_text (n ∷ ns) = node_text n ++ nodes_text ns

-- the text of a cost and of the tree that has these lines
abbrev pub tree_text : ℕ → List ℕ → List ℕ
tree_text cost lines = codes "cost " ++ decimal cost ++ codes ";\ntree\n" ++ lines ++ codes "done\n"

-- the number of a node is one of 64 bits
abbrev pub IsSmall : Node → Type 0
IsSmall (Expand bound) = bound < 2 ^ 64
IsSmall (Bound bound) = bound < 2 ^ 64
IsSmall Broken = Unit {0}
IsSmall (Chosen cost) = cost < 2 ^ 64
