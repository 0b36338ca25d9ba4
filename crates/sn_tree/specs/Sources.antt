-- serves proofs
-- Nodes that are taken one after another.
use Rattle.std.specs.Prelude.{List, [], ◌∷◌, Option, Some, None}
use Rattle.sn_tree_space.specs.declared.node.Node.{Node}

-- the nodes that were left before one of them was taken, where these are left after it; none where there was none to take
abbrev pub with_next : Option Node → List Node → List Node
with_next None following = []
with_next (Some node) following = node ∷ following
