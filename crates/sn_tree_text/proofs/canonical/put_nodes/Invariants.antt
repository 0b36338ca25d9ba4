use Rattle.std.proofs.Common.{◌≡◌, ◌++◌, drop, take}
use Rattle.std.specs.List.{AllByRecursion}
use Rattle.sn_tree_text.specs.Printing.{nodes_text, IsSmall}
use Rattle.sn_tree_text.proofs.canonical.put_nodes.Given as goal

abbrev pub invariant-loop-node : goal.invariant-loop-node
invariant-loop-node l = (l.out.items ++ nodes_text (drop l.node-index l.nodes) ≡ l.fn.out.items ++ nodes_text l.nodes) × AllByRecursion IsSmall (take l.node-index l.nodes)
