use Rattle.std.proofs.Common.{◌+◌, ◌≤◌, length}
use Rattle.sn_text.specs.Lexing.{left}
use Rattle.sn_tree_text.proofs.Fronts.{Past}
use Rattle.sn_tree_text.proofs.nodes.past_nodes.Given as goal

abbrev pub invariant-nodes : goal.invariant-nodes
invariant-nodes l = record {
  read : Past (left l.fn.at) (left l.place) l.count;
  few : l.count + length (left l.place) ≤ length (left l.fn.at);
}

abbrev pub decreases-nodes : goal.decreases-nodes
decreases-nodes l = length (left l.place)
