use Rattle.std.proofs.Common.{◌≡◌, ◌+◌, ℕ, List, [], ◌∷◌, length}
use Rattle.std.specs.Prelude.{◌||◌}
use Rattle.std.specs.List.{list_any}
use Rattle.sn_tree_space.specs.Space.{IsOneOf, IsPartial}
use Rattle.sn_tree_space.specs.Trees.{is_chosen}
use Rattle.sn_tree.specs.Faults.{nodes_fault}
use Rattle.sn_tree.specs.Walks.{to_come}
use Rattle.sn_tree.proofs.check.walk_nodes.Given as goal

abbrev pub invariant-nodes : goal.invariant-nodes
invariant-nodes g l = record {
  rest : nodes_fault (g.S.Plans.space l.fn.space) l.fn.plan (to_come l.more l.walk.choices.items l.walk.ends.items) l.seen.count (g.N.Nodes.left l.nodes)
      ≡ nodes_fault (g.S.Plans.space l.fn.space) l.fn.plan ([] ∷ []) 0 (g.N.Nodes.left l.fn.nodes);
  parts : (q : List ℕ) → IsOneOf q (to_come l.more l.walk.choices.items l.walk.ends.items) → IsPartial (g.S.Plans.space l.fn.space) q;
  counted : l.seen.count + length (g.N.Nodes.left l.nodes) ≡ length (g.N.Nodes.left l.fn.nodes);
  named : (l.seen.names_plan || list_any is_chosen (g.N.Nodes.left l.nodes)) ≡ list_any is_chosen (g.N.Nodes.left l.fn.nodes);
}

abbrev pub decreases-nodes : goal.decreases-nodes
decreases-nodes g l = length (g.N.Nodes.left l.nodes)
