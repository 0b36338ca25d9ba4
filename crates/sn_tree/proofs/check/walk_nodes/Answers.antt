use Rattle.std.proofs.Common.{[], ◌∷◌, ap, sym, ◌∙◌, refl, arith}
use Rattle.std.specs.List.{list_any}
use Rattle.sn_tree_space.specs.Trees.{is_chosen}
use Rattle.sn_tree.specs.Faults.{node_fault, nodes_fault}
use Rattle.sn_tree.specs.Sources.{with_next}
use Rattle.sn_tree.specs.Walks.{ahead, to_come}
use Rattle.sn_tree.proofs.Steps.{gone_on, next_parts, first_parts, one_counted, one_named}
use Rattle.sn_tree.proofs.check.walk_nodes.Goals as goal

pub nodes-init : goal.nodes-init
nodes-init g c =
    let s = g.S.Plans.space c.args.space.now in
    let left = g.N.Nodes.left c.args.nodes.now in record {
      rest = ap (λ l. nodes_fault s c.args.plan.now (l ∷ ahead [] l c.new-walk.result.ends.items) 0 left) c.new-walk.ensures.choices;
      parts = first_parts s c.new-walk.result.choices.items c.new-walk.result.ends.items c.new-walk.ensures.choices;
      counted = omega arith;
      named = refl;
    }

pub nodes-preserved : goal.nodes-preserved
nodes-preserved g c =
    let s = g.S.Plans.space c.args.space.now in
    let l = c.nodes in
    let n = c.in-Some.node in
    let left = g.N.Nodes.left l.nodes in
    let following = g.N.Nodes.left c.next.new.self in
    let all = g.N.Nodes.left c.args.nodes.now in
    let is = c.in-Ok.ensures ∙ ap (λ f. with_next f following) c.in-Some.is in
    let fine = ap (λ q. node_fault s c.args.plan.now q l.seen.count n) (sym c.choices.ensures) ∙ sym c.in_default-check_node.ensures in
    let next = to_come c.in-Ok-go_on.next c.go_on.new.self.choices.items c.go_on.new.self.ends.items in record {
      rest =
          gone_on s c.args.plan.now l.more l.walk.choices.items l.walk.ends.items l.seen.count left following (nodes_fault s c.args.plan.now ([] ∷ []) 0 all) n next
          c.if-not-more.false is l.invariant.rest fine c.in-Ok-go_on.ensures;
      parts = next_parts s l.more l.walk.choices.items l.walk.ends.items n next c.if-not-more.false l.invariant.parts c.in-Ok-go_on.ensures;
      counted = one_counted l.seen.count _ _ left following n is l.invariant.counted refl;
      named = one_named l.seen.names_plan c.names_plan.result (list_any is_chosen all) left following n is l.invariant.named c.names_plan.ensures;
    }
