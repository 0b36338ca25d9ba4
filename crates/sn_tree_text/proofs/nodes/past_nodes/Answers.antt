use Rattle.std.proofs.Common.{arith}
use Rattle.std.proofs.lemmas.Result.{err_from_is_err_and}
use Rattle.sn_text.specs.Lexing.{left, place}
use Rattle.sn_tree_text.proofs.Fronts.{fewer, few_tokens, past_none, past_more, past_all, past_stop}
use Rattle.sn_tree_text.proofs.nodes.past_nodes.Goals as goal

pub nodes-init : goal.nodes-init
nodes-init c = record { read = past_none (left c.args.at); few = omega arith }

pub returns-then-not-node_begins : goal.returns-then-not-node_begins
returns-then-not-node_begins c = past_all (left c.args.at) (left c.nodes.place) c.nodes.count c.nodes.invariant.read c.if-not-node_begins.ensures

pub returns-in_err-after : goal.returns-in_err-after
returns-in_err-after c =
    let r = err_from_is_err_and c.from_residual.result c.from_residual.ensures.1 in
    rw (r.1, r.2) (past_stop (left c.args.at) (left c.nodes.place) c.nodes.count c.in_err-after.field-0.0 c.nodes.invariant.read c.if-not-node_begins.ensures c.in_err-after.ensures)

pub overflow_add-count : goal.overflow_add-count
overflow_add-count c =
    let shorter = fewer (left c.nodes.place) (left c.in_ok-after.after) c.in_ok-after.field-0-0 c.in_ok-after.ensures in
    omega (arith, shorter, few_tokens (place c.args.at), c.nodes.invariant.few, c.args.at.inside)

pub nodes-smaller : goal.nodes-smaller
nodes-smaller c = let shorter = fewer (left c.nodes.place) (left c.in_ok-after.after) c.in_ok-after.field-0-0 c.in_ok-after.ensures in omega (arith, shorter)

pub nodes-preserved : goal.nodes-preserved
nodes-preserved c =
    let shorter = fewer (left c.nodes.place) (left c.in_ok-after.after) c.in_ok-after.field-0-0 c.in_ok-after.ensures in record {
      read = past_more (left c.args.at) (left c.nodes.place) (left c.in_ok-after.after) c.nodes.count c.in_ok-after.field-0-0 c.nodes.invariant.read c.if-not-node_begins.ensures c.in_ok-after.ensures;
      few = omega (arith, shorter, c.nodes.invariant.few);
    }
