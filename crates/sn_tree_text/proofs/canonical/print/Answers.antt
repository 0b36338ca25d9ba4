use Rattle.sn_tree_text.proofs.Rewritten.{again_so}
use Rattle.sn_tree_text.proofs.canonical.print.Goals as goal

pub returns-clause-again : goal.returns-clause-again
returns-clause-again c = again_so _ _ _ _ _ c.new-out.ensures.items c.in_ok-put_nodes.ensures.lines c.as_slice.ensures c.from_vec.ensures c.in_ok-put_nodes.ensures.small
