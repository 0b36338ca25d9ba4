use Rattle.std.proofs.Common.{[]}
use Rattle.sn_top.proofs.answering.UnsplitAnswering.pass.Goals as goal

pub returns-clause-begun : goal.returns-clause-begun
returns-clause-begun c closed tuples some come rising = c.in_ok-give.ensures _ [] c.in_ok-text.ensures.begun
