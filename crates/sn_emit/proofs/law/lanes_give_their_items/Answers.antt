use Rattle.sn_emit.proofs.EmitLaw.{lane_counts, lane_gives}
use Rattle.sn_emit.proofs.law.lanes_give_their_items.Goals as goal

pub returns-clause-frames : goal.returns-clause-frames
returns-clause-frames c = lane_gives

pub returns-clause-count : goal.returns-clause-count
returns-clause-count c = lane_counts
