use Rattle.sn_ops_stream.proofs.after.+start_after.Given as goal

abbrev pub decreases-start_after : goal.decreases-start_after
decreases-start_after g l = l.front
