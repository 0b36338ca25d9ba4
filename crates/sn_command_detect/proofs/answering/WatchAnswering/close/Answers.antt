use Rattle.sn_command_detect.proofs.answering.WatchAnswering.close.Goals as goal

pub end-requires : goal.end-requires
end-requires c = let h = c.requires in (h.0, h.1, h.3)

pub returns-clause-closed : goal.returns-clause-closed
returns-clause-closed c = λ closed tuples some h. c.in_ok-end.ensures.closed closed tuples h
