use Rattle.sn_command_detect.proofs.watch.Watch.begin.Goals as goal

pub returns-clause-begun : goal.returns-clause-begun
returns-clause-begun c = λ closed number h rises. record { kept = c.clear.ensures; widths = tt; after = h.after; rising = rises }
