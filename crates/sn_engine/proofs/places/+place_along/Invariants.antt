use Rattle.sn_engine.proofs.places.+place_along.Given as goal

abbrev pub decreases-place_along : goal.decreases-place_along
decreases-place_along l = l.count
