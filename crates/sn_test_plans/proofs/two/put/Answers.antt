use Rattle.sn_test_plans.proofs.two.put.Goals as goal

pub returns : goal.returns
returns c = c.set.ensures.places 2 c.requires.places
