use Rattle.sn_test_engine.proofs.many.switches_sum_as_one.Goals as goal

pub invariant_of-many-2 : goal.invariant_of-many-2
invariant_of-many-2 g c = record { ready = c.close_window.new.self.ready }
