use Rattle.std.proofs.Common.{ap, ◌∙◌}
use Rattle.sn_base.proofs.SeedLemmas.{number_written}
use Rattle.sn_base.proofs.seed.SeededHasherHasher.write_u64.Goals as goal

pub returns : goal.returns
returns c = ap (λ state. record { state = state; number = c.args.self.now.number }) (c.mixed-self.ensures ∙ number_written c.args.self.now.state c.args.i c.ranges.i.fits)
