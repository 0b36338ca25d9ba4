use Rattle.std.proofs.Common.{refl}
use Rattle.sonata.proofs.nets.top_with_nets.Goals as goal

pub returns-clause-headline : goal.returns-clause-headline
returns-clause-headline g c = λ nodes schedule spells. c.top.ensures.headline refl nodes schedule spells
