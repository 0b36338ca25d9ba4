use Rattle.std.proofs.Common.{subst}
use Rattle.sn_chain.specs.Chain.{ChainState, KeysStand}
use Rattle.sn_chain.proofs.StandLemmas.{chain_found}
use Rattle.sn_chain.proofs.chain.Chain.keys_stand.Goals as goal

pub returns-clause-found : goal.returns-clause-found
returns-clause-found g c =
    chain_found c.args.self.now (subst (λ (s : ChainState g.row.F.Denot). KeysStand s.depth s.slots s.cells) c.self.view_is c.self.invariant.stand)
