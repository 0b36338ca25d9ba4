use Rattle.std.proofs.Common.{sym, subst, Option}
use Rattle.sn_core.specs.Standing.{IsNet}
use Rattle.sn_types.specs.declared.answers.Answers.{Answers}
use Rattle.sn_core_net.specs.declared.net.Net.{Net}
use Rattle.sn_core_net.specs.Nets.{last, state, works}
use Rattle.sn_core_net.specs.States.{state_of}
use Rattle.sn_core_net.proofs.Facts.{take_stands}
use Rattle.sn_core_net.proofs.net.Net.take_answers.Goals as goal

pub invariant_of-self : goal.invariant_of-self
invariant_of-self c =
    let net : Net = c.args.self.now in
    record {
      matched = net.matched;
      few = net.few;
      roomy = net.roomy;
      named = net.named;
      unread = net.unread;
      own = net.own;
      agreed = net.agreed;
      marked = net.marked;
      known = net.known;
      standing = subst (λ (o : Option Answers). ∥ IsNet (works net) (state_of net.room net.held net.window net.lanes.items net.engine.lanes.items net.installs.items (last net) o) ∥₁) (sym c.take.ensures.after)
          (take_stands net.engine.t.queries net.engine.lanes.items net.sources (state net) net.standing);
    }
