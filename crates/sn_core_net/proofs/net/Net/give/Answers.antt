use Rattle.std.proofs.Common.{◌≡◌, ◌||◌, ap, sym, subst, true, Some, List, ℕ}
use Rattle.std.proofs.Math.Bool.{Bool-set}
use Rattle.std.proofs.Math.Logic.{∥∥₁_elim}
use Rattle.sn_core.specs.Events.{window_from}
use Rattle.sn_core.specs.Standing.{IsNet}
use Rattle.sn_core.specs.declared.supply.Supply.{Supply}
use Rattle.sn_core.specs.declared.supply.Window.{Window}
use Rattle.sn_engine.specs.declared.intake.Intake.{Intake}
use Rattle.sn_core_net.specs.declared.net.Net.{Net}
use Rattle.sn_core_net.specs.Facts.{are_own, are_unread, ends_agree, may_be_read}
use Rattle.sn_core_net.specs.Nets.{last, state, works}
use Rattle.sn_core_net.specs.Reports.{window_number}
use Rattle.sn_core_net.specs.States.{state_of}
use Rattle.sn_core_net.proofs.Facts.{give_stands, given_ends, given_own, given_unread}
use Rattle.sn_core_net.proofs.net.Net.give.Goals as goal

pub invariant_of-self : goal.invariant_of-self
invariant_of-self c =
    let net : Net = c.args.self.now in
    let xs : List Intake = net.engine.lanes.items in
    let next : Supply (List ℕ) = c.args.next in
    let window : Window = c.window_from-self.result in
    let is : window ≡ window_from net.window next = c.window_from-self.ensures in
    record {
      matched = net.matched;
      few = net.few;
      roomy = net.roomy;
      named = net.named;
      unread = subst (λ (w : Window). (may_be_read w (Some next) || are_unread net.lanes.items) ≡ true) (sym is) (given_unread net.window net.held next (are_unread net.lanes.items) c.requires.wants net.unread);
      own = subst (λ (w : Window). are_own (window_number w) net.lanes.items ≡ true) (sym is)
          (∥∥₁_elim net.standing (Bool-set (are_own (window_number (window_from net.window next)) net.lanes.items) true) (λ h. given_own (works net) net.lanes.items xs net.matched net.held net.window next h.stands net.own));
      agreed = subst (λ (w : Window). ends_agree w xs ≡ true) (sym is)
          (∥∥₁_elim net.standing (Bool-set (ends_agree (window_from net.window next) xs) true) (λ h. given_ends (works net) net.lanes.items xs net.matched net.held net.window next h.stands net.agreed));
      marked = net.marked;
      known = net.known;
      standing = subst (λ (w : Window). ∥ IsNet (works net) (state_of net.room (Some next) w net.lanes.items xs net.installs.items (last net) net.waiting) ∥₁) (sym is)
          (give_stands net.engine.t.queries xs net.sources (state net) next net.standing c.requires.wants c.requires.rises);
    }

pub returns-clause-state : goal.returns-clause-state
returns-clause-state c =
    let net : Net = c.args.self.now in
    ap (λ (w : Window). record (state net) { held = Some c.args.next; window = w }) c.window_from-self.ensures
