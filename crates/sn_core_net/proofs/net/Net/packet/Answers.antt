use Rattle.std.proofs.Common.{◌≡◌, ◌≤◌, ◌∙◌, ap, sym, subst, length, map, true, None, Some, ℕ, List, refl}
use Rattle.sn_core.specs.Events.{after_event}
use Rattle.sn_core.specs.Needs.{first_need_that_fails}
use Rattle.sn_core.specs.declared.event.Event.TheVariants as event
use Rattle.sn_core.specs.declared.supply.Supply.{Supply}
use Rattle.sn_core.specs.declared.supply.Supply.TheVariants.{Numbered}
use Rattle.sn_engine.specs.Intakes.{emptied}
use Rattle.sn_engine.specs.declared.intake.Intake.{Intake}
use Rattle.sn_base.specs.declared.lane.Lane.{Lane}
use Rattle.sn_core_net.specs.declared.holder.Holder.{Holder}
use Rattle.sn_core_net.specs.declared.net.Net.{Net}
use Rattle.sn_core_net.specs.Facts.{are_named, are_own, are_roomy, are_unread, may_be_read, names_of}
use Rattle.sn_core_net.specs.Holders.{all_took}
use Rattle.sn_core_net.specs.Nets.{last, state, works}
use Rattle.sn_core_net.specs.Reports.{window_number}
use Rattle.sn_core_net.specs.States.{state_of}
use Rattle.sn_core_net.proofs.Both.{length_took, names_took, own_took, roomy_took, unread_took}
use Rattle.sn_core_net.proofs.Changes.{packet_changes, packet_may}
use Rattle.sn_core_net.proofs.Facts.{event_stands, packet_unread}
use Rattle.sn_core_net.proofs.net.Net.packet.Goals as goal
use Rattle.sn_base.proofs.Lists.{or_right as right_true}

unread : (net : Net) → first_need_that_fails (state net) event.Packet ≡ None → are_unread net.lanes.items ≡ true
unread net may =
    let xs : List Intake = net.engine.lanes.items in
    packet_unread net.window net.held (are_unread net.lanes.items)
    (packet_may net.engine.t.queries xs net.sources net.room net.lanes.items xs net.matched net.installs.items (last net) net.waiting net.held net.window may).0 net.unread

changed : (net : Net) (lanes : List Holder) (number : ℕ) (tuple : List ℕ) → net.held ≡ Some (Numbered number tuple) → lanes ≡ all_took tuple net.lanes.items → first_need_that_fails (state net) event.Packet ≡ None →
    state_of net.room None net.window lanes net.engine.lanes.items net.installs.items (last net) net.waiting ≡ after_event (works net) (state net) event.Packet
changed net lanes number tuple is new may =
    let xs : List Intake = net.engine.lanes.items in
    ap (λ (hs : List Holder). state_of net.room None net.window hs xs net.installs.items (last net) net.waiting) new
    ∙ packet_changes net.engine.t.queries xs net.sources net.room net.lanes.items xs net.matched net.installs.items (last net) net.waiting net.held net.window number tuple is may net.roomy (unread net may)

pub take_in_all-requires-clause-unread : goal.take_in_all-requires-clause-unread
take_in_all-requires-clause-unread c = unread c.args.self.now c.requires

pub invariant_of-self : goal.invariant_of-self
invariant_of-self c =
    let net : Net = c.args.self.now in
    let hs : List Holder = net.lanes.items in
    let xs : List Intake = net.engine.lanes.items in
    let tuple : List ℕ = c.in-Numbered.tuple in
    let new : c.take_in_all.new.lanes.items ≡ all_took tuple hs = c.take_in_all.ensures.lanes in
    record {
      matched = ap (λ (ks : List Holder). length ks) new ∙ length_took tuple hs ∙ net.matched;
      few = subst (λ (k : ℕ). k ≤ 64) (sym (ap (λ (ks : List Holder). length ks) new ∙ length_took tuple hs)) net.few;
      roomy = ap (are_roomy net.room) new ∙ roomy_took net.room tuple hs ∙ net.roomy;
      named = ap (λ (names : List Lane). are_named names (map emptied xs)) (ap names_of new ∙ names_took tuple hs) ∙ net.named;
      unread = right_true (may_be_read net.window None) (are_unread c.take_in_all.new.lanes.items) (ap are_unread new ∙ unread_took tuple hs ∙ unread net c.requires);
      own = ap (are_own (window_number net.window)) new ∙ own_took (window_number net.window) tuple hs net.own;
      agreed = net.agreed;
      known = net.known;
      marked = c.take_in_all.ensures.marks net.marked;
      standing = event_stands net.engine.t.queries net.engine.t.queries xs xs net.sources refl refl (state net) (state_of net.room None net.window c.take_in_all.new.lanes.items xs net.installs.items (last net) net.waiting) event.Packet net.standing c.requires
          (changed net c.take_in_all.new.lanes.items c.in-Numbered.field-0 tuple (c.in-Some.is ∙ ap (λ (s : Supply (List ℕ)). Some s) c.in-Numbered.is) new c.requires);
    }

pub returns-in-Numbered-clause-state : goal.returns-in-Numbered-clause-state
returns-in-Numbered-clause-state c =
    changed c.args.self.now c.take_in_all.new.lanes.items c.in-Numbered.field-0 c.in-Numbered.tuple (c.in-Some.is ∙ ap (λ (s : Supply (List ℕ)). Some s) c.in-Numbered.is) c.take_in_all.ensures.lanes c.requires
