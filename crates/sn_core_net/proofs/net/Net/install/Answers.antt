use Rattle.std.proofs.Common.{◌≡◌, ◌≤◌, ◌∙◌, ap, sym, subst, length, map, true, [], ℕ, List, refl}
use Rattle.std.proofs.Math.Bool.{Bool-set}
use Rattle.std.proofs.Math.Logic.{∥∥₁_elim}
use Rattle.sn_base.specs.declared.lane.Lane.{Lane}
use Rattle.sn_core.specs.Events.{after_event, kept_for_held, window_of_held}
use Rattle.sn_core.specs.declared.event.Event.TheVariants as event
use Rattle.sn_core.specs.declared.supply.Window.{Window}
use Rattle.sn_core.specs.declared.supply.Window.TheVariants.{Closed}
use Rattle.sn_engine.specs.Intakes.{emptied}
use Rattle.sn_engine.specs.declared.intake.Intake.{Intake}
use Rattle.sn_core_net.specs.declared.holder.Holder.{Holder}
use Rattle.sn_core_net.specs.declared.net.Net.{Net}
use Rattle.sn_core_net.specs.Facts.{are_named, are_own, are_roomy, are_unread, ends_agree, may_be_read, names_of}
use Rattle.sn_core_net.specs.Holders.{all_begun}
use Rattle.sn_core_net.specs.Marks.{AreMarksFrom}
use Rattle.sn_core_net.specs.Nets.{last, state, works}
use Rattle.sn_core_net.specs.Reports.{window_number}
use Rattle.sn_core_net.specs.States.{state_of}
use Rattle.sn_core_net.proofs.Both.{Set, length_begun, names_begun, own_begun, roomy_begun, unread_begun}
use Rattle.sn_core_net.proofs.Changes.{install_changes}
use Rattle.sn_core_net.proofs.Facts.{closed_ends, closed_own, event_stands}
use Rattle.sn_core_net.proofs.net.Net.install.Goals as goal
use Rattle.sn_base.proofs.Lists.{or_right as right_true}

changed : (net : Net) (window : Window) (closed : ℕ) (lanes : List Holder) (installs : List Set) → net.window ≡ Closed closed → lanes ≡ all_begun net.lanes.items (kept_for_held closed net.installs.items net.held) → window ≡ window_of_held net.held → installs ≡ [] →
    state_of net.room net.held window lanes net.engine.lanes.items installs (last net) net.waiting ≡ after_event (works net) (state net) event.Install
changed net window closed lanes installs is begun next none =
    let xs : List Intake = net.engine.lanes.items in
    ap (λ (w : Window). state_of net.room net.held w lanes xs installs (last net) net.waiting) next
    ∙ ap (λ (ks : List Set). state_of net.room net.held (window_of_held net.held) lanes xs ks (last net) net.waiting) none
    ∙ install_changes net.engine.t.queries xs net.sources net.room net.lanes.items xs net.matched net.installs.items (last net) net.waiting net.held net.window closed lanes is begun

ends : (net : Net) (window : Window) (closed : ℕ) → net.window ≡ Closed closed → ends_agree window net.engine.lanes.items ≡ true
ends net window closed is = ∥∥₁_elim net.standing (Bool-set (ends_agree window net.engine.lanes.items) true) (λ h. closed_ends (works net) net.lanes.items net.engine.lanes.items net.matched net.held net.window window closed is h.stands)

own : (net : Net) (n closed : ℕ) → net.window ≡ Closed closed → are_own n net.lanes.items ≡ true
own net n closed is = ∥∥₁_elim net.standing (Bool-set (are_own n net.lanes.items) true) (λ h. closed_own (works net) net.lanes.items net.engine.lanes.items net.matched net.held net.window n closed is h.stands)

pub of-self-requires : goal.of-self-requires
of-self-requires c =
    let net : Net = c.args.self.now in
    subst (λ (ks : List Holder). length ks ≤ 64) (sym (c.deref.ensures.value ∙ c.begin_next.ensures))
    (subst (λ (k : ℕ). k ≤ 64) (sym (length_begun net.lanes.items (kept_for_held c.in-Closed.closed net.installs.items net.held))) net.few)

pub invariant_of-self : goal.invariant_of-self
invariant_of-self c =
    let net : Net = c.args.self.now in
    let hs : List Holder = net.lanes.items in
    let xs : List Intake = net.engine.lanes.items in
    let closed : ℕ = c.in-Closed.closed in
    let kepts : List Set = kept_for_held closed net.installs.items net.held in
    let lanes : List Holder = c.begin_next.new.lanes.items in
    let begun : lanes ≡ all_begun hs kepts = c.begin_next.ensures in
    let window : Window = c.window_of_held-self.result in
    record {
      matched = ap (λ (ks : List Holder). length ks) begun ∙ length_begun hs kepts ∙ net.matched;
      few = subst (λ (k : ℕ). k ≤ 64) (sym (ap (λ (ks : List Holder). length ks) begun ∙ length_begun hs kepts)) net.few;
      roomy = ap (are_roomy net.room) begun ∙ roomy_begun net.room hs kepts ∙ net.roomy;
      named = ap (λ (names : List Lane). are_named names (map emptied xs)) (ap names_of begun ∙ names_begun hs kepts) ∙ net.named;
      unread = right_true (may_be_read window net.held) (are_unread lanes) (ap are_unread begun ∙ unread_begun hs kepts);
      own = ap (are_own (window_number window)) begun ∙ own_begun (window_number window) hs kepts ∙ own net (window_number window) closed c.in-Closed.is;
      agreed = ends net window closed c.in-Closed.is;
      known = net.known;
      marked = subst (λ (ks : List Holder). AreMarksFrom 0 net.room ks c.of-self.result) c.deref.ensures.value c.of-self.ensures;
      standing = event_stands net.engine.t.queries net.engine.t.queries xs xs net.sources refl refl (state net) (state_of net.room net.held window lanes xs c.clear.new.self.items (last net) net.waiting) event.Install net.standing c.requires
          (changed net window closed lanes c.clear.new.self.items c.in-Closed.is begun c.window_of_held-self.ensures c.clear.ensures.items);
    }

pub returns-in-Closed-clause-state : goal.returns-in-Closed-clause-state
returns-in-Closed-clause-state c =
    changed c.args.self.now c.window_of_held-self.result c.in-Closed.closed c.begin_next.new.lanes.items c.clear.new.self.items c.in-Closed.is c.begin_next.ensures c.window_of_held-self.ensures c.clear.ensures.items
