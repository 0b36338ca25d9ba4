use Rattle.std.proofs.Common.{◌≡◌, ◌<◌, ◌≤◌, ◌∙◌, ◌==◌, ap, sym, subst, length, map, true, get_or, set, ℕ, List, Bool, refl, arith}
use Rattle.std.specs.List.{list_all}
use Rattle.std.proofs.lemmas.List.{get_or-set_same, length-set}
use Rattle.sn_base.specs.declared.lane.Lane.{Lane}
use Rattle.sn_core.specs.declared.event.Event.TheVariants as event
use Rattle.sn_engine.specs.Intakes.{emptied}
use Rattle.sn_engine.specs.declared.intake.Intake.{Intake}
use Rattle.sn_core_net.specs.declared.holder.Holder.{Holder}
use Rattle.sn_core_net.specs.declared.net.Net.{Net}
use Rattle.sn_core_net.specs.Facts.{are_named, are_own, are_unread}
use Rattle.sn_core_net.specs.Marks.{Sees}
use Rattle.sn_core_net.specs.Nets.{last, state}
use Rattle.sn_core_net.specs.Reports.{is_own, window_number}
use Rattle.sn_core_net.specs.States.{state_of}
use Rattle.sn_core_net.proofs.Changes.{read_out_changes, read_out_may}
use Rattle.sn_core_net.proofs.Facts.{event_stands, late_unread}
use Rattle.sn_core_net.proofs.MarkLemmas.{marks_set}
use Rattle.sn_core_net.proofs.Named.{names_set, no_more}
use Rattle.sn_core_net.proofs.Zips.{all_at, all_set, fits}
use Rattle.sn_core_net.proofs.net.Net.read_out.Goals as goal

capacity : (net : Net) (n : ℕ) (h : Holder) → n < length net.lanes.items → h ≡ get_or net.lanes.items n h → (h.ring.capacity == net.room) ≡ true
capacity net n h within own = ap (λ (k : Holder). k.ring.capacity == net.room) own ∙ all_at (λ k. k.ring.capacity == net.room) net.lanes.items n h net.roomy within

pub append_next-requires-clause-free : goal.append_next-requires-clause-free
append_next-requires-clause-free c =
    let net : Net = c.args.self.now in
    let h : Holder = c.index_mut.result.now in
    let xs : List Intake = net.engine.lanes.items in
    fits (length h.ring.items) net.room h.ring.capacity
    (read_out_may net.engine.t.queries xs net.sources net.room net.lanes.items xs net.matched net.installs.items (last net) net.waiting net.held net.window c.args.lane c.requires.lane h c.index_mut.ensures.value c.requires.may).1
    (capacity net c.args.lane h c.requires.lane c.index_mut.ensures.value)

pub append_next-requires-clause-runs : goal.append_next-requires-clause-runs
append_next-requires-clause-runs c =
    let net : Net = c.args.self.now in
    let h : Holder = c.index_mut.result.now in
    let xs : List Intake = net.engine.lanes.items in
    no_more h.sender.ended (read_out_may net.engine.t.queries xs net.sources net.room net.lanes.items xs net.matched net.installs.items (last net) net.waiting net.held net.window c.args.lane c.requires.lane h c.index_mut.ensures.value c.requires.may).2

-- a lane that appended one of its own frames holds its own frames
own_frames : (net : Net) (n number : ℕ) (h next : Holder) → n < length net.lanes.items → h ≡ get_or net.lanes.items n h → number ≡ window_number net.window → next.sender.lane ≡ h.sender.lane →
    (list_all (is_own h.sender.lane number) h.ring.items ≡ true → list_all (is_own h.sender.lane number) next.ring.items ≡ true) → are_own (window_number net.window) (set net.lanes.items n next) ≡ true
own_frames net n number h next within at is name keeps =
    let test : Holder → Bool = λ k. list_all (is_own k.sender.lane (window_number net.window)) k.ring.items in
    let before : test h ≡ true = ap test at ∙ all_at test net.lanes.items n h net.own within in
    let kept : test h ≡ true → list_all (is_own h.sender.lane (window_number net.window)) next.ring.items ≡ true = subst (λ (m : ℕ). list_all (is_own h.sender.lane m) h.ring.items ≡ true → list_all (is_own h.sender.lane m) next.ring.items ≡ true) is keeps in
    all_set test net.lanes.items n next net.own (ap (λ (l : Lane). list_all (is_own l (window_number net.window)) next.ring.items) name ∙ kept before)

pub invariant_of-self : goal.invariant_of-self
invariant_of-self c =
    let net : Net = c.args.self.now in
    let n : ℕ = c.args.lane in
    let hs : List Holder = net.lanes.items in
    let xs : List Intake = net.engine.lanes.items in
    let h : Holder = c.index_mut.result.now in
    let own : h ≡ get_or hs n h = c.index_mut.ensures.value in
    let next : Holder = c.append_next.new.self in
    let seen : c.index.result.now ≡ next = c.index.ensures ∙ get_or-set_same hs n next c.index.result.now c.requires.lane in
    let may = read_out_may net.engine.t.queries xs net.sources net.room hs xs net.matched net.installs.items (last net) net.waiting net.held net.window n c.requires.lane h own c.requires.may in
    record {
      matched = length-set hs n next ∙ net.matched;
      few = subst (λ (k : ℕ). k ≤ 64) (sym (length-set hs n next)) net.few;
      roomy = all_set (λ k. k.ring.capacity == net.room) hs n next net.roomy (ap (λ k. k == net.room) c.append_next.ensures.capacity ∙ capacity net n h c.requires.lane own);
      named = ap (λ (names : List Lane). are_named names (map emptied xs)) (names_set hs n h next c.requires.lane (c.append_next.ensures.name ∙ ap (λ (k : Holder). k.sender.lane) own)) ∙ net.named;
      unread = late_unread net.window net.held (are_unread (set hs n next)) may.0;
      own = own_frames net n c.window_number-window.result h next c.requires.lane own c.window_number-window.ensures c.append_next.ensures.name c.append_next.ensures.own;
      agreed = net.agreed;
      known = net.known;
      marked = marks_set net.room n hs next net.marks c.see.new.self c.requires.lane (omega (arith, c.requires.lane, net.few)) (subst (λ (k : Holder). Sees n net.room k net.marks c.see.new.self) seen c.see.ensures) net.marked;
      standing = event_stands net.engine.t.queries net.engine.t.queries xs xs net.sources refl refl (state net) (state_of net.room net.held net.window (set hs n next) xs net.installs.items (last net) net.waiting) (event.ReadOut n) net.standing c.requires.may
          (read_out_changes net.engine.t.queries xs net.sources net.room hs xs net.matched net.installs.items (last net) net.waiting net.held net.window n c.requires.lane h own next
          (c.append_next.ensures.lane net.engine.t.queries (map emptied xs) net.sources));
    }

pub returns-clause-state : goal.returns-clause-state
returns-clause-state c =
    let net : Net = c.args.self.now in
    let xs : List Intake = net.engine.lanes.items in
    read_out_changes net.engine.t.queries xs net.sources net.room net.lanes.items xs net.matched net.installs.items (last net) net.waiting net.held net.window c.args.lane c.requires.lane c.index_mut.result.now c.index_mut.ensures.value c.append_next.new.self
    (c.append_next.ensures.lane net.engine.t.queries (map emptied xs) net.sources)
