use Rattle.std.proofs.Common.{◌≡◌, ◌<◌, ◌≤◌, ◌∙◌, ◌==◌, ◌||◌, [], ◌∷◌, ap, ap₂, sym, subst, length, map, not, nat_eq, true, get_or, set, slice_get, Option, None, Some, Result, Ok, Err, OnOk, OnErr, ℕ, List, Bool, refl, arith}
use Rattle.std.proofs.lemmas.Bool.{false≢true}
use Rattle.std.proofs.lemmas.List.{get_or-set_same, length-set}
use Rattle.sn_core.proofs.Tests.{length_changed}
use Rattle.std.specs.List.{list_all}
use Rattle.sn_core.specs.Events.{after_event, change_at}
use Rattle.sn_core.specs.Needs.{first_need_that_fails}
use Rattle.sn_core.specs.Standing.{IsNet}
use Rattle.sn_core.specs.declared.event.Event.TheVariants as event
use Rattle.sn_engine_lockstep.specs.Known.{AreKnown}
use Rattle.sn_engine_lockstep.specs.Work.{taken}
use Rattle.sn_engine.specs.Intakes.{after_frame, emptied}
use Rattle.sn_engine.specs.declared.engine.Engine.{Engine}
use Rattle.sn_engine.specs.declared.intake.Intake.{Intake}
use Rattle.sn_core_net.specs.PlanWorkings.{workings_of}
use Rattle.sn_report.specs.Items.{Frame as Report}
use Rattle.sn_types.specs.declared.typed_query.TypedQuery.{TypedQuery}
use Rattle.sn_core_net.specs.declared.holder.Holder.{Holder}
use Rattle.sn_core_net.specs.declared.net.Net.{Net}
use Rattle.sn_core_net.specs.Facts.{are_named, are_own, are_roomy, are_unread, ends_agree, may_be_read, names_of}
use Rattle.sn_core_net.specs.Holders.{after_frame_of, without_first}
use Rattle.sn_core_net.specs.Nets.{last, state, works}
use Rattle.sn_core_net.specs.Marks.{AreMarksFrom, Sees}
use Rattle.sn_core_net.specs.States.{State, last_of, state_of}
use Rattle.sn_refine.specs.Steps.{Set}
use Rattle.sn_core_net.specs.Reports.{frame_of, is_own, report_of, window_number}
use Rattle.sn_core_net.proofs.Changes.{deliver_changes, deliver_may}
use Rattle.sn_core_net.proofs.Facts.{event_stands, same_stands}
use Rattle.sn_core_net.proofs.MarkLemmas.{marks_set}
use Rattle.sn_core_net.proofs.Named.{frame_taken, names_set, or_kept, own_frame, taken_agrees, taken_emptied}
use Rattle.sn_core_net.proofs.Zips.{all_at, all_dropped, all_first, all_set, set_same}
use Rattle.sn_core_net.proofs.net.Net.deliver.Goals as goal

-- the first frame of a lane is what the engine learns from it
record Reported (net : Net) (h : Holder) : Type 0 where
  report : Report
  first : slice_get h.ring.items 0 ≡ Some report
  is : report ≡ report_of h.sender.lane (window_number net.window) (frame_of report)

first_of : (net : Net) (h : Holder) (frames : List Report) → h.ring.items ≡ frames → not (nat_eq (length frames) 0) ≡ true → list_all (is_own h.sender.lane (window_number net.window)) h.ring.items ≡ true → Reported net h
first_of net h [] is some all = absurd (false≢true some)
first_of net h (report ∷ frames) is some all =
    let first : slice_get h.ring.items 0 ≡ Some report = ap (λ (fs : List Report). slice_get fs 0) is in
    record { report = report; first = first; is = own_frame h.sender.lane (window_number net.window) report (all_first (is_own h.sender.lane (window_number net.window)) h.ring.items report all first) }

-- a lane whose first frame the engine may take, and takes
module _ (net : Net) (n : ℕ) (h next : Holder) (ys : List Intake) (within : n < length net.lanes.items) (may : first_need_that_fails (state net) (event.Deliver n) ≡ None) (own : h ≡ get_or net.lanes.items n h) (gone : next ≡ without_first h) (taken_by : ys ≡ after_frame_of net.engine.lanes.items (slice_get h.ring.items 0)) where
  abbrev hs : List Holder
  hs = net.lanes.items

  abbrev xs : List Intake
  xs = net.engine.lanes.items

  abbrev window : ℕ
  window = window_number net.window

  -- a test that every lane passes
  here : (test : Holder → Bool) → list_all test hs ≡ true → test h ≡ true
  here test all = ap test own ∙ all_at test hs n h all within

  own_first : list_all (is_own h.sender.lane window) h.ring.items ≡ true
  own_first = here (λ k. list_all (is_own k.sender.lane window) k.ring.items) net.own

  found : Reported net h
  found = first_of net h h.ring.items refl (deliver_may net.engine.t.queries xs net.sources net.room hs xs net.matched net.installs.items (last net) net.waiting net.held net.window n within h own may) own_first

  abbrev change : Intake → Intake
  change x = taken x (report_of h.sender.lane window (frame_of found.report))

  came : ys ≡ change_at change xs n
  came =
      taken_by ∙ ap (after_frame_of xs) found.first ∙ ap (after_frame xs) found.is
      ∙ frame_taken hs xs n window h (frame_of found.report) net.named within own

  empty : map emptied ys ≡ map emptied xs
  empty = ap (λ (zs : List Intake). map emptied zs) came ∙ taken_emptied h.sender.lane window (frame_of found.report) xs n

  agreed : ends_agree net.window ys ≡ true
  agreed = ap (ends_agree net.window) came ∙ taken_agrees net.window h.sender.lane (frame_of found.report) xs n net.agreed

  matched : length (set hs n next) ≡ length ys
  matched = length-set hs n next ∙ net.matched ∙ sym (ap (λ (zs : List Intake). length zs) came ∙ length_changed change xs n)

  roomy : are_roomy net.room (set hs n next) ≡ true
  roomy = all_set (λ k. k.ring.capacity == net.room) hs n next net.roomy (ap (λ (k : Holder). k.ring.capacity == net.room) gone ∙ here (λ k. k.ring.capacity == net.room) net.roomy)

  named : are_named (names_of (set hs n next)) (map emptied ys) ≡ true
  named = ap₂ are_named (names_set hs n h next within (ap (λ (k : Holder). k.sender.lane) gone ∙ ap (λ (k : Holder). k.sender.lane) own)) empty ∙ net.named

  unread : (may_be_read net.window net.held || are_unread (set hs n next)) ≡ true
  unread =
      or_kept (may_be_read net.window net.held) (are_unread hs) (are_unread (set hs n next)) net.unread
      (λ e. all_set (λ k. k.sender.pipe.prefix.place == 0) hs n next e (ap (λ (k : Holder). k.sender.pipe.prefix.place == 0) gone ∙ here (λ k. k.sender.pipe.prefix.place == 0) e))

  owned : are_own window (set hs n next) ≡ true
  owned =
      all_set (λ k. list_all (is_own k.sender.lane window) k.ring.items) hs n next net.own
      (ap (λ (k : Holder). list_all (is_own k.sender.lane window) k.ring.items) gone ∙ all_dropped (is_own h.sender.lane window) 1 h.ring.items own_first)

  changed : state_of net.room net.held net.window (set hs n next) ys net.installs.items (last net) net.waiting ≡ after_event (works net) (state net) (event.Deliver n)
  changed =
      ap (λ (zs : List Intake). state_of net.room net.held net.window (set hs n next) zs net.installs.items (last net) net.waiting) came
      ∙ deliver_changes net.engine.t.queries xs net.sources net.room hs xs net.matched net.installs.items (last net) net.waiting net.held net.window n within h own next window found.report found.first
      (ap (λ (k : Holder). k.sender) gone) (ap (λ (k : Holder). k.ring.items) gone)

-- what holds of a result either way
either_way : {A E G : Type 0} (P Q V W : Type 0) (r : Result A E) → OnOk r P → OnOk r Q → OnErr r V → OnErr r W → (P → Q → G) → (V → W → G) → G
either_way P Q V W (Ok a) p q v w good bad = good p q
either_way P Q V W (Err e) p q v w good bad = bad v w

pub invariant_of-self : goal.invariant_of-self
invariant_of-self c =
    let net : Net = c.args.self.now in
    let n : ℕ = c.args.lane in
    let hs : List Holder = net.lanes.items in
    let xs : List Intake = net.engine.lanes.items in
    let h : Holder = c.index_mut.result.now in
    let next : Holder = c.deliver-taken.new.self in
    let ys : List Intake = c.deliver-taken.new.engine.lanes.items in
    let own : h ≡ get_or hs n h = c.index_mut.ensures.value in
    let engine = c.deliver-taken.new.engine in
    let seen : c.index.result.now ≡ next = c.index.ensures ∙ get_or-set_same hs n next c.index.result.now c.requires.lane in
    let marked : AreMarksFrom 0 net.room (set hs n next) c.see.new.self =
    marks_set net.room n hs next net.marks c.see.new.self c.requires.lane (omega (arith, c.requires.lane, net.few)) (subst (λ (k : Holder). Sees n net.room k net.marks c.see.new.self) seen c.see.ensures) net.marked in
    let same_last : last_of engine.closed engine.kept ≡ last net = ap₂ last_of c.deliver-taken.ensures.closed c.deliver-taken.ensures.prefixes in
    either_way (ys ≡ after_frame_of xs (slice_get h.ring.items 0)) (next ≡ without_first h) (ys ≡ xs) (next ≡ h) c.deliver-taken.result c.deliver-taken.ensures.taken c.deliver-taken.ensures.gone c.deliver-taken.ensures.kept c.deliver-taken.ensures.same
    (λ by gone. record {
      matched = matched net n h next ys c.requires.lane c.requires.may own gone by;
      few = subst (λ (k : ℕ). k ≤ 64) (sym (length-set hs n next)) net.few;
      roomy = roomy net n h next ys c.requires.lane c.requires.may own gone by;
      named = named net n h next ys c.requires.lane c.requires.may own gone by;
      unread = unread net n h next ys c.requires.lane c.requires.may own gone by;
      own = owned net n h next ys c.requires.lane c.requires.may own gone by;
      agreed = agreed net n h next ys c.requires.lane c.requires.may own gone by;
      known = subst (λ (qs : List TypedQuery). AreKnown qs net.sources) (sym c.deliver-taken.ensures.queries) net.known;
      marked = marked;
      standing = event_stands net.engine.t.queries c.deliver-taken.new.engine.t.queries xs ys net.sources c.deliver-taken.ensures.queries (empty net n h next ys c.requires.lane c.requires.may own gone by) (state net)
          (state_of net.room net.held net.window (set hs n next) ys net.installs.items (last_of engine.closed engine.kept) net.waiting) (event.Deliver n) net.standing c.requires.may
          (ap (λ (l : Option (ℕ × List Set)). state_of net.room net.held net.window (set hs n next) ys net.installs.items l net.waiting) same_last ∙ changed net n h next ys c.requires.lane c.requires.may own gone by);
    })
    -- nothing has changed where memory ran out
    (λ kept still.
    let same : set hs n next ≡ hs = set_same hs n h next c.requires.lane own still in
    record {
      matched = ap (λ (ks : List Holder). length ks) same ∙ net.matched ∙ sym (ap (λ (zs : List Intake). length zs) kept);
      few = subst (λ (ks : List Holder). length ks ≤ 64) (sym same) net.few;
      roomy = ap (are_roomy net.room) same ∙ net.roomy;
      named = ap₂ (λ (ks : List Holder) (zs : List Intake). are_named (names_of ks) (map emptied zs)) same kept ∙ net.named;
      unread = ap (λ (ks : List Holder). may_be_read net.window net.held || are_unread ks) same ∙ net.unread;
      own = ap (are_own (window_number net.window)) same ∙ net.own;
      agreed = ap (ends_agree net.window) kept ∙ net.agreed;
      known = subst (λ (qs : List TypedQuery). AreKnown qs net.sources) (sym c.deliver-taken.ensures.queries) net.known;
      marked = marked;
      standing = same_stands net.engine.t.queries c.deliver-taken.new.engine.t.queries xs ys net.sources c.deliver-taken.ensures.queries (ap (λ (zs : List Intake). map emptied zs) kept)
          (λ zs. state_of net.room net.held net.window (set hs n next) zs net.installs.items (last_of engine.closed engine.kept) net.waiting) kept
          (subst (λ (l : Option (ℕ × List Set)). ∥ IsNet (works net) (state_of net.room net.held net.window (set hs n next) xs net.installs.items l net.waiting) ∥₁) (sym same_last)
          (subst (λ (ks : List Holder). ∥ IsNet (works net) (state_of net.room net.held net.window ks xs net.installs.items (last net) net.waiting) ∥₁) (sym same) net.standing));
    })

-- what holds of one outcome alone
ok_both : {A E : Type 0} (P Q R : Type 0) (r : Result A E) → OnOk r P → OnOk r Q → (P → Q → R) → OnOk r R
ok_both P Q R (Ok a) p q then = then p q
ok_both P Q R (Err e) p q then = tt

err_both : {A E : Type 0} (P Q R : Type 0) (r : Result A E) → OnErr r P → OnErr r Q → (P → Q → R) → OnErr r R
err_both P Q R (Ok a) p q then = tt
err_both P Q R (Err e) p q then = then p q

module _ (net : Net) (n : ℕ) (h next : Holder) (engine : Engine) (within : n < length net.lanes.items) (may : first_need_that_fails (state net) (event.Deliver n) ≡ None) (own : h ≡ get_or net.lanes.items n h)
    (closed : engine.closed ≡ net.engine.closed) (prefixes : engine.kept ≡ net.engine.kept) where
  abbrev after : State
  after = state_of net.room net.held net.window (set net.lanes.items n next) engine.lanes.items net.installs.items (last_of engine.closed engine.kept) net.waiting

  delivered_now : engine.lanes.items ≡ after_frame_of net.engine.lanes.items (slice_get h.ring.items 0) → next ≡ without_first h → after ≡ after_event (works net) (state net) (event.Deliver n)
  delivered_now by gone =
      ap (λ (l : Option (ℕ × List Set)). state_of net.room net.held net.window (set net.lanes.items n next) engine.lanes.items net.installs.items l net.waiting) (ap₂ last_of closed prefixes)
      ∙ changed net n h next engine.lanes.items within may own gone by

  not_delivered : engine.lanes.items ≡ net.engine.lanes.items → next ≡ h → after ≡ state net
  not_delivered kept still =
      ap (λ (l : Option (ℕ × List Set)). state_of net.room net.held net.window (set net.lanes.items n next) engine.lanes.items net.installs.items l net.waiting) (ap₂ last_of closed prefixes)
      ∙ ap₂ (λ (ks : List Holder) (zs : List Intake). state_of net.room net.held net.window ks zs net.installs.items (last net) net.waiting) (set_same net.lanes.items n h next within own still) kept

pub returns-clause-ok : goal.returns-clause-ok
returns-clause-ok c =
    let net : Net = c.args.self.now in
    let h : Holder = c.index_mut.result.now in
    let next : Holder = c.deliver-taken.new.self in
    let engine : Engine = c.deliver-taken.new.engine in
    ok_both (engine.lanes.items ≡ after_frame_of net.engine.lanes.items (slice_get h.ring.items 0)) (next ≡ without_first h)
    (after net c.args.lane h next engine c.requires.lane c.requires.may c.index_mut.ensures.value c.deliver-taken.ensures.closed c.deliver-taken.ensures.prefixes ≡ after_event (works net) (state net) (event.Deliver c.args.lane))
    c.deliver-taken.result c.deliver-taken.ensures.taken c.deliver-taken.ensures.gone
    (delivered_now net c.args.lane h next engine c.requires.lane c.requires.may c.index_mut.ensures.value c.deliver-taken.ensures.closed c.deliver-taken.ensures.prefixes)

pub returns-clause-err : goal.returns-clause-err
returns-clause-err c =
    let net : Net = c.args.self.now in
    let h : Holder = c.index_mut.result.now in
    let next : Holder = c.deliver-taken.new.self in
    let engine : Engine = c.deliver-taken.new.engine in
    err_both (engine.lanes.items ≡ net.engine.lanes.items) (next ≡ h)
    (after net c.args.lane h next engine c.requires.lane c.requires.may c.index_mut.ensures.value c.deliver-taken.ensures.closed c.deliver-taken.ensures.prefixes ≡ state net)
    c.deliver-taken.result c.deliver-taken.ensures.kept c.deliver-taken.ensures.same
    (not_delivered net c.args.lane h next engine c.requires.lane c.requires.may c.index_mut.ensures.value c.deliver-taken.ensures.closed c.deliver-taken.ensures.prefixes)

pub returns-clause-works : goal.returns-clause-works
returns-clause-works c =
    let net : Net = c.args.self.now in
    let h : Holder = c.index_mut.result.now in
    let next : Holder = c.deliver-taken.new.self in
    let ys : List Intake = c.deliver-taken.new.engine.lanes.items in
    ap₂ (λ (qs : List TypedQuery) (es : List Intake). workings_of qs es net.sources) c.deliver-taken.ensures.queries
    (either_way (ys ≡ after_frame_of net.engine.lanes.items (slice_get h.ring.items 0)) (next ≡ without_first h) (ys ≡ net.engine.lanes.items) (next ≡ h) c.deliver-taken.result c.deliver-taken.ensures.taken c.deliver-taken.ensures.gone c.deliver-taken.ensures.kept
    c.deliver-taken.ensures.same
    (λ by gone. empty net c.args.lane h next ys c.requires.lane c.requires.may c.index_mut.ensures.value gone by) (λ kept still. ap (λ (zs : List Intake). map emptied zs) kept))
