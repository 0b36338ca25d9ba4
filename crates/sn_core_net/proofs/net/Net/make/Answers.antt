use Rattle.std.proofs.Common.{◌≡◌, ◌≤◌, ◌<◌, ℕ, List, [], map, length, true, Option, None, refl, ap, ap₂, sym, subst, ◌∙◌, arith}
use Rattle.std.specs.FinSet as set
use Rattle.std.proofs.lemmas.List.{length-map}
use Rattle.sn_core.specs.Calls.{made}
use Rattle.sn_core.specs.Due.{due, fresh}
use Rattle.sn_core.specs.Nets.{Lane}
use Rattle.sn_core.specs.Standing.{IsNet}
use Rattle.sn_core.specs.declared.supply.Window.TheVariants.{Idle}
use Rattle.sn_engine_lockstep.proofs.Beginning.{has_shape, sources_are}
use Rattle.sn_engine_lockstep.proofs.Laws.{made_known, new_idle, plan_made}
use Rattle.sn_engine_lockstep.specs.Known.{AreKnown}
use Rattle.sn_engine_lockstep.specs.Sources.{source_of, sources_of}
use Rattle.sn_engine_lockstep.specs.Work.{AreApart, intake_of}
use Rattle.sn_engine_lockstep.specs.declared.source.Source.{Source}
use Rattle.sn_emit.proofs.PlanFacts.{all_few}
use Rattle.sn_emit.proofs.PlanLanes.{lanes_count}
use Rattle.sn_emit.specs.Plans.{AreNewLanes, Placed, pieces_from, tables_of}
use Rattle.sn_emit.specs.declared.sender.Sender.{Sender}
use Rattle.sn_emit.specs.declared.tables.Tables.{Tables}
use Rattle.sn_engine.proofs.Lanes.{as_many_entries}
use Rattle.sn_engine.specs.Intakes.{emptied, intakes_of}
use Rattle.sn_engine.specs.declared.intake.Intake.{Intake}
use Rattle.sn_core_net.proofs.PlanSchedules.{plan_due}
use Rattle.sn_core_net.specs.PlanWorkings.{AreLanesFor, workings, workings_of}
use Rattle.sn_plan_fit.specs.Fits.{AreEntriesOf}
use Rattle.sn_pipe.specs.Pipes.{PipeState}
use Rattle.sn_plan_grammar.specs.declared.plan.Entry.{Entry}
use Rattle.sn_report.specs.Items.{Item}
use Rattle.sn_types.proofs.Facts.{few_queries}
use Rattle.sn_types.specs.declared.typed_query.TypedQuery.{TypedQuery}
use Rattle.sn_core_net.specs.declared.holder.Holder.{Holder}
use Rattle.sn_core_net.specs.Facts.{are_named, are_own, are_roomy, are_unread, names_of}
use Rattle.sn_core_net.specs.Holders.{with_ring}
use Rattle.sn_core_net.specs.Marks.{AreMarksFrom}
use Rattle.sn_core_net.specs.States.{State, Works, last_of, lanes_of, state_of, works_of}
use Rattle.sn_core_net.proofs.Both.{Set}
use Rattle.sn_core_net.proofs.Makings.{emptied_intakes, fresh_lanes, made_stands, new_lanes_for, new_named, new_own, new_roomy, new_unread, some_pieces}
use Rattle.sn_core_net.proofs.Zips.{length_lanes}
use Rattle.sn_core_net.proofs.net.Net.make.Goals as goal

-- the parts of a net as they are made
record Made (queries : List TypedQuery) (tables : Tables) (room : ℕ) (es : List Entry) (ss : List Sender) (hs : List Holder) (xs : List Intake) (sources : List Source) (others : List TypedQuery) (installs : List Set) (closed : Option ℕ) : Type 0 where
  new : AreNewLanes queries tables (pieces_from 0 es) ss
  held : hs ≡ map (with_ring room) ss
  apart : AreApart (pieces_from 0 es)
  lanes : xs ≡ map intake_of (pieces_from 0 es)
  own : sources ≡ map source_of (pieces_from 0 es)
  same : others ≡ queries
  none : installs ≡ []
  first : closed ≡ None

made_of : (queries : List TypedQuery) (tables : Tables) (room : ℕ) (es : List Entry) (ss : List Sender) (hs : List Holder) (xs : List Intake) (sources : List Source) (others : List TypedQuery) (installs : List Set) (closed : Option ℕ) → AreEntriesOf queries es → AreNewLanes queries tables (pieces_from 0 es) ss → hs ≡ map (with_ring room) ss
    → xs ≡ intakes_of 0 es → sources ≡ sources_of 0 es → others ≡ queries → installs ≡ [] → closed ≡ None → Made queries tables room es ss hs xs sources others installs closed
made_of queries tables room es ss hs xs sources others installs closed paths new held lanes own same none first =
    let idle = new_idle queries tables es ss paths new in
    record { new = new; held = held; apart = idle.apart; lanes = lanes ∙ idle.empty; own = own ∙ sources_are 0 es; same = same; none = none; first = first }

module _ (queries : List TypedQuery) (tables : Tables) (room : ℕ) (es : List Entry) (ss : List Sender) (hs : List Holder) (xs : List Intake) (sources : List Source) (others : List TypedQuery) (installs : List Set) (closed : Option ℕ) (kept : List Set) (m : Made queries tables room es ss hs xs sources others installs closed) where
  abbrev pieces : List Placed
  pieces = pieces_from 0 es

  as_many_pieces : length hs ≡ length pieces
  as_many_pieces = ap (λ (ks : List Holder). length ks) m.held ∙ length-map ss (with_ring room) ∙ lanes_count queries tables pieces ss m.new

  as_many : length hs ≡ length xs
  as_many = as_many_pieces ∙ sym (ap (λ (zs : List Intake). length zs) m.lanes ∙ length-map pieces intake_of)

  are_fresh : lanes_of hs xs ≡ map (fresh (works_of others xs sources) set.empty) (lanes_of hs xs)
  are_fresh =
      subst (λ (ks : List Holder). lanes_of ks xs ≡ map (fresh (works_of others xs sources) set.empty) (lanes_of ks xs)) (sym m.held)
      (subst (λ (zs : List Intake). lanes_of (map (with_ring room) ss) zs ≡ map (fresh (works_of others xs sources) set.empty) (lanes_of (map (with_ring room) ss) zs)) (sym m.lanes)
      (fresh_lanes queries tables room (map emptied xs) sources pieces ss m.new))

  are_for : AreLanesFor queries tables pieces (lanes_of hs xs)
  are_for =
      subst (λ (ks : List Holder). AreLanesFor queries tables pieces (lanes_of ks xs)) (sym m.held)
      (new_lanes_for queries tables room pieces ss xs (omega (arith, as_many, as_many_pieces, lanes_count queries tables pieces ss m.new)) m.new)

  are_roomy_now : are_roomy room hs ≡ true
  are_roomy_now = ap (are_roomy room) m.held ∙ new_roomy room ss

  are_named_now : are_named (names_of hs) (map emptied xs) ≡ true
  are_named_now = ap (λ (ks : List Holder). are_named (names_of ks) (map emptied xs)) m.held ∙ new_named queries tables room pieces ss xs m.apart m.new m.lanes

  are_unread_now : are_unread hs ≡ true
  are_unread_now = ap are_unread m.held ∙ new_unread queries tables room pieces ss m.new

  are_own_now : are_own 0 hs ≡ true
  are_own_now = ap (are_own 0) m.held ∙ new_own 0 room ss

  state_is : state_of room None Idle hs xs installs (last_of closed kept) None ≡ made (works_of others xs sources) room (lanes_of hs xs)
  state_is = ap (λ (o : Option ℕ). state_of room None Idle hs xs installs (last_of o kept) None) m.first ∙ ap₂ (λ (lanes : List (Lane PipeState Item)) (is : List Set). state_with room lanes is) are_fresh m.none
    where
      state_with : ℕ → List (Lane PipeState Item) → List Set → State
      state_with room lanes is = record { room = room; held = None; window = Idle; lanes = lanes; installs = is; last = None; waiting = None }

  some_lane : 0 < length pieces → 0 < length (lanes_of hs xs)
  some_lane some = omega (arith, some, length_lanes hs xs as_many, as_many_pieces)

  stands : 1 ≤ room → 0 < length pieces → IsNet (works_of others xs sources) (state_of room None Idle hs xs installs (last_of closed kept) None)
  stands some_room some =
      subst (λ (s : State). IsNet (works_of others xs sources) s) (sym state_is) (made_stands others xs sources room (lanes_of hs xs) (omega (arith, some_room)) (some_lane some))

  works_are : works_of others xs sources ≡ workings queries es
  works_are =
      ap₂ (λ (qs : List TypedQuery) (is : List Intake). workings_of qs is sources) m.same (ap (λ (zs : List Intake). map emptied zs) m.lanes ∙ emptied_intakes pieces)
      ∙ ap (workings_of queries (map intake_of pieces)) m.own

pub sources-requires : goal.sources-requires
sources-requires c =
    let t = c.args.t.now in
    let entries = c.args.plan.now.entries in
    let many = as_many_entries t.queries entries c.requires.fits.paths in
    let few = few_queries t.window_us t.queries t.typed in
    let most : length entries ≤ 8 = omega (arith, many, few) in
    subst (λ (es : List Entry). length es ≤ 8) (sym c.as_slice.ensures) most

pub make-requires : goal.make-requires
make-requires c = has_shape c.args.t.now.queries c.args.s.now c.args.plan.now.entries c.requires.fits

pub of-marks-requires : goal.of-marks-requires
of-marks-requires c =
    let t = c.args.t.now in
    let s = c.args.s.now in
    let es : List Entry = c.args.plan.now.entries in
    let held = c.in_ok-lanes.ensures in
    let ss : List Sender = c.in_ok-senders.senders.items in
    let hs : List Holder = c.in_ok-lanes.lanes.items in
    let many : length hs ≡ length (pieces_from 0 es) = ap (λ (ks : List Holder). length ks) held ∙ length-map ss (with_ring c.args.room) ∙ lanes_count t.queries (tables_of s) (pieces_from 0 es) ss c.in_ok-senders.ensures in
    subst (λ (ks : List Holder). length ks ≤ 64) (sym c.deref.ensures.value) (subst (λ (n : ℕ). n ≤ 64) (sym many) (all_few t.window_us t.queries s t.typed c.requires.switch es c.requires.fits.paths c.requires.fits.pieces))

pub invariant_of-result : goal.invariant_of-result
invariant_of-result c =
    let t = c.args.t.now in
    let s = c.args.s.now in
    let es : List Entry = c.args.plan.now.entries in
    let ss : List Sender = c.in_ok-senders.senders.items in
    let hs : List Holder = c.in_ok-lanes.lanes.items in
    let xs : List Intake = c.in_ok-engine.engine.lanes.items in
    let sources : List Source = c.in_ok-sources.sources in
    let others : List TypedQuery = c.in_ok-engine.engine.t.queries in
    let installs : List Set = c.new-installs.result.items in
    let closed : Option ℕ = c.in_ok-engine.engine.closed in
    let kept : List Set = c.in_ok-engine.engine.kept in
    let m = made_of t.queries (tables_of s) c.args.room es ss hs xs sources others installs closed c.requires.fits.paths c.in_ok-senders.ensures c.in_ok-lanes.ensures c.in_ok-engine.ensures.lanes (c.in_ok-sources.ensures ∙ ap (sources_of 0) c.as_slice.ensures) c.in_ok-engine.ensures.queries c.new-installs.ensures.items c.in_ok-engine.ensures.closed in
    let many : length hs ≡ length xs = as_many t.queries (tables_of s) c.args.room es ss hs xs sources others installs closed kept m in
    let few : length hs ≤ 64 =
    subst (λ (n : ℕ). n ≤ 64) (sym (as_many_pieces t.queries (tables_of s) c.args.room es ss hs xs sources others installs closed kept m)) (all_few t.window_us t.queries s t.typed c.requires.switch es c.requires.fits.paths c.requires.fits.pieces) in
    let some = some_pieces t.window_us t.queries es t.typed c.requires.fits.paths in
    let known : AreKnown t.queries (sources_of 0 es) = made_known t.queries es (plan_made t.window_us t.queries s es t.typed c.requires.switch c.requires.fits) in
    record {
      matched = many;
      few = few;
      roomy = are_roomy_now t.queries (tables_of s) c.args.room es ss hs xs sources others installs closed kept m;
      named = are_named_now t.queries (tables_of s) c.args.room es ss hs xs sources others installs closed kept m;
      unread = are_unread_now t.queries (tables_of s) c.args.room es ss hs xs sources others installs closed kept m;
      own = are_own_now t.queries (tables_of s) c.args.room es ss hs xs sources others installs closed kept m;
      agreed = refl;
      known = subst (λ (qs : List TypedQuery). AreKnown qs sources) (sym m.same) (subst (AreKnown t.queries) (sym (c.in_ok-sources.ensures ∙ ap (sources_of 0) c.as_slice.ensures)) known);
      marked = subst (λ (ks : List Holder). AreMarksFrom 0 c.args.room ks c.of-marks.result) c.deref.ensures.value c.of-marks.ensures;
      standing = ∣ stands t.queries (tables_of s) c.args.room es ss hs xs sources others installs closed kept m c.requires.some_room some ∣₁;
    }

pub returns-clause-works : goal.returns-clause-works
returns-clause-works c =
    let t = c.args.t.now in
    let s = c.args.s.now in
    let es : List Entry = c.args.plan.now.entries in
    let ss : List Sender = c.in_ok-senders.senders.items in
    let hs : List Holder = c.in_ok-lanes.lanes.items in
    let xs : List Intake = c.in_ok-engine.engine.lanes.items in
    let sources : List Source = c.in_ok-sources.sources in
    let others : List TypedQuery = c.in_ok-engine.engine.t.queries in
    let installs : List Set = c.new-installs.result.items in
    let closed : Option ℕ = c.in_ok-engine.engine.closed in
    let kept : List Set = c.in_ok-engine.engine.kept in
    let m = made_of t.queries (tables_of s) c.args.room es ss hs xs sources others installs closed c.requires.fits.paths c.in_ok-senders.ensures c.in_ok-lanes.ensures c.in_ok-engine.ensures.lanes (c.in_ok-sources.ensures ∙ ap (sources_of 0) c.as_slice.ensures) c.in_ok-engine.ensures.queries c.new-installs.ensures.items c.in_ok-engine.ensures.closed in
    works_are t.queries (tables_of s) c.args.room es ss hs xs sources others installs closed kept m

pub returns-clause-state : goal.returns-clause-state
returns-clause-state c =
    let t = c.args.t.now in
    let s = c.args.s.now in
    let es : List Entry = c.args.plan.now.entries in
    let ss : List Sender = c.in_ok-senders.senders.items in
    let hs : List Holder = c.in_ok-lanes.lanes.items in
    let xs : List Intake = c.in_ok-engine.engine.lanes.items in
    let sources : List Source = c.in_ok-sources.sources in
    let others : List TypedQuery = c.in_ok-engine.engine.t.queries in
    let installs : List Set = c.new-installs.result.items in
    let closed : Option ℕ = c.in_ok-engine.engine.closed in
    let kept : List Set = c.in_ok-engine.engine.kept in
    let m = made_of t.queries (tables_of s) c.args.room es ss hs xs sources others installs closed c.requires.fits.paths c.in_ok-senders.ensures c.in_ok-lanes.ensures c.in_ok-engine.ensures.lanes (c.in_ok-sources.ensures ∙ ap (sources_of 0) c.as_slice.ensures) c.in_ok-engine.ensures.queries c.new-installs.ensures.items c.in_ok-engine.ensures.closed in
    state_is t.queries (tables_of s) c.args.room es ss hs xs sources others installs closed kept m

pub returns-clause-lanes : goal.returns-clause-lanes
returns-clause-lanes c =
    let t = c.args.t.now in
    let s = c.args.s.now in
    let es : List Entry = c.args.plan.now.entries in
    let ss : List Sender = c.in_ok-senders.senders.items in
    let hs : List Holder = c.in_ok-lanes.lanes.items in
    let xs : List Intake = c.in_ok-engine.engine.lanes.items in
    let sources : List Source = c.in_ok-sources.sources in
    let others : List TypedQuery = c.in_ok-engine.engine.t.queries in
    let installs : List Set = c.new-installs.result.items in
    let closed : Option ℕ = c.in_ok-engine.engine.closed in
    let kept : List Set = c.in_ok-engine.engine.kept in
    let m = made_of t.queries (tables_of s) c.args.room es ss hs xs sources others installs closed c.requires.fits.paths c.in_ok-senders.ensures c.in_ok-lanes.ensures c.in_ok-engine.ensures.lanes (c.in_ok-sources.ensures ∙ ap (sources_of 0) c.as_slice.ensures) c.in_ok-engine.ensures.queries c.new-installs.ensures.items c.in_ok-engine.ensures.closed in
    are_for t.queries (tables_of s) c.args.room es ss hs xs sources others installs closed kept m

pub returns-clause-some_lane : goal.returns-clause-some_lane
returns-clause-some_lane c =
    let t = c.args.t.now in
    let s = c.args.s.now in
    let es : List Entry = c.args.plan.now.entries in
    let ss : List Sender = c.in_ok-senders.senders.items in
    let hs : List Holder = c.in_ok-lanes.lanes.items in
    let xs : List Intake = c.in_ok-engine.engine.lanes.items in
    let sources : List Source = c.in_ok-sources.sources in
    let others : List TypedQuery = c.in_ok-engine.engine.t.queries in
    let installs : List Set = c.new-installs.result.items in
    let closed : Option ℕ = c.in_ok-engine.engine.closed in
    let kept : List Set = c.in_ok-engine.engine.kept in
    let m = made_of t.queries (tables_of s) c.args.room es ss hs xs sources others installs closed c.requires.fits.paths c.in_ok-senders.ensures c.in_ok-lanes.ensures c.in_ok-engine.ensures.lanes (c.in_ok-sources.ensures ∙ ap (sources_of 0) c.as_slice.ensures) c.in_ok-engine.ensures.queries c.new-installs.ensures.items c.in_ok-engine.ensures.closed in
    some_lane t.queries (tables_of s) c.args.room es ss hs xs sources others installs closed kept m (some_pieces t.window_us t.queries es t.typed c.requires.fits.paths)

pub returns-clause-stands : goal.returns-clause-stands
returns-clause-stands c =
    let t = c.args.t.now in
    let s = c.args.s.now in
    let es : List Entry = c.args.plan.now.entries in
    let ss : List Sender = c.in_ok-senders.senders.items in
    let hs : List Holder = c.in_ok-lanes.lanes.items in
    let xs : List Intake = c.in_ok-engine.engine.lanes.items in
    let sources : List Source = c.in_ok-sources.sources in
    let others : List TypedQuery = c.in_ok-engine.engine.t.queries in
    let installs : List Set = c.new-installs.result.items in
    let closed : Option ℕ = c.in_ok-engine.engine.closed in
    let kept : List Set = c.in_ok-engine.engine.kept in
    let m = made_of t.queries (tables_of s) c.args.room es ss hs xs sources others installs closed c.requires.fits.paths c.in_ok-senders.ensures c.in_ok-lanes.ensures c.in_ok-engine.ensures.lanes (c.in_ok-sources.ensures ∙ ap (sources_of 0) c.as_slice.ensures) c.in_ok-engine.ensures.queries c.new-installs.ensures.items c.in_ok-engine.ensures.closed in
    stands t.queries (tables_of s) c.args.room es ss hs xs sources others installs closed kept m c.requires.some_room (some_pieces t.window_us t.queries es t.typed c.requires.fits.paths)

pub returns-clause-due : goal.returns-clause-due
returns-clause-due c = λ following dont_fall widths.
    let t = c.args.t.now in
    let s = c.args.s.now in
    let es : List Entry = c.args.plan.now.entries in
    let ss : List Sender = c.in_ok-senders.senders.items in
    let hs : List Holder = c.in_ok-lanes.lanes.items in
    let xs : List Intake = c.in_ok-engine.engine.lanes.items in
    let sources : List Source = c.in_ok-sources.sources in
    let others : List TypedQuery = c.in_ok-engine.engine.t.queries in
    let installs : List Set = c.new-installs.result.items in
    let closed : Option ℕ = c.in_ok-engine.engine.closed in
    let kept : List Set = c.in_ok-engine.engine.kept in
    let m = made_of t.queries (tables_of s) c.args.room es ss hs xs sources others installs closed c.requires.fits.paths c.in_ok-senders.ensures c.in_ok-lanes.ensures c.in_ok-engine.ensures.lanes (c.in_ok-sources.ensures ∙ ap (sources_of 0) c.as_slice.ensures) c.in_ok-engine.ensures.queries c.new-installs.ensures.items c.in_ok-engine.ensures.closed in
    let lanes : List (Lane PipeState Item) = lanes_of hs xs in
    let some : 0 < length lanes = some_lane t.queries (tables_of s) c.args.room es ss hs xs sources others installs closed kept m (some_pieces t.window_us t.queries es t.typed c.requires.fits.paths) in
    ap (λ (at : State). due (works_of others xs sources) at following) (state_is t.queries (tables_of s) c.args.room es ss hs xs sources others installs closed kept m)
    ∙ ap (λ (w : Works). due w (made w c.args.room lanes) following) (works_are t.queries (tables_of s) c.args.room es ss hs xs sources others installs closed kept m)
    ∙ plan_due t.window_us c.args.room t.queries s es lanes following t.typed c.requires.switch c.requires.fits (are_for t.queries (tables_of s) c.args.room es ss hs xs sources others installs closed kept m) (omega (arith, c.requires.some_room)) some dont_fall widths
