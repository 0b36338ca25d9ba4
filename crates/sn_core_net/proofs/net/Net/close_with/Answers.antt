use Rattle.std.proofs.Common.{◌≡◌, ◌∙◌, ap, ap₂, sym, subst, length, map, true, Option, None, Some, ℕ, List, refl}
use Rattle.std.proofs.lemmas.List.{length-map}
use Rattle.sn_base.proofs.Lists.{map_both}
use Rattle.std.specs.List.{list_all}
use Rattle.sn_core.specs.Events.{after_event, kept_from}
use Rattle.sn_core.specs.Needs.{first_need_that_fails}
use Rattle.sn_core.specs.declared.event.Event.TheVariants as event
use Rattle.sn_core.specs.declared.supply.Window.{Window}
use Rattle.sn_core.specs.declared.supply.Window.TheVariants.{Begun, Closed}
use Rattle.sn_engine_lockstep.specs.Known.{AreKnown}
use Rattle.sn_engine_lockstep.specs.Sources.{prefixes_in}
use Rattle.sn_engine.specs.Answers.{answers_of, window_of}
use Rattle.sn_engine.specs.Intakes.{emptied, has_ended}
use Rattle.sn_engine.specs.Keeping.{kept_for}
use Rattle.sn_engine.specs.declared.intake.Intake.{Intake}
use Rattle.sn_core_net.specs.PlanWorkings.{all_ended, workings_of}
use Rattle.sn_types.specs.declared.answers.Answers.{Answers}
use Rattle.sn_types.specs.declared.typed_query.TypedQuery.{TypedQuery}
use Rattle.sn_core_net.specs.declared.net.Net.{Net}
use Rattle.sn_core_net.specs.Facts.{are_named, are_own, names_of}
use Rattle.sn_core_net.specs.Nets.{last, state, works}
use Rattle.sn_core_net.specs.Reports.{window_number}
use Rattle.sn_core_net.specs.States.{last_of, lanes_of, state_of}
use Rattle.sn_core_net.proofs.Both.{Set}
use Rattle.sn_core_net.proofs.Changes.{close_changes, close_may}
use Rattle.sn_core_net.proofs.Closing.{have_ended, prefixes_same}
use Rattle.sn_core_net.proofs.Facts.{event_stands}
use Rattle.sn_core_net.proofs.net.Net.close_with.Goals as goal

emptied_twice : (xs : List Intake) → map emptied (map emptied xs) ≡ map emptied xs
emptied_twice xs = map_both emptied emptied xs

-- the lanes have ended the window
again : (net : Net) (number : ℕ) → net.window ≡ Begun number → first_need_that_fails (state net) event.CloseWindow ≡ None →
    all_ended number (map emptied net.engine.lanes.items) (map (λ lane. lane.taken) (lanes_of net.lanes.items net.engine.lanes.items)) ≡ net.engine.lanes.items
again net number is may =
    let xs : List Intake = net.engine.lanes.items in
    close_may net.engine.t.queries xs net.sources net.room net.lanes.items xs net.matched net.installs.items (last net) net.waiting net.held net.window number refl is may net.agreed

pub empty-requires : goal.empty-requires
empty-requires c =
    let net : Net = c.args.self.now in
    let xs : List Intake = net.engine.lanes.items in
    subst (λ (zs : List Intake). list_all (has_ended c.args.number) zs ≡ true) (again net c.args.number c.requires.begun c.requires.may)
    (have_ended c.args.number (map emptied xs) (map (λ lane. lane.taken) (lanes_of net.lanes.items xs)))

-- its prefixes are those of the window before
value_is : (net : Net) (number : ℕ) (answers : Answers) → net.window ≡ Begun number → first_need_that_fails (state net) event.CloseWindow ≡ None →
    answers ≡ answers_of net.engine.t.queries (kept_for net.engine.closed net.engine.kept (window_of net.engine.lanes.items)) net.engine.lanes.items → answers ≡ answers_of net.engine.t.queries (kept_from (last net) number) net.engine.lanes.items
value_is net number answers is may value =
    let xs : List Intake = net.engine.lanes.items in
    value
    ∙ subst (λ (zs : List Intake). answers_of net.engine.t.queries (kept_for net.engine.closed net.engine.kept (window_of zs)) zs ≡ answers_of net.engine.t.queries (kept_from (last net) number) zs) (again net number is may)
    (prefixes_same net.engine.t.queries net.engine.closed net.engine.kept number (map emptied xs) (map (λ lane. lane.taken) (lanes_of net.lanes.items xs)))

changed : (net : Net) (number : ℕ) (answers : Answers) (sets others : List Set) (ys : List Intake) (closed : Option ℕ) (kept : List Set) → net.window ≡ Begun number → first_need_that_fails (state net) event.CloseWindow ≡ None →
    answers ≡ answers_of net.engine.t.queries (kept_for net.engine.closed net.engine.kept (window_of net.engine.lanes.items)) net.engine.lanes.items →
    sets ≡ map (prefixes_in net.engine.t.queries answers.parts) net.sources → others ≡ map (prefixes_in net.engine.t.queries answers.parts) net.sources → ys ≡ map emptied net.engine.lanes.items → closed ≡ Some number → kept ≡ others →
    state_of net.room net.held (Closed number) net.lanes.items ys sets (last_of closed kept) (Some answers) ≡ after_event (works net) (state net) event.CloseWindow
changed net number answers sets others ys closed kept is may value installs also empty by own =
    let xs : List Intake = net.engine.lanes.items in
    ap (λ (l : Option (ℕ × List Set)). state_of net.room net.held (Closed number) net.lanes.items ys sets l (Some answers)) (ap₂ last_of by own)
    ∙ ap (λ (zs : List Intake). state_of net.room net.held (Closed number) net.lanes.items zs sets (Some (number, others)) (Some answers)) empty
    ∙ close_changes net.engine.t.queries xs net.sources net.room net.lanes.items xs net.matched net.installs.items (last net) net.waiting net.held net.window number answers sets others refl is may net.agreed
    (value_is net number answers is may value) installs also

pub invariant_of-self : goal.invariant_of-self
invariant_of-self c =
    let net : Net = c.args.self.now in
    let xs : List Intake = net.engine.lanes.items in
    let engine = c.empty.new.self in
    let ys : List Intake = engine.lanes.items in
    let gone : ys ≡ map emptied xs = c.empty.ensures.emptied in
    let empty : map emptied ys ≡ map emptied xs = ap (λ (zs : List Intake). map emptied zs) gone ∙ emptied_twice xs in
    record {
      matched = net.matched ∙ sym (ap (λ (zs : List Intake). length zs) gone ∙ length-map xs emptied);
      few = net.few;
      roomy = net.roomy;
      named = ap (are_named (names_of net.lanes.items)) empty ∙ net.named;
      unread = refl;
      own = sym (ap (λ (w : Window). are_own (window_number w) net.lanes.items) c.requires.begun) ∙ net.own;
      agreed = refl;
      marked = net.marked;
      known = subst (λ (qs : List TypedQuery). AreKnown qs net.sources) (sym c.empty.ensures.queries) net.known;
      standing = event_stands net.engine.t.queries engine.t.queries xs ys net.sources c.empty.ensures.queries empty (state net)
          (state_of net.room net.held (Closed c.args.number) net.lanes.items ys c.args.sets.items (last_of engine.closed engine.kept) (Some c.args.answers)) event.CloseWindow net.standing c.requires.may
          (changed net c.args.number c.args.answers c.args.sets.items c.args.kept ys engine.closed engine.kept c.requires.begun c.requires.may c.requires.answers c.requires.sets c.requires.kept gone c.empty.ensures.last c.empty.ensures.prefixes);
    }

pub returns-clause-state : goal.returns-clause-state
returns-clause-state c =
    let engine = c.empty.new.self in
    changed c.args.self.now c.args.number c.args.answers c.args.sets.items c.args.kept engine.lanes.items engine.closed engine.kept c.requires.begun c.requires.may c.requires.answers c.requires.sets c.requires.kept c.empty.ensures.emptied c.empty.ensures.last
    c.empty.ensures.prefixes

pub returns-clause-works : goal.returns-clause-works
returns-clause-works c =
    let net : Net = c.args.self.now in
    ap₂ (λ (qs : List TypedQuery) (es : List Intake). workings_of qs es net.sources) c.empty.ensures.queries (ap (λ (zs : List Intake). map emptied zs) c.empty.ensures.emptied ∙ emptied_twice net.engine.lanes.items)
