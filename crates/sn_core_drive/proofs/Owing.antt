-- What is due over the turns of a driver.
use Rattle.std.proofs.Common.{◌≡◌, ℕ, suc, ◌<◌, ◌||◌, List, [], ◌∷◌, length, Bool, true, false, not, is_none, slice_get, zero, IsSome, Option, None, ap, sym, ◌∙◌, subst, arith, inl, inr}
use Rattle.std.specs.Option.{option_map_or}
use Rattle.std.proofs.lemmas.Bool.{false≢true}
use Rattle.sn_base.proofs.Lists.{or_none, none_is}
use Rattle.sn_core.proofs.Falls.{step_works}
use Rattle.sn_core.proofs.GoesOn.{can_go_on}
use Rattle.sn_core.proofs.StandingKept.{event_keeps_net, give_keeps_net, take_keeps_net}
use Rattle.sn_core.proofs.Tests.{need_holds}
use Rattle.sn_core.specs.Debt.{CanGoOn, work}
use Rattle.sn_core.specs.Events.{after_event, given, without_answers}
use Rattle.sn_core.specs.Needs.{first_need_that_fails, has_room, is_begun_with, is_done, is_empty, is_over, needs, passes, wants}
use Rattle.sn_core.specs.Standing.{IsNet, IsNoEarlier}
use Rattle.sn_core.specs.Workings.{AreLawful}
use Rattle.sn_core.specs.declared.event.Event.{Event}
use Rattle.sn_core.specs.declared.event.Event.TheVariants.{Packet, ReadOut, Deliver, CloseWindow, Install}
use Rattle.sn_core.specs.declared.event.Why.TheVariants.{Empty, Ended, Full, NotReading}
use Rattle.sn_core.specs.declared.supply.Supply.{Supply}
use Rattle.sn_core_net.specs.States.{State, Works}
use Rattle.sn_core_net.specs.Steps.{IsOneOf}
use Rattle.sn_types.specs.declared.answers.Answers.{Answers}

-- ---- a turn

pub turn_net : (w : Works) (law : AreLawful w) (s one two : State) (event : Event) → IsNet w s → first_need_that_fails s event ≡ None → one ≡ after_event w s event → two ≡ without_answers one → IsNet w two
turn_net w law s one two event net may happened taken =
    subst (IsNet w) (sym taken) (take_keeps_net w law one (subst (IsNet w) (sym happened) (event_keeps_net w law s event net may)))

pub turn_work : (w : Works) (law : AreLawful w) (s one two : State) (event : Event) → IsNet w s → first_need_that_fails s event ≡ None → one ≡ after_event w s event → two ≡ without_answers one → work w two [] < work w s []
turn_work w law s one two event net may happened taken =
    let same : work w two [] ≡ work w (after_event w s event) [] = ap (λ (x : State). work w x []) taken ∙ ap (λ (x : State). work w (without_answers x) []) happened in
    omega (arith, same, step_works w law s event [] net may)

-- ---- an event may happen

passes_within : {X : Type 0} (test : X → Bool) (xs : List X) (n : ℕ) → option_map_or test (slice_get xs n) false ≡ true → n < length xs
passes_within test [] n e = absurd (false≢true e)
passes_within test (x ∷ xs) zero e = omega arith
passes_within test (x ∷ xs) (suc n) e = let rest = passes_within test xs n e in omega (arith, rest)

-- what may happen names a lane that there is
may_within : (s : State) (event : Event) → first_need_that_fails s event ≡ None → IsOneOf (length s.lanes) event
may_within s Packet may = tt
may_within s (ReadOut lane) may =
    let full = needs (passes (has_room s.room) s.lanes lane) (Full lane) None in
    let reading = need_holds (is_begun_with (λ number. is_over number s.held) s.window) NotReading (needs (passes (λ x. not x.ended) s.lanes lane) (Ended lane) full) may in
    let running = need_holds (passes (λ x. not x.ended) s.lanes lane) (Ended lane) full reading.1 in
    passes_within (λ x. not x.ended) s.lanes lane running.0
may_within s (Deliver lane) may = passes_within (λ x. not (is_empty x)) s.lanes lane (need_holds (passes (λ x. not (is_empty x)) s.lanes lane) (Empty lane) None may).0
may_within s CloseWindow may = tt
may_within s Install may = tt

-- where no event may happen, a machine that stands still wants a supply or is done
pub goes_on : {G : Type 0} (w : Works) (law : AreLawful w) (s : State) → IsNet w s → (wants s || is_done s) ≡ false → s.waiting ≡ None → ((event : Event) → IsOneOf (length s.lanes) event → is_none (first_need_that_fails s event) ≡ false) → G
goes_on {G} w law s net going taken none = by (can_go_on w s net parts.1)
  where
    parts : (wants s ≡ false) × (is_done s ≡ false)
    parts = or_none (wants s) (is_done s) going

    by : CanGoOn s → G
    by (inl held) = absurd (false≢true (sym parts.0 ∙ ap is_none held))
    by (inr (inl waits)) = absurd (false≢true (subst (λ (o : Option Answers). IsSome o) taken waits))
    by (inr (inr found)) = absurd (false≢true (sym (none found.0 (may_within s found.0 found.1)) ∙ ap is_none found.1))

-- ---- supplies

pub same_work : (w v : Works) (s t : State) → w ≡ v → work v t [] < work v s [] → work w t [] < work v s []
same_work w v s t works h = subst (λ (x : Works). work x t [] < work v s []) (sym works) h

pub given_net : (w v : Works) (law : AreLawful w) (s one : State) (next : Supply (List ℕ)) → v ≡ w → one ≡ given s next → IsNet w s → wants s ≡ true → IsNoEarlier next s.window → IsNet v one
given_net w v law s one next works is net want rises =
    subst (λ (x : Works). IsNet x one) (sym works) (subst (IsNet w) (sym is) (give_keeps_net w law s next net (none_is s.held want) rises))
