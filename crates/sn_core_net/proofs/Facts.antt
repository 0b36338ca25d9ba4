-- What holds of every net is kept by each call.
use Rattle.std.proofs.Common.{◌≡◌, ℕ, ◌||◌, List, [], ◌∷◌, map, length, Bool, true, false, is_none, is_some, nat_eq, Option, None, Some, refl, ap, sym, ◌∙◌, subst, arith}
use Rattle.std.specs.List.{AllByRecursion, list_all}
use Rattle.std.specs.Option.{option_map_or}
use Rattle.std.proofs.Math.Logic.{∥∥₁_map}
use Rattle.std.proofs.lemmas.Bool.{false≢true, eqb-true}
use Rattle.sn_core.specs.Due.{fresh}
use Rattle.sn_core.specs.Events.{after_event, given, window_from, without_answers}
use Rattle.sn_core.specs.Needs.{first_need_that_fails, is_begun_with, is_of, is_over}
use Rattle.sn_core.specs.Nets.{Lane}
use Rattle.sn_core.specs.Standing.{IsAtRest, IsNet, IsNoEarlier, Stands}
use Rattle.sn_core.specs.declared.event.Event.{Event}
use Rattle.sn_core.specs.declared.supply.Supply.{Supply}
use Rattle.sn_core.specs.declared.supply.Supply.TheVariants.{Numbered, End}
use Rattle.sn_core.specs.declared.supply.Window.{Window}
use Rattle.sn_core.specs.declared.supply.Window.TheVariants.{Idle, Begun, Closed}
use Rattle.sn_core.proofs.StandingKept.{event_keeps_net, give_keeps_net, take_keeps_net}
use Rattle.sn_core.proofs.Tests.{all_same, not_less}
use Rattle.sn_engine_lockstep.specs.declared.source.Source.{Source}
use Rattle.sn_engine.specs.Intakes.{agrees, emptied}
use Rattle.sn_engine.specs.declared.intake.Intake.{Intake}
use Rattle.sn_core_net.proofs.Lawful.{lawful_of}
use Rattle.sn_core_net.specs.PlanWorkings.{workings_of}
use Rattle.sn_pipe.specs.Pipes.{PipeState}
use Rattle.sn_report.specs.Items.{Frame as Report}
use Rattle.sn_report.specs.Items.{Item}
use Rattle.sn_types.specs.declared.typed_query.TypedQuery.{TypedQuery}
use Rattle.sn_core_net.specs.declared.holder.Holder.{Holder}
use Rattle.sn_core_net.specs.Facts.{are_own, ends_agree, may_be_read}
use Rattle.sn_core_net.specs.Reports.{frame_of, is_own, window_number}
use Rattle.sn_core_net.specs.States.{State, Works, lanes_of, works_of}
use Rattle.sn_base.proofs.Lists.{and_both, or_right}

-- ---- the state stands

module _ (queries others : List TypedQuery) (xs ys : List Intake) (sources : List Source) (same : others ≡ queries) (empty : map emptied ys ≡ map emptied xs) where
  moved : (after : State) → IsNet (works_of queries xs sources) after → IsNet (works_of others ys sources) after
  moved after h =
      subst (λ (es : List Intake). IsNet (workings_of others es sources) after) (sym empty)
      (subst (λ (qs : List TypedQuery). IsNet (workings_of qs (map emptied xs) sources) after) (sym same) h)

  pub event_stands : (before after : State) (event : Event) → ∥ IsNet (works_of queries xs sources) before ∥₁ → first_need_that_fails before event ≡ None → after ≡ after_event (works_of queries xs sources) before event →
      ∥ IsNet (works_of others ys sources) after ∥₁
  event_stands before after event h may is =
      ∥∥₁_map h (λ net. moved after (subst (IsNet (works_of queries xs sources)) (sym is) (event_keeps_net (works_of queries xs sources) (lawful_of queries (map emptied xs) sources) before event net may)))

  -- nothing has changed
  pub same_stands : (at : List Intake → State) → ys ≡ xs → ∥ IsNet (works_of queries xs sources) (at xs) ∥₁ → ∥ IsNet (works_of others ys sources) (at ys) ∥₁
  same_stands at is h = subst (λ (zs : List Intake). ∥ IsNet (works_of others ys sources) (at zs) ∥₁) (sym is) (∥∥₁_map h (moved (at xs)))

none_held : {Tuple : Type 0} (o : Option (Supply Tuple)) → is_none o ≡ true → o ≡ None
none_held None e = refl
none_held (Some s) e = absurd (false≢true e)

module _ (queries : List TypedQuery) (xs : List Intake) (sources : List Source) where
  pub give_stands : (before : State) (supply : Supply (List ℕ)) → ∥ IsNet (works_of queries xs sources) before ∥₁ → is_none before.held ≡ true → IsNoEarlier supply before.window → ∥ IsNet (works_of queries xs sources) (given before supply) ∥₁
  give_stands before supply h none fit = ∥∥₁_map h (λ net. give_keeps_net (works_of queries xs sources) (lawful_of queries (map emptied xs) sources) before supply net (none_held before.held none) fit)

  pub take_stands : (before : State) → ∥ IsNet (works_of queries xs sources) before ∥₁ → ∥ IsNet (works_of queries xs sources) (without_answers before) ∥₁
  take_stands before h = ∥∥₁_map h (take_keeps_net (works_of queries xs sources) (lawful_of queries (map emptied xs) sources) before)

-- ---- the engine's lanes have ended no other window

none_agrees : (n : ℕ) (o : Option ℕ) → is_some o ≡ false → option_map_or (λ end. nat_eq end n) o true ≡ true
none_agrees n None e = refl
none_agrees n (Some end) e = absurd (false≢true (sym e))

open_agree : (n : ℕ) (hs : List Holder) (xs : List Intake) → length hs ≡ length xs → AllByRecursion (λ lane. lane.closed ≡ false) (lanes_of hs xs) → list_all (agrees n) xs ≡ true
open_agree n [] [] e opens = refl
open_agree n [] (x ∷ xs) e opens = absurd (omega (arith, e))
open_agree n (h ∷ hs) [] e opens = absurd (omega (arith, e))
open_agree n (h ∷ hs) (x ∷ xs) e opens = and_both (agrees n x) (list_all (agrees n) xs) (none_agrees n x.end opens.0) (open_agree n hs xs (omega (arith, e)) opens.1)

module _ (w : Works) (hs : List Holder) (xs : List Intake) (matched : length hs ≡ length xs) where
  open_ends : (window : Window) → AllByRecursion (λ lane. lane.closed ≡ false) (lanes_of hs xs) → ends_agree window xs ≡ true
  open_ends Idle opens = refl
  open_ends (Begun n) opens = open_agree n hs xs matched opens
  open_ends (Closed n) opens = refl

  pub closed_ends : (held : Option (Supply (List ℕ))) (window next : Window) (closed : ℕ) → window ≡ Closed closed → Stands w held (lanes_of hs xs) window → ends_agree next xs ≡ true
  closed_ends held window next closed is stands =
      let rest : AllByRecursion IsAtRest (lanes_of hs xs) = (subst (Stands w held (lanes_of hs xs)) is stands).1 in
      open_ends next (all_same IsAtRest (λ (lane : Lane PipeState Item). lane.closed ≡ false) (λ lane h. h.closed) (lanes_of hs xs) rest)

  pub given_ends : (held : Option (Supply (List ℕ))) (window : Window) (supply : Supply (List ℕ)) → Stands w held (lanes_of hs xs) window → ends_agree window xs ≡ true → ends_agree (window_from window supply) xs ≡ true
  given_ends held Idle End stands agreed = refl
  given_ends held Idle (Numbered n tuple) stands agreed =
      open_agree n hs xs matched (all_same (λ (lane : Lane PipeState Item). fresh w w.nothing lane ≡ lane) (λ (lane : Lane PipeState Item). lane.closed ≡ false) (λ lane e. sym (ap (λ (x : Lane PipeState Item). x.closed) e)) (lanes_of hs xs) stands.1)
  given_ends held (Begun n) supply stands agreed = agreed
  given_ends held (Closed n) supply stands agreed = refl

-- ---- each frame is one of its lane's own in this window

no_frames : (frames : List Report) → map frame_of frames ≡ [] → frames ≡ []
no_frames [] e = refl
no_frames (frame ∷ frames) e = cc

empty_own : (n : ℕ) (hs : List Holder) (xs : List Intake) → length hs ≡ length xs → AllByRecursion (λ lane. lane.ring ≡ []) (lanes_of hs xs) → are_own n hs ≡ true
empty_own n [] xs e empty = refl
empty_own n (h ∷ hs) [] e empty = absurd (omega (arith, e))
empty_own n (h ∷ hs) (x ∷ xs) e empty = and_both (list_all (is_own h.sender.lane n) h.ring.items) (are_own n hs) (ap (list_all (is_own h.sender.lane n)) (no_frames h.ring.items empty.0)) (empty_own n hs xs (omega (arith, e)) empty.1)

module _ (w : Works) (hs : List Holder) (xs : List Intake) (matched : length hs ≡ length xs) where
  pub closed_own : (held : Option (Supply (List ℕ))) (window : Window) (n closed : ℕ) → window ≡ Closed closed → Stands w held (lanes_of hs xs) window → are_own n hs ≡ true
  closed_own held window n closed is stands =
      let rest : AllByRecursion IsAtRest (lanes_of hs xs) = (subst (Stands w held (lanes_of hs xs)) is stands).1 in
      empty_own n hs xs matched (all_same IsAtRest (λ (lane : Lane PipeState Item). lane.ring ≡ []) (λ lane h. h.ring) (lanes_of hs xs) rest)

  pub given_own : (held : Option (Supply (List ℕ))) (window : Window) (supply : Supply (List ℕ)) → Stands w held (lanes_of hs xs) window → are_own (window_number window) hs ≡ true → are_own (window_number (window_from window supply)) hs ≡ true
  given_own held Idle End stands own = own
  given_own held Idle (Numbered n tuple) stands own =
      empty_own n hs xs matched (all_same (λ (lane : Lane PipeState Item). fresh w w.nothing lane ≡ lane) (λ (lane : Lane PipeState Item). lane.ring ≡ []) (λ lane e. sym (ap (λ (x : Lane PipeState Item). x.ring) e)) (lanes_of hs xs) stands.1)
  given_own held (Begun n) supply stands own = own
  given_own held (Closed n) supply stands own = own

-- ---- no lane was read out

pub packet_unread : (window : Window) (held : Option (Supply (List ℕ))) (b : Bool) → is_begun_with (λ number. is_of number held) window ≡ true → (may_be_read window held || b) ≡ true → b ≡ true
packet_unread Idle held b of_it unread = absurd (false≢true of_it)
packet_unread (Closed n) held b of_it unread = absurd (false≢true of_it)
packet_unread (Begun n) None b of_it unread = absurd (false≢true of_it)
packet_unread (Begun n) (Some End) b of_it unread = absurd (false≢true of_it)
packet_unread (Begun n) (Some (Numbered m tuple)) b of_it unread =
    let same = eqb-true m n of_it in
    sym (ap (λ a. a || b) (not_less n m (omega (arith, same)))) ∙ unread

pub given_unread : (window : Window) (held : Option (Supply (List ℕ))) (supply : Supply (List ℕ)) (b : Bool) → is_none held ≡ true → (may_be_read window held || b) ≡ true → (may_be_read (window_from window supply) (Some supply) || b) ≡ true
given_unread window (Some s) supply b none unread = absurd (false≢true none)
given_unread Idle None supply b none unread = or_right (may_be_read (window_from Idle supply) (Some supply)) b unread
given_unread (Begun n) None supply b none unread = or_right (is_over n (Some supply)) b unread
given_unread (Closed n) None supply b none unread = refl

-- once a lane may be read out, none need be unread
pub late_unread : (window : Window) (held : Option (Supply (List ℕ))) (b : Bool) → is_begun_with (λ number. is_over number held) window ≡ true → (may_be_read window held || b) ≡ true
late_unread Idle held b over = absurd (false≢true over)
late_unread (Begun n) held b over = ap (λ a. a || b) over
late_unread (Closed n) held b over = refl
