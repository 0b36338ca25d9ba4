-- All events, and those that may happen.
use Rattle.std.proofs.Common.{◌≡◌, ℕ, zero, suc, ◌+◌, ◌*◌, ◌<◌, ◌≤◌, List, [], ◌∷◌, ◌++◌, filter, map, length, slice_get, Bool, true, false, cond, Some, refl, ap, sym, ◌∙◌, arith}
use Rattle.std.specs.List.{AllByRecursion, range_with_len}
use Rattle.std.proofs.lemmas.List.FromFn.{length-map-range_with_len}
use Rattle.sn_base.proofs.Lists.{none_some, some_same, all_append}
use Rattle.sn_core.specs.declared.event.Event.{Event}
use Rattle.sn_core.specs.declared.event.Event.TheVariants.{Packet, ReadOut, Deliver, CloseWindow, Install}
use Rattle.sn_engine_lockstep.proofs.Changes.{all_get}
use Rattle.sn_engine_lockstep.proofs.Finding.{get_after, get_front}
use Rattle.sn_core_net.specs.States.{State}
use Rattle.sn_core_net.specs.Steps.{IsOneOf}
use Rattle.sn_core_drive.specs.Schedules.{enabled_events, events_of, may_happen}

-- ---- places

get_range : {X : Type 0} (f : ℕ → X) (a n i : ℕ) → i < n → slice_get (map f (range_with_len a n)) i ≡ Some (f (a + i))
get_range f a zero i lt = absurd (omega (arith, lt))
get_range f a (suc n) zero lt = ap (λ m. Some (f m)) (none a)
  where
    none : (m : ℕ) → m ≡ m + 0
    none m = omega arith
get_range f a (suc n) (suc i) lt = get_range f (a + 1) n i (omega (arith, lt)) ∙ ap (λ m. Some (f m)) next
  where
    next : a + 1 + i ≡ a + suc i
    next = omega arith

module _ (lanes : ℕ) where
  abbrev reads : List Event
  reads = map ReadOut (range_with_len 0 lanes)

  abbrev delivers : List Event
  delivers = map Deliver (range_with_len 0 lanes)

  abbrev lasts : List Event
  lasts = CloseWindow ∷ Install ∷ []

  many_reads : length reads ≡ lanes
  many_reads = length-map-range_with_len ReadOut 0 lanes

  many_delivers : length delivers ≡ lanes
  many_delivers = length-map-range_with_len Deliver 0 lanes

  read_here : (k : ℕ) → k < lanes → slice_get reads k ≡ Some (ReadOut k)
  read_here k lt = get_range ReadOut 0 lanes k lt ∙ ap (λ m. Some (ReadOut m)) same
    where
      same : 0 + k ≡ k
      same = omega arith

  deliver_here : (k : ℕ) → k < lanes → slice_get delivers k ≡ Some (Deliver k)
  deliver_here k lt = get_range Deliver 0 lanes k lt ∙ ap (λ m. Some (Deliver m)) same
    where
      same : 0 + k ≡ k
      same = omega arith

  -- after the packet
  afterwards : (j : ℕ) (e : Event) → slice_get (reads ++ (delivers ++ lasts)) j ≡ Some e → (i : ℕ) → i ≡ suc j → slice_get (events_of lanes) i ≡ Some e
  afterwards j e h i is = ap (slice_get (events_of lanes)) is ∙ h

  read_at : (i k : ℕ) → k < lanes → i ≡ suc k → slice_get (events_of lanes) i ≡ Some (ReadOut k)
  read_at i k lt is = afterwards k (ReadOut k) (get_front reads (delivers ++ lasts) k (ReadOut k) (read_here k lt)) i is

  deliver_at : (i k : ℕ) → k < lanes → i ≡ suc (lanes + k) → slice_get (events_of lanes) i ≡ Some (Deliver k)
  deliver_at i k lt is =
      afterwards (length reads + k) (Deliver k) (get_after reads (delivers ++ lasts) k (Deliver k) (get_front delivers lasts k (Deliver k) (deliver_here k lt))) i (omega (arith, is, many_reads))

  last_at : (i k : ℕ) (e : Event) → slice_get lasts k ≡ Some e → i ≡ suc (2 * lanes + k) → slice_get (events_of lanes) i ≡ Some e
  last_at i k e h is =
      afterwards (length reads + (length delivers + k)) e (get_after reads (delivers ++ lasts) (length delivers + k) e (get_after delivers lasts k e h)) i (omega (arith, is, many_reads, many_delivers))

  close_at : (i : ℕ) → i ≡ 2 * lanes + 1 → slice_get (events_of lanes) i ≡ Some CloseWindow
  close_at i is = last_at i 0 CloseWindow refl (omega (arith, is))

  install_at : (i : ℕ) → i ≡ 2 * lanes + 2 → slice_get (events_of lanes) i ≡ Some Install
  install_at i is = last_at i 1 Install refl (omega (arith, is))

  -- each event has a place
  record Place (e : Event) : Type 0 where
    at : ℕ
    is : slice_get (events_of lanes) at ≡ Some e

  place_of : (e : Event) → IsOneOf lanes e → Place e
  place_of Packet h = record { at = 0; is = refl }
  place_of (ReadOut k) h = record { at = suc k; is = read_at (suc k) k h refl }
  place_of (Deliver k) h = record { at = suc (lanes + k); is = deliver_at (suc (lanes + k)) k h refl }
  place_of CloseWindow h = record { at = 2 * lanes + 1; is = close_at (2 * lanes + 1) refl }
  place_of Install h = record { at = 2 * lanes + 2; is = install_at (2 * lanes + 2) refl }

all_range : {X : Type 0} (P : X → Type 0) (f : ℕ → X) (top a n : ℕ) → ((k : ℕ) → k < top → P (f k)) → a + n ≤ top → AllByRecursion P (map f (range_with_len a n))
all_range P f top a zero each le = tt
all_range P f top a (suc n) each le = (each a (omega (arith, le)), all_range P f top (a + 1) n each (omega (arith, le)))

events_known : (lanes : ℕ) → AllByRecursion (IsOneOf lanes) (events_of lanes)
events_known lanes = (
  tt,
  all_append (IsOneOf lanes) (map ReadOut (range_with_len 0 lanes)) (map Deliver (range_with_len 0 lanes) ++ (CloseWindow ∷ Install ∷ [])) (all_range (IsOneOf lanes) ReadOut lanes 0 lanes (λ k lt. lt) (omega arith))
      (all_append (IsOneOf lanes) (map Deliver (range_with_len 0 lanes)) (CloseWindow ∷ Install ∷ []) (all_range (IsOneOf lanes) Deliver lanes 0 lanes (λ k lt. lt) (omega arith)) (tt, (tt, tt))),
)

-- ---- those that pass a test

module _ {X : Type 0} (p : X → Bool) where
  -- what is found passes
  passes_if : (x : X) (xs : List X) (k : ℕ) (y : X) (b : Bool) → p x ≡ b → ((n : ℕ) → slice_get (filter p xs) n ≡ Some y → p y ≡ true) → slice_get (cond b (x ∷ filter p xs) (filter p xs)) k ≡ Some y → p y ≡ true
  passes_if x xs zero y true is rest e = ap p (sym (some_same x y e)) ∙ is
  passes_if x xs (suc k) y true is rest e = rest k e
  passes_if x xs k y false is rest e = rest k e

  pub got_passes : (xs : List X) (k : ℕ) (y : X) → slice_get (filter p xs) k ≡ Some y → p y ≡ true
  got_passes [] k y e = absurd (none_some e)
  got_passes (x ∷ xs) k y e = passes_if x xs k y (p x) refl (λ n f. got_passes xs n y f) e

  all_if : (P : X → Type 0) (x : X) (xs : List X) (b : Bool) → P x → AllByRecursion P (filter p xs) → AllByRecursion P (cond b (x ∷ filter p xs) (filter p xs))
  all_if P x xs true h rest = (h, rest)
  all_if P x xs false h rest = rest

  all_filtered : (P : X → Type 0) (xs : List X) → AllByRecursion P xs → AllByRecursion P (filter p xs)
  all_filtered P [] h = tt
  all_filtered P (x ∷ xs) h = all_if P x xs (p x) h.0 (all_filtered P xs h.1)

  -- where none passes, each fails
  none_if : (x : X) (xs : List X) (b : Bool) → p x ≡ b → length (cond b (x ∷ filter p xs) (filter p xs)) ≡ 0 → (p x ≡ false) × (length (filter p xs) ≡ 0)
  none_if x xs true is e = absurd (omega (arith, e))
  none_if x xs false is e = (is, e)

  all_fail : (xs : List X) → length (filter p xs) ≡ 0 → AllByRecursion (λ x. p x ≡ false) xs
  all_fail [] e = tt
  all_fail (x ∷ xs) e = let parts = none_if x xs (p x) refl e in (parts.0, all_fail xs parts.1)

pub got_known : (s : State) (k : ℕ) (event : Event) → slice_get (enabled_events s) k ≡ Some event → IsOneOf (length s.lanes) event
got_known s k event e =
    all_get (IsOneOf (length s.lanes)) (enabled_events s) k event (all_filtered (may_happen s) (IsOneOf (length s.lanes)) (events_of (length s.lanes)) (events_known (length s.lanes))) e

pub none_enabled : (s : State) → length (enabled_events s) ≡ 0 → (event : Event) → IsOneOf (length s.lanes) event → may_happen s event ≡ false
none_enabled s e event known =
    let place = place_of (length s.lanes) event known in
    all_get (λ x. may_happen s x ≡ false) (events_of (length s.lanes)) place.at event (all_fail (may_happen s) (events_of (length s.lanes)) e) place.is
