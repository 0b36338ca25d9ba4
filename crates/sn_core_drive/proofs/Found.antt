-- What was found of the events that may happen is all of them.
use Rattle.std.proofs.Common.{◌≡◌, ℕ, zero, suc, ◌+◌, ◌-◌, ◌^◌, ◌<◌, ◌≤◌, ◌==◌, List, [], ◌∷◌, ◌++◌, filter, map, length, slice_get, Bool, true, false, not, cond, is_none, Option, Some, refl, ap, ap₂, sym, subst, ◌∙◌, arith}
use Rattle.std.specs.Int.{bit_at}
use Rattle.std.specs.List.{range_with_len}
use Rattle.std.specs.Option.{option_map, option_map_or}
use Rattle.std.proofs.lemmas.Bool.{false≢true}
use Rattle.std.proofs.lemmas.List.{length-append, length-map}
use Rattle.std.proofs.lemmas.List.Elements.{filter-append}
use Rattle.std.proofs.lemmas.Nat.Bits.{bit_at_above}
use Rattle.std.proofs.lemmas.Option.{slice_get_past}
use Rattle.sn_core.specs.Needs.{needs, is_empty}
use Rattle.sn_core.specs.declared.event.Event.{Event}
use Rattle.sn_core.specs.declared.event.Event.TheVariants.{Packet, ReadOut, Deliver, CloseWindow, Install}
use Rattle.sn_core.specs.declared.event.Why.{Why}
use Rattle.sn_core_net.specs.Marks.{bit_of}
use Rattle.sn_core_net.specs.States.{State}
use Rattle.sn_core_drive.specs.Schedules.{enabled_events, may_happen}
use Rattle.sn_core_drive.specs.Picking.{AreFound, events_found, lanes_found, lasts_found, deliveries_found, marked, marked_from, only_if}
use Rattle.sn_core_drive.specs.declared.picking.Enabled.{Enabled}
use Rattle.sn_core_drive.proofs.BitLemmas.{is_marked, same_passing}

-- ---- of the lanes

bit_tests : (b : Bool) → (bit_of b == 1) ≡ b
bit_tests true = refl
bit_tests false = refl

mapped : (b : Bool) (f : ℕ → Event) (x : ℕ) (xs : List ℕ) → cond b (f x ∷ map f xs) (map f xs) ≡ map f (cond b (x ∷ xs) xs)
mapped true f x xs = refl
mapped false f x xs = refl

passing_lanes : (may : Event → Bool) (f : ℕ → Event) (t : ℕ → Bool) (a n : ℕ) → ((k : ℕ) → may (f k) ≡ t k) → filter may (map f (range_with_len a n)) ≡ map f (filter t (range_with_len a n))
passing_lanes may f t a zero is = refl
passing_lanes may f t a (suc n) is =
    ap₂ (λ b xs. cond b (f a ∷ xs) xs) (is a) (passing_lanes may f t (a + 1) n is) ∙ mapped (t a) f a (filter t (range_with_len (a + 1) n))

lanes_are : (may : Event → Bool) (f : ℕ → Event) (word lanes : ℕ) → word < 2 ^ 64 → ((k : ℕ) → bit_at word k ≡ bit_of (may (f k))) → ((k : ℕ) → lanes ≤ k → may (f k) ≡ false) →
    filter may (map f (range_with_len 0 lanes)) ≡ map f (marked word)
unfolding marked_from
lanes_are may f word lanes whole bits none =
    let tests : (k : ℕ) → may (f k) ≡ is_marked word k = λ k. sym (ap (λ n. n == 1) (bits k) ∙ bit_tests (may (f k))) in
    passing_lanes may f (is_marked word) 0 lanes tests
    ∙ ap (λ (xs : List ℕ). map f xs) (same_passing (is_marked word) lanes 64 (λ k past. sym (tests k) ∙ none k past) (λ k past. ap (λ n. n == 1) (bit_at_above word 64 k whole past)))

-- ---- lanes that there aren't

fails : (b : Bool) (why : Why) (others : Option Why) → b ≡ false → is_none (needs b why others) ≡ false
fails true why others e = absurd (false≢true (sym e))
fails false why others e = refl

fails_too : (b : Bool) (why : Why) (others : Option Why) → is_none others ≡ false → is_none (needs b why others) ≡ false
fails_too true why others e = e
fails_too false why others e = refl

module _ (s : State) (lane : ℕ) (past : length s.lanes ≤ lane) where
  no_read_out : may_happen s (ReadOut lane) ≡ false
  no_read_out = fails_too _ _ _ (fails _ _ _ (ap (λ o. option_map_or (λ x. not x.ended) o false) (slice_get_past s.lanes lane past)))

  no_delivery : may_happen s (Deliver lane) ≡ false
  no_delivery = fails _ _ _ (ap (λ o. option_map_or (λ x. not (is_empty x)) o false) (slice_get_past s.lanes lane past))

-- ---- all of them

first_if : (b : Bool) (event : Event) (events : List Event) → cond b (event ∷ events) events ≡ only_if b event ++ events
first_if true event events = refl
first_if false event events = refl

pub all_found : (s : State) (x : Enabled) → AreFound s x → enabled_events s ≡ events_found x
all_found s x h =
    let may : Event → Bool = may_happen s in
    let reads : List Event = map ReadOut (range_with_len 0 (length s.lanes)) in
    let delivers : List Event = map Deliver (range_with_len 0 (length s.lanes)) in
    let lasts : List Event = CloseWindow ∷ Install ∷ [] in
    let lasts_are : filter may lasts ≡ lasts_found x =
    first_if (may CloseWindow) CloseWindow (filter may (Install ∷ [])) ∙ ap₂ (λ a b. only_if a CloseWindow ++ only_if b Install) (sym h.close) (sym h.install) in
    let deliveries_are : filter may (delivers ++ lasts) ≡ deliveries_found x =
    filter-append may delivers lasts ∙ ap₂ (λ (xs ys : List Event). xs ++ ys) (lanes_are may Deliver x.deliveries (length s.lanes) h.few_deliveries h.deliveries (no_delivery s)) lasts_are in
    let read_outs_are : filter may (reads ++ (delivers ++ lasts)) ≡ lanes_found x =
    filter-append may reads (delivers ++ lasts) ∙ ap₂ (λ (xs ys : List Event). xs ++ ys) (lanes_are may ReadOut x.read_outs (length s.lanes) h.few_read_outs h.read_outs (no_read_out s)) deliveries_are in
    first_if (may Packet) Packet (filter may (reads ++ (delivers ++ lasts))) ∙ ap₂ (λ b (xs : List Event). only_if b Packet ++ xs) (sym h.packet) read_outs_are

-- ---- how many there are

only_one : (b : Bool) (event : Event) → length (only_if b event) ≡ bit_of b
only_one true event = refl
only_one false event = refl

module _ (x : Enabled) where
  pub long_lasts : length (lasts_found x) ≡ bit_of x.close + bit_of x.install
  long_lasts = omega (arith, length-append (only_if x.close CloseWindow) (only_if x.install Install), only_one x.close CloseWindow, only_one x.install Install)

  pub long_deliveries : length (deliveries_found x) ≡ length (marked x.deliveries) + length (lasts_found x)
  long_deliveries = omega (arith, length-append (map Deliver (marked x.deliveries)) (lasts_found x), length-map (marked x.deliveries) Deliver)

  pub long_lanes : length (lanes_found x) ≡ length (marked x.read_outs) + length (deliveries_found x)
  long_lanes = omega (arith, length-append (map ReadOut (marked x.read_outs)) (deliveries_found x), length-map (marked x.read_outs) ReadOut)

  pub long_events : length (events_found x) ≡ bit_of x.packet + length (lanes_found x)
  long_events = omega (arith, length-append (only_if x.packet Packet) (lanes_found x), only_one x.packet Packet)

-- ---- the one of a number

in_front : {X : Type 0} (xs ys : List X) (n : ℕ) (x : X) → slice_get xs n ≡ Some x → slice_get (xs ++ ys) n ≡ Some x
in_front [] ys n x e = cc
in_front (y ∷ xs) ys zero x e = e
in_front (y ∷ xs) ys (suc n) x e = in_front xs ys n x e

in_back : {X : Type 0} (xs ys : List X) (n : ℕ) (x : X) → length xs ≤ n → slice_get ys (n - length xs) ≡ Some x → slice_get (xs ++ ys) n ≡ Some x
in_back [] ys n x low e = let same : n ≡ n - 0 = omega arith in ap (slice_get ys) same ∙ e
in_back (y ∷ xs) ys zero x low e = absurd (omega (arith, low))
in_back (y ∷ xs) ys (suc n) x low e =
    let same : n - length xs ≡ suc n - suc (length xs) = omega arith in
    in_back xs ys n x (omega (arith, low)) (ap (slice_get ys) same ∙ e)

got_mapped : (f : ℕ → Event) (xs : List ℕ) (n x : ℕ) → slice_get xs n ≡ Some x → slice_get (map f xs) n ≡ Some (f x)
got_mapped f [] n x e = cc
got_mapped f (y ∷ xs) zero x e = ap (option_map f) e
got_mapped f (y ∷ xs) (suc n) x e = got_mapped f xs n x e

-- of lanes, and what comes after them
pub among_lanes : (f : ℕ → Event) (places : List ℕ) (after : List Event) (n place : ℕ) → slice_get places n ≡ Some place → slice_get (map f places ++ after) n ≡ Some (f place)
among_lanes f places after n place e = in_front (map f places) after n (f place) (got_mapped f places n place e)

pub after_lanes : (f : ℕ → Event) (places : List ℕ) (after : List Event) (n count : ℕ) (event : Event) → count ≡ length places → count ≤ n → slice_get after (n - count) ≡ Some event → slice_get (map f places ++ after) n ≡ Some event
after_lanes f places after n count event is low e =
    let long : length (map f places) ≡ count = length-map places f ∙ sym is in
    let same : n - length (map f places) ≡ n - count = omega (arith, long) in
    in_back (map f places) after n event (omega (arith, long, low)) (ap (slice_get after) same ∙ e)

pub no_more : (b : Bool) → not b ≡ true → b ≡ false
no_more true e = sym e
no_more false e = refl

alone : (b : Bool) (event : Event) (n : ℕ) → n < length (only_if b event) → slice_get (only_if b event) n ≡ Some event
alone true event zero less = refl
alone true event (suc n) less = absurd (omega (arith, less))
alone false event n less = absurd (omega (arith, less))

second : (b : Bool) (first event : Event) (n : ℕ) → 0 < n → n < length (first ∷ only_if b event) → slice_get (first ∷ only_if b event) n ≡ Some event
second b first event zero some less = absurd (omega (arith, some))
second b first event (suc n) some less = alone b event n (omega (arith, less))

module _ (x : Enabled) (n : ℕ) where
  pub install_alone : x.close ≡ false → n < length (lasts_found x) → slice_get (lasts_found x) n ≡ Some Install
  install_alone none less =
      subst (λ b. n < length (only_if b CloseWindow ++ only_if x.install Install) → slice_get (only_if b CloseWindow ++ only_if x.install Install) n ≡ Some Install) (sym none) (alone x.install Install n) less

  pub close_first : x.close ≡ true → n ≡ 0 → slice_get (lasts_found x) n ≡ Some CloseWindow
  close_first some first = ap₂ (λ b m. slice_get (only_if b CloseWindow ++ only_if x.install Install) m) some first

  pub install_second : x.close ≡ true → 0 < n → n < length (lasts_found x) → slice_get (lasts_found x) n ≡ Some Install
  install_second some more less =
      subst (λ b. n < length (only_if b CloseWindow ++ only_if x.install Install) → slice_get (only_if b CloseWindow ++ only_if x.install Install) n ≡ Some Install) (sym some) (second x.install CloseWindow Install n more) less

  pub packet_first : x.packet ≡ true → n ≡ 0 → slice_get (events_found x) n ≡ Some Packet
  packet_first some first = ap₂ (λ b m. slice_get (only_if b Packet ++ lanes_found x) m) some first

  pub no_packet : (event : Event) → x.packet ≡ false → slice_get (lanes_found x) n ≡ Some event → slice_get (events_found x) n ≡ Some event
  no_packet event none is = ap (λ b. slice_get (only_if b Packet ++ lanes_found x) n) none ∙ is

  pub packet_before : (event : Event) → x.packet ≡ true → 0 < n → slice_get (lanes_found x) (n - 1) ≡ Some event → slice_get (events_found x) n ≡ Some event
  packet_before event some more is = ap (λ b. slice_get (only_if b Packet ++ lanes_found x) n) some ∙ in_back (Packet ∷ []) (lanes_found x) n event (omega (arith, more)) is
