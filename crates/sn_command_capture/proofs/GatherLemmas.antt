-- What is gathered record by record comes to the windows of the whole capture.
use Rattle.std.proofs.Common.{◌≡◌, ℕ, suc, ◌+◌, ◌<◌, ◌≤◌, List, [], ◌∷◌, ◌++◌, Bool, true, false, cond, ◌&&◌, ◌||◌, map, filter, Option, None, Some, is_some, Result, Ok, Err, length, take, drop, unwrap_or, subst, ◌-◌, ◌/◌, length-append, refl, ap, sym, ◌∙◌, arith, append_assoc, append-nil}
use Rattle.std.specs.Prelude.{nat_le, nat_lt, ◌==◌}
use Rattle.std.proofs.Math.Nat.{zero-div}
use Rattle.std.proofs.Math.Seq.{take-append_seam, take-append-add, drop-append_seam}
use Rattle.std.proofs.lemmas.List.{map-append, length-map, take_all}
use Rattle.std.proofs.lemmas.List.Elements.{filter-append}
use Rattle.std.proofs.lemmas.Bool.{eq-eqb, eqb-true, eqb-false, ne_eqb, lt-ltb, le-ltb, ltb-false, leb-true, leb-false, false≢true}
use borrow.Author.Tests.{ltb-true}
use Rattle.sn_base.proofs.Lists.{by_test, or_right}
use Rattle.sn_pcap.specs.declared.packet.Packet.{Packet}
use Rattle.sn_pcap.specs.declared.packet.Ending.{Ending}
use Rattle.sn_pcap.specs.declared.seen.Last.{Last}
use Rattle.sn_pcap.specs.declared.seen.Last.TheVariants as last
use Rattle.sn_command.specs.declared.fault.Fault.{Fault}
use Rattle.sn_command.specs.declared.fault.Fault.TheVariants.{TooLarge}
use Rattle.sn_command.specs.declared.refusal.Refusal.{Refusal}
use Rattle.sn_command.specs.declared.refusal.Refusal.TheVariants.{Refused}
use Rattle.sn_command.specs.Outcomes.{Outcome, silent}
use Rattle.sn_windows.specs.Windows.{record_at, run_of, first_run, numbered}
use Rattle.sn_windows.specs.Numbering.{Numbering, next_first, next_number, next_count, stepped, numbered_from}
use Rattle.sn_windows.specs.Blocks.{all_few, answered, most_records}
use Rattle.sn_windows.proofs.RunLemmas.{Rises, AtLeast}
use Rattle.sn_windows.proofs.NumberLemmas.{numbered_is, numbers_rise, numbers_stay}
use Rattle.sn_command_capture.specs.Wording.{IsCausal, StopsInTime, Wording}
use Rattle.sn_command_capture.specs.Capture.{last_from, last_number, before_last, blocks_below, blocks_in, closed_packets, ends_large, first_stop, stop_of, blocks_before, stopped, time_of, unfinished_in, windows_in, windows_outcome, windows_refused, windows_whole}
use Rattle.sn_command_capture.specs.Gathering.{Gathering, begins, closed_as, closing, closing_of, hand_stop, hand_text, joined, none_gathered, refused, taken, unfinished_of, with_hand}
use Rattle.sn_command_capture.proofs.RisingLemmas.{rising_next, rising_other}
use Rattle.sn_command_capture.proofs.WindowLemmas.{answered_large, block_at, left_outcome, left_none, left_large, left_next, run_long, stop_at, stop_left, stops_next, stops_or, text_left, windows_more}
use Rattle.sn_windows.specs.Rising.{AreRising, Window}

-- ---- one run, and what stands after it

-- the records of the current window, each with its number
abbrev at_hand : ℕ → List Packet → List (ℕ × Packet)
at_hand n held = map (λ p. (n, p)) held

-- all are above
abbrev After : ℕ → List (ℕ × Packet) → Type 0
After n [] = Unit {0}
After n (z ∷ zs) = n < z.0

at_least_run : (n : ℕ) (held : List Packet) (zs : List (ℕ × Packet)) → AtLeast n zs → AtLeast n (at_hand n held ++ zs)
at_least_run n [] zs h = h
at_least_run n (p ∷ ps) zs h = (omega arith, at_least_run n ps zs h)

rises_run : (n : ℕ) (held : List Packet) (zs : List (ℕ × Packet)) → AtLeast n zs → Rises zs → Rises (at_hand n held ++ zs)
rises_run n [] zs h r = r
rises_run n (p ∷ ps) zs h r = (at_least_run n ps zs h, rises_run n ps zs h r)

run_none : (n : ℕ) (zs : List (ℕ × Packet)) → After n zs → run_of n zs ≡ 0
run_none n [] h = refl
run_none n (z ∷ zs) h = let ne : (z.0 == n) ≡ false = ne_eqb z.0 n (λ e. omega arith) in rw ne refl

run_held : (n : ℕ) (held : List Packet) (zs : List (ℕ × Packet)) → run_of n (at_hand n held ++ zs) ≡ length held + run_of n zs
run_held n [] zs = omega arith
run_held n (p ∷ ps) zs = let same : (n == n) ≡ true = eq-eqb n n refl in let more = run_held n ps zs in rw same (omega arith)

hand_long : (n : ℕ) (held : List Packet) → length (at_hand n held) ≡ length held
hand_long n held = length-map held (λ p. (n, p))

hand_records : (n : ℕ) (held : List Packet) → map record_at (at_hand n held) ≡ held
hand_records n [] = refl
hand_records n (p ∷ ps) = ap (λ qs. p ∷ qs) (hand_records n ps)

-- ---- the windows below the last record's

last_append : (d : ℕ) (xs : List (ℕ × Packet)) (z : ℕ × Packet) (zs : List (ℕ × Packet)) → last_from d (xs ++ z ∷ zs) ≡ last_from z.0 zs
last_append d [] z zs = refl
last_append d (x ∷ xs) z zs = last_append x.0 xs z zs

last_later : (n : ℕ) (zs : List (ℕ × Packet)) → AtLeast n zs → Rises zs → n ≤ last_from n zs
last_later n [] h r = omega arith
last_later n (z ∷ zs) h r = let more = last_later z.0 zs r.0 r.1 in let first = h.0 in omega arith

last_hand : (d n : ℕ) (held : List Packet) → d ≤ n → last_from d (at_hand n held) ≤ n
last_hand d n [] le = le
last_hand d n (p ∷ ps) le = last_hand n n ps (omega arith)

below_none : (n m : ℕ) (zs : List (ℕ × Packet)) → AtLeast n zs → m ≤ n → filter (λ p. nat_lt p.0 m) zs ≡ []
below_none n m [] h le = refl
below_none n m (z ∷ zs) h le = let no : nat_lt z.0 m ≡ false = le-ltb z.0 m (let first = h.0 in omega arith) in rw no (below_none n m zs h.1 le)

below_hand : (n m : ℕ) (held : List Packet) → n < m → filter (λ p. nat_lt p.0 m) (at_hand n held) ≡ at_hand n held
below_hand n m [] lt = refl
below_hand n m (p ∷ ps) lt = let is : nat_lt n m ≡ true = lt-ltb n m lt in rw (is, below_hand n m ps lt) refl

hand_at_least : (n : ℕ) (held : List Packet) → AtLeast n (at_hand n held)
hand_at_least n [] = tt
hand_at_least n (p ∷ ps) = (omega arith, hand_at_least n ps)

cut_hand : (n : ℕ) (held : List Packet) → closed_packets last.TooLarge (at_hand n held) ≡ []
cut_hand n held = below_none n (last_number (at_hand n held)) (at_hand n held) (hand_at_least n held) (last_hand 0 n held (omega arith))

cut_after : (l : Last) (n : ℕ) (held : List Packet) (z : ℕ × Packet) (zs : List (ℕ × Packet)) → n < z.0 → AtLeast z.0 zs → Rises zs → closed_packets l (at_hand n held ++ z ∷ zs) ≡ at_hand n held ++ closed_packets l (z ∷ zs)
cut_after (last.Ended ending) n held z zs lt h r = refl
cut_after last.TooLarge n held z zs lt h r =
    let m = last_from z.0 zs in
    let same : last_number (at_hand n held ++ z ∷ zs) ≡ m = last_append 0 (at_hand n held) z zs in
    let above : n < m = let later = last_later z.0 zs h r in omega arith in
    ap (λ (k : ℕ). filter (λ p. nat_lt p.0 k) (at_hand n held ++ z ∷ zs)) same
    ∙ filter-append (λ p. nat_lt p.0 m) (at_hand n held) (z ∷ zs)
    ∙ ap (λ (xs : List (ℕ × Packet)). xs ++ filter (λ p. nat_lt p.0 m) (z ∷ zs)) (below_hand n m held above)

-- ---- a part of the records rises too

at_least_le : (n m : ℕ) → n ≤ m → (zs : List (ℕ × Packet)) → AtLeast m zs → AtLeast n zs
at_least_le n m le [] h = tt
at_least_le n m le (z ∷ zs) h = (let first = h.0 in omega arith, at_least_le n m le zs h.1)

after_of : (n : ℕ) (zs : List (ℕ × Packet)) → AtLeast (suc n) zs → After n zs
after_of n [] h = tt
after_of n (z ∷ zs) h = let first = h.0 in omega arith

filter_least : (t : ℕ × Packet → Bool) (n : ℕ) (zs : List (ℕ × Packet)) → AtLeast n zs → AtLeast n (filter t zs)
filter_least t n [] h = tt
filter_least t n (z ∷ zs) h = by_test (t z) (λ is. rw is (h.0, filter_least t n zs h.1)) (λ isnt. rw isnt (filter_least t n zs h.1))

filter_rises : (t : ℕ × Packet → Bool) (zs : List (ℕ × Packet)) → Rises zs → Rises (filter t zs)
filter_rises t [] r = tt
filter_rises t (z ∷ zs) r = by_test (t z) (λ is. rw is (filter_least t z.0 zs r.0, filter_rises t zs r.1)) (λ isnt. rw isnt (filter_rises t zs r.1))

cut_above : (l : Last) (z : ℕ × Packet) (zs : List (ℕ × Packet)) (n : ℕ) → n ≤ z.0 → AtLeast z.0 zs → AtLeast n (closed_packets l (z ∷ zs))
cut_above (last.Ended ending) z zs n le h = (le, at_least_le n z.0 le zs h)
cut_above last.TooLarge z zs n le h = filter_least (λ p. nat_lt p.0 (last_number (z ∷ zs))) n (z ∷ zs) (le, at_least_le n z.0 le zs h)

cut_rises : (l : Last) (z : ℕ × Packet) (zs : List (ℕ × Packet)) → Rises (z ∷ zs) → Rises (closed_packets l (z ∷ zs))
cut_rises (last.Ended ending) z zs r = r
cut_rises last.TooLarge z zs r = filter_rises (λ p. nat_lt p.0 (last_number (z ∷ zs))) (z ∷ zs) r

-- ---- what is left of a capture

-- a capture is refused after this text
abbrev refused_as : Refusal → List ℕ → Outcome (List Window × Ending)
refused_as refusal text = record { text = text; end = Err refusal }

abbrev refused_after : List ℕ → Outcome (List Window × Ending)
refused_after text = refused_as (Refused TooLarge) text

-- blocks, and after them what stands of the current window where the capture is refused
abbrev ended_with : Ending → List ℕ → Result (List Window) Refusal → List ℕ → Outcome (List Window × Ending)
ended_with ending text (Ok ws) more = record { text = text; end = Ok (ws, ending) }
ended_with ending text (Err refusal) more = record { text = text ++ more; end = Err refusal }

abbrev ended : Last → Outcome (List Window) → List ℕ → Outcome (List Window × Ending)
ended (last.Ended ending) o more = ended_with ending o.text o.end more
ended last.TooLarge o more = refused_after (o.text ++ more)

-- an outcome after a text
abbrev pub put_before : {B : Type 0} → List ℕ → Outcome B → Outcome B
put_before text o = record { text = text ++ o.text; end = o.end }

-- a text, and then this value
abbrev pub text_end : {B : Type 0} → List ℕ → B → Outcome B
text_end text value = record { text = text; end = Ok value }

-- one outcome and what follows it
abbrev pub followed_by : {A B : Type 0} → List ℕ → Result A Refusal → (A → Outcome B) → Outcome B
followed_by text (Ok a) f = record { text = text ++ (f a).text; end = (f a).end }
followed_by text (Err refusal) f = record { text = text; end = Err refusal }

abbrev follow : {A B : Type 0} → Outcome A → (A → Outcome B) → Outcome B
follow o f = followed_by o.text o.end f

-- a window is closed, and this follows
closed_follow : {A B : Type 0} (stop : Option Fault) (block : List ℕ) (value : A) (on : A → Outcome B) → follow (closed_as stop block value) on ≡ stops_or stop (put_before block (on value))
closed_follow None block value on = refl
closed_follow (Some fault) block value on = refl

closed_end : {A : Type 0} (stop : Option Fault) (block : List ℕ) (value : A) → closed_as stop block value ≡ stops_or stop (text_end block value)
closed_end None block value = refl
closed_end (Some fault) block value = refl

stopped_put : {A : Type 0} (stop : Option Fault) (block text : List ℕ) (whole : Outcome A) → stopped stop (block ++ text) (put_before block whole) ≡ put_before block (stopped stop text whole)
stopped_put None block text whole = refl
stopped_put (Some fault) block text whole = refl

-- records are counted that have the number of the current window
counted_here : (some same : Bool) (count : ℕ) → most_records ≤ cond (some && same) count 0 → (some ≡ true) × (same ≡ true) × (most_records ≤ count)
counted_here true true count h = (refl, refl, h)
counted_here true false count h = absurd (omega arith)
counted_here false same count h = absurd (omega arith)

module _ (wording : Wording) (shown : Packet → List ℕ) where
  -- what is left of a capture, one packet after another
  abbrev pub left_of : Gathering → List Packet → Last → Outcome (List Window × Ending)
  left_of g [] (last.Ended ending) = closing wording g ending
  left_of g [] last.TooLarge = refused wording g
  left_of g (p ∷ ps) l = let o : Outcome Gathering = taken wording g p.time (shown p) in followed_by o.text o.end (λ next. left_of next ps l)

module _ (wording : Wording) (shown : Packet → List ℕ)
    (causal : IsCausal wording) (in_time : StopsInTime wording) where
  -- a window of these packets
  abbrev held_window : ℕ → List Packet → Window
  held_window n held = (n, map shown held)

  abbrev closed_with : List Window → ℕ → List Packet → List Window
  closed_with closed n held = closed ++ held_window n held ∷ []

  abbrev packet_block : List Window → ℕ → List Packet → List ℕ
  packet_block closed n held = wording.block (closed_with closed n held) n (map shown held)

  abbrev windows_left : List Window → List (ℕ × Packet) → Last → Outcome (List Window × Ending)
  windows_left closed ys l = ended l (left_outcome wording shown closed (closed_packets l ys)) (unfinished_in wording l closed (windows_in shown ys))

  -- the same, up to the first window that stops
  abbrev stopped_left : List Window → List (ℕ × Packet) → Last → Outcome (List Window × Ending)
  stopped_left closed ys l = stopped (stop_left wording shown closed (closed_packets l ys)) (text_left wording shown closed (closed_packets l ys)) (windows_left closed ys l)

  abbrev packet_stop : List Window → ℕ → List Packet → Option Fault
  packet_stop closed n held = wording.stops (closed_with closed n held) n (map shown held)

  -- the state holds these packets
  pub record Holds (g : Gathering) (held : List Packet) : Type 0 where
    pub tuples : g.tuples ≡ map shown held
    pub count : is_some g.numbering.first ≡ true → g.numbering.count ≡ length held
    pub few : length held ≤ most_records
    pub some : g.numbering.first ≡ None → (held ≡ []) × (g.numbering.number ≡ 0)
    pub held_some : is_some g.numbering.first ≡ true → 0 < length held
    pub rising : AreRising None (with_hand g)

  hand_first : (n : ℕ) (h : Packet) (hs : List Packet) (zs : List (ℕ × Packet)) → run_of n zs ≡ 0 → first_run (at_hand n (h ∷ hs) ++ zs) ≡ length (at_hand n (h ∷ hs))
  hand_first n h hs zs none = let run = run_held n hs zs in let long = hand_long n hs in omega arith

  -- the records of the current window, and those after it
  hand_front : (n : ℕ) (h : Packet) (hs : List Packet) (zs : List (ℕ × Packet)) → run_of n zs ≡ 0 → take (first_run (at_hand n (h ∷ hs) ++ zs)) (at_hand n (h ∷ hs) ++ zs) ≡ at_hand n (h ∷ hs)
  hand_front n h hs zs none = ap (λ (k : ℕ). take k (at_hand n (h ∷ hs) ++ zs)) (hand_first n h hs zs none) ∙ take-append_seam (at_hand n (h ∷ hs)) zs

  hand_back : (n : ℕ) (h : Packet) (hs : List Packet) (zs : List (ℕ × Packet)) → run_of n zs ≡ 0 → drop (first_run (at_hand n (h ∷ hs) ++ zs)) (at_hand n (h ∷ hs) ++ zs) ≡ zs
  hand_back n h hs zs none = ap (λ (k : ℕ). drop k (at_hand n (h ∷ hs) ++ zs)) (hand_first n h hs zs none) ∙ drop-append_seam (at_hand n (h ∷ hs)) zs

  -- the current window comes first
  hand_windows : (n : ℕ) (h : Packet) (hs : List Packet) (zs : List (ℕ × Packet)) → After n zs → AtLeast n zs → Rises zs → windows_in shown (at_hand n (h ∷ hs) ++ zs) ≡ held_window n (h ∷ hs) ∷ windows_in shown zs
  hand_windows n h hs zs following least rises =
      let ys : List (ℕ × Packet) = at_hand n (h ∷ hs) ++ zs in
      let none : run_of n zs ≡ 0 = run_none n zs following in
      windows_more shown (n, h) (at_hand n hs ++ zs) (rises_run n (h ∷ hs) zs least rises)
      ∙ ap (λ (xs : List (ℕ × Packet)). (n, map shown (map record_at xs)) ∷ windows_in shown (drop (first_run ys) ys)) (hand_front n h hs zs none)
      ∙ ap (λ (qs : List Packet). (n, map shown qs) ∷ windows_in shown (drop (first_run ys) ys)) (hand_records n (h ∷ hs))
      ∙ ap (λ (xs : List (ℕ × Packet)). held_window n (h ∷ hs) ∷ windows_in shown xs) (hand_back n h hs zs none)

  held_few : (held : List Packet) → length held ≤ most_records → nat_lt most_records (length (map shown held)) ≡ false
  held_few held few = let long : length (map shown held) ≡ length held = length-map held shown in le-ltb most_records (length (map shown held)) (omega arith)

  some_after : (l : Last) (z : ℕ × Packet) (zs : List (ℕ × Packet)) → ends_large l (windows_in shown (z ∷ zs)) ≡ false
  some_after (last.Ended ending) z zs = refl
  some_after last.TooLarge z zs = refl

  -- the capture isn't refused in the current window
  unfinished_next : (closed : List Window) (n : ℕ) (h : Packet) (hs : List Packet) (z : ℕ × Packet) (zs : List (ℕ × Packet)) (l : Last) → n < z.0 → AtLeast z.0 zs → Rises zs → length (h ∷ hs) ≤ most_records
      → unfinished_in wording l closed (windows_in shown (at_hand n (h ∷ hs) ++ z ∷ zs)) ≡ unfinished_in wording l (closed_with closed n (h ∷ hs)) (windows_in shown (z ∷ zs))
  unfinished_next closed n h hs z zs l lt least rises few =
      let more : List Window = windows_in shown (z ∷ zs) in
      let tuples : List (List ℕ) = map shown (h ∷ hs) in
      let others : (ends_large l more || nat_lt most_records (length tuples)) ≡ false = ap (λ b. b || nat_lt most_records (length tuples)) (some_after l z zs) ∙ held_few (h ∷ hs) few in
      ap (unfinished_in wording l closed) (hand_windows n h hs (z ∷ zs) lt (omega arith, at_least_le n z.0 (omega arith) zs least) (least, rises))
      ∙ ap (λ b. cond b (wording.unfinished closed n (take most_records tuples)) (unfinished_in wording l (closed_with closed n (h ∷ hs)) more)) others

  -- it is, since the current window has too many records
  unfinished_large : (closed : List Window) (n : ℕ) (held : List Packet) (p : Packet) (zs : List (ℕ × Packet)) (l : Last) → length held ≡ most_records → AtLeast n zs → Rises zs
      → unfinished_in wording l closed (windows_in shown (at_hand n held ++ (n, p) ∷ zs)) ≡ wording.unfinished closed n (map shown held)
  unfinished_large closed n [] p zs l many least rises = absurd (omega arith)
  unfinished_large closed n (h ∷ hs) p zs l many least rises =
      let held : List Packet = h ∷ hs in
      let more : List (ℕ × Packet) = (n, p) ∷ zs in
      let hand : List (ℕ × Packet) = at_hand n held in
      let ys : List (ℕ × Packet) = hand ++ more in
      let rises_all : Rises ys = rises_run n held more (omega arith, least) (least, rises) in
      let same : (n == n) ≡ true = eq-eqb n n refl in
      let one : run_of n more ≡ suc (run_of n zs) = ap (λ (b : Bool). cond b (suc (run_of n zs)) 0) same in
      let run : run_of n (at_hand n hs ++ more) ≡ length hs + run_of n more = run_held n hs more in
      let long : length hand ≡ length held = hand_long n held in
      let whole : first_run ys ≡ length hand + run_of n more = omega arith in
      let rest : List (ℕ × Packet) = take (run_of n more) more in
      let tuples : List (List ℕ) = map shown (map record_at (take (first_run ys) ys)) in
      let shown_rest : List (List ℕ) = map shown (map record_at rest) in
      let front : take (first_run ys) ys ≡ hand ++ rest = ap (λ (k : ℕ). take k ys) whole ∙ take-append-add hand more (run_of n more) in
      let tuples_are : tuples ≡ map shown held ++ shown_rest =
      ap (λ (xs : List (ℕ × Packet)). map shown (map record_at xs)) front
      ∙ ap (map shown) (map-append record_at hand rest)
      ∙ map-append shown (map record_at hand) (map record_at rest)
      ∙ ap (λ (qs : List Packet). map shown qs ++ shown_rest) (hand_records n held) in
      let count : length tuples ≡ first_run ys = length-map (map record_at (take (first_run ys) ys)) shown ∙ run_long (n, h) (at_hand n hs ++ more) in
      let large : nat_lt most_records (length tuples) ≡ true = lt-ltb most_records (length tuples) (omega arith) in
      let most : most_records ≡ length (map shown held) = let held_long : length (map shown held) ≡ length held = length-map held shown in omega arith in
      let kept : take most_records tuples ≡ map shown held = ap (take most_records) tuples_are ∙ ap (λ (k : ℕ). take k (map shown held ++ shown_rest)) most ∙ take-append_seam (map shown held) shown_rest in
      let others : List Window = windows_in shown (drop (first_run ys) ys) in
      ap (unfinished_in wording l closed) (windows_more shown (n, h) (at_hand n hs ++ more) rises_all)
      ∙ ap (λ b. cond b (wording.unfinished closed n (take most_records tuples)) (unfinished_in wording l (closed ++ (n, tuples) ∷ []) others)) (or_right (ends_large l others) (nat_lt most_records (length tuples)) large)
      ∙ ap (wording.unfinished closed n) kept

  -- it is, since the capture has too many bytes
  unfinished_last : (closed : List Window) (n : ℕ) (held : List Packet) → length held ≤ most_records → unfinished_in wording last.TooLarge closed (windows_in shown (at_hand n held)) ≡ unfinished_of wording n closed (map shown held)
  unfinished_last closed n [] few = refl
  unfinished_last closed n (h ∷ hs) few =
      let long : length (map shown (h ∷ hs)) ≡ length (h ∷ hs) = length-map (h ∷ hs) shown in
      ap (λ (ys : List (ℕ × Packet)). unfinished_in wording last.TooLarge closed (windows_in shown ys)) (sym (append-nil (at_hand n (h ∷ hs))))
      ∙ ap (unfinished_in wording last.TooLarge closed) (hand_windows n h hs [] tt tt tt)
      ∙ ap (wording.unfinished closed n) (take_all most_records (map shown (h ∷ hs)) (omega arith))

  unfinished_some : (closed : List Window) (n : ℕ) (held : List Packet) → 0 < length held → unfinished_of wording n closed (map shown held) ≡ wording.unfinished closed n (map shown held)
  unfinished_some closed n [] some = absurd (omega arith)
  unfinished_some closed n (h ∷ hs) some = refl

  -- the current window has its block, and the others are left
  hand_next : (closed : List Window) (n : ℕ) (h : Packet) (hs : List Packet) (zs : List (ℕ × Packet)) → AreRising None (closed_with closed n (h ∷ hs)) → After n zs → AtLeast n zs → Rises zs → length (h ∷ hs) ≤ most_records
      → left_outcome wording shown closed (at_hand n (h ∷ hs) ++ zs) ≡ put_before (packet_block closed n (h ∷ hs)) (left_outcome wording shown (closed_with closed n (h ∷ hs)) zs)
  hand_next closed n h hs zs rising following least rises few =
      let held : List Packet = h ∷ hs in
      let hand : List (ℕ × Packet) = at_hand n held in
      let none : run_of n zs ≡ 0 = run_none n zs following in
      let first : first_run (hand ++ zs) ≡ length hand = hand_first n h hs zs none in
      let long : length hand ≡ length held = hand_long n held in
      let packets : held ≡ map record_at (take (first_run (hand ++ zs)) (hand ++ zs)) = sym (ap (λ (xs : List (ℕ × Packet)). map record_at xs) (hand_front n h hs zs none) ∙ hand_records n held) in
      let back : drop (first_run (hand ++ zs)) (hand ++ zs) ≡ zs = hand_back n h hs zs none in
      left_next wording shown closed (hand ++ zs) (rises_run n held zs least rises) (omega arith) (omega arith) n held refl packets rising (causal closed n (map shown held))
      ∙ ap (λ (xs : List (ℕ × Packet)). put_before (packet_block closed n held) (left_outcome wording shown (closed_with closed n held) xs)) back

  with_after : (ending : Ending) (text first : List ℕ) (end : Result (List Window) Refusal) (more : List ℕ) → ended_with ending (text ++ first) end more ≡ put_before text (ended_with ending first end more)
  with_after ending text first (Ok ws) more = refl
  with_after ending text first (Err refusal) more = ap (refused_as refusal) (append_assoc text first more)

  ended_after : (l : Last) (text : List ℕ) (o : Outcome (List Window)) (more : List ℕ) → ended l (put_before text o) more ≡ put_before text (ended l o more)
  ended_after (last.Ended ending) text o more = with_after ending text o.text o.end more
  ended_after last.TooLarge text o more = ap refused_after (append_assoc text o.text more)

  windows_next : (closed : List Window) (n : ℕ) (h : Packet) (hs : List Packet) (z : ℕ × Packet) (zs : List (ℕ × Packet)) (l : Last) → AreRising None (closed_with closed n (h ∷ hs)) → n < z.0 → AtLeast z.0 zs → Rises zs → length (h ∷ hs) ≤ most_records
      → windows_left closed (at_hand n (h ∷ hs) ++ z ∷ zs) l ≡ put_before (packet_block closed n (h ∷ hs)) (windows_left (closed_with closed n (h ∷ hs)) (z ∷ zs) l)
  windows_next closed n h hs z zs l rising lt least rises few =
      let rest : List (ℕ × Packet) = closed_packets l (z ∷ zs) in
      let above : AtLeast (suc n) rest = cut_above l z zs (suc n) (omega arith) least in
      let unfinished : List ℕ = unfinished_in wording l closed (windows_in shown (at_hand n (h ∷ hs) ++ z ∷ zs)) in
      ap (λ (ys : List (ℕ × Packet)). ended l (left_outcome wording shown closed ys) unfinished) (cut_after l n (h ∷ hs) z zs lt least rises)
      ∙ ap (λ (o : Outcome (List Window)). ended l o unfinished) (hand_next closed n h hs rest rising (after_of n rest above) (at_least_le n (suc n) (omega arith) rest above) (cut_rises l z zs (least, rises)) few)
      ∙ ap (ended l (put_before (packet_block closed n (h ∷ hs)) (left_outcome wording shown (closed_with closed n (h ∷ hs)) rest))) (unfinished_next closed n h hs z zs l lt least rises few)
      ∙ ended_after l (packet_block closed n (h ∷ hs)) (left_outcome wording shown (closed_with closed n (h ∷ hs)) rest) (unfinished_in wording l (closed_with closed n (h ∷ hs)) (windows_in shown (z ∷ zs)))

  -- the current window has too many records
  hand_large : (closed : List Window) (n : ℕ) (held : List Packet) (p : Packet) (zs : List (ℕ × Packet)) → most_records ≤ length held → AtLeast n zs → Rises zs → left_outcome wording shown closed (at_hand n held ++ (n, p) ∷ zs) ≡ silent (Err (Refused TooLarge))
  hand_large closed n [] p zs many least rises = absurd (omega arith)
  hand_large closed n (h ∷ hs) p zs many least rises =
      let more : List (ℕ × Packet) = (n, p) ∷ zs in
      let same : (n == n) ≡ true = eq-eqb n n refl in
      let one : run_of n more ≡ suc (run_of n zs) = ap (λ (b : Bool). cond b (suc (run_of n zs)) 0) same in
      let run : run_of n (at_hand n hs ++ more) ≡ length hs + run_of n more = run_held n hs more in
      left_large wording shown closed (at_hand n (h ∷ hs) ++ more) (rises_run n (h ∷ hs) more (omega arith, least) (least, rises)) (omega arith)

  blocks_large : (closed : List Window) (n : ℕ) (held : List Packet) (p : Packet) (zs : List (ℕ × Packet)) (l : Last) (text : List ℕ) → most_records ≤ length held → AtLeast n zs → Rises zs
      → ended l (left_outcome wording shown closed (closed_packets l (at_hand n held ++ (n, p) ∷ zs))) text ≡ refused_after text
  blocks_large closed n held p zs (last.Ended ending) text many least rises = ap (λ (o : Outcome (List Window)). ended (last.Ended ending) o text) (hand_large closed n held p zs many least rises)
  blocks_large closed n held p zs last.TooLarge text many least rises =
      let ys : List (ℕ × Packet) = at_hand n held ++ (n, p) ∷ zs in
      let m : ℕ = last_number ys in
      by_test (nat_lt n m)
      (λ is.
      let lt : n < m = ltb-true n m is in
      let kept : before_last ys ≡ at_hand n held ++ (n, p) ∷ filter (λ q. nat_lt q.0 m) zs =
      filter-append (λ q. nat_lt q.0 m) (at_hand n held) ((n, p) ∷ zs)
      ∙ ap (λ (xs : List (ℕ × Packet)). xs ++ filter (λ q. nat_lt q.0 m) ((n, p) ∷ zs)) (below_hand n m held lt)
      ∙ ap (λ (b : Bool). at_hand n held ++ cond b ((n, p) ∷ filter (λ q. nat_lt q.0 m) zs) (filter (λ q. nat_lt q.0 m) zs)) is in
      ap (λ (xs : List (ℕ × Packet)). ended last.TooLarge (left_outcome wording shown closed xs) text) kept
      ∙ ap (λ (o : Outcome (List Window)). ended last.TooLarge o text) (hand_large closed n held p (filter (λ q. nat_lt q.0 m) zs) many (filter_least (λ q. nat_lt q.0 m) n zs least) (filter_rises (λ q. nat_lt q.0 m) zs rises)))
      (λ isnt.
      let le : m ≤ n = ltb-false n m isnt in
      let nothing : before_last ys ≡ [] = below_none n m ys (at_least_run n held ((n, p) ∷ zs) (omega arith, least)) le in
      ap (λ (xs : List (ℕ × Packet)). ended last.TooLarge (left_outcome wording shown closed xs) text) nothing)

  windows_large : (closed : List Window) (n : ℕ) (held : List Packet) (p : Packet) (zs : List (ℕ × Packet)) (l : Last) → length held ≡ most_records → AtLeast n zs → Rises zs
      → windows_left closed (at_hand n held ++ (n, p) ∷ zs) l ≡ refused_after (wording.unfinished closed n (map shown held))
  windows_large closed n held p zs l many least rises =
      blocks_large closed n held p zs l (unfinished_in wording l closed (windows_in shown (at_hand n held ++ (n, p) ∷ zs))) (omega arith) least rises
      ∙ ap refused_after (unfinished_large closed n held p zs l many least rises)

  -- ---- stops

  -- the current window may stop, and else the others are looked at
  hand_stops : {A : Type 0} (closed : List Window) (n : ℕ) (h : Packet) (hs : List Packet) (zs : List (ℕ × Packet)) → AreRising None (closed_with closed n (h ∷ hs)) → After n zs → AtLeast n zs → Rises zs → length (h ∷ hs) ≤ most_records
      → (whole : Outcome A) → stopped (stop_left wording shown closed (at_hand n (h ∷ hs) ++ zs)) (text_left wording shown closed (at_hand n (h ∷ hs) ++ zs)) whole
      ≡ stops_or (packet_stop closed n (h ∷ hs)) (stopped (stop_left wording shown (closed_with closed n (h ∷ hs)) zs) (packet_block closed n (h ∷ hs) ++ text_left wording shown (closed_with closed n (h ∷ hs)) zs) whole)
  hand_stops closed n h hs zs rising following least rises few whole =
      let held : List Packet = h ∷ hs in
      let hand : List (ℕ × Packet) = at_hand n held in
      let now : List Window = closed_with closed n held in
      let none : run_of n zs ≡ 0 = run_none n zs following in
      let first : first_run (hand ++ zs) ≡ length hand = hand_first n h hs zs none in
      let long : length hand ≡ length held = hand_long n held in
      let packets : held ≡ map record_at (take (first_run (hand ++ zs)) (hand ++ zs)) = sym (ap (λ (xs : List (ℕ × Packet)). map record_at xs) (hand_front n h hs zs none) ∙ hand_records n held) in
      let back : drop (first_run (hand ++ zs)) (hand ++ zs) ≡ zs = hand_back n h hs zs none in
      stops_next wording shown closed (n, h) (at_hand n hs ++ zs) (rises_run n held zs least rises) (omega arith) held packets rising (causal closed n (map shown held)) (in_time.causal closed n (map shown held)) whole
      ∙ ap (λ (xs : List (ℕ × Packet)). stops_or (packet_stop closed n held) (stopped (stop_left wording shown now xs) (packet_block closed n held ++ text_left wording shown now xs) whole)) back

  stopped_next : (closed : List Window) (n : ℕ) (h : Packet) (hs : List Packet) (z : ℕ × Packet) (zs : List (ℕ × Packet)) (l : Last) → AreRising None (closed_with closed n (h ∷ hs)) → n < z.0 → AtLeast z.0 zs → Rises zs → length (h ∷ hs) ≤ most_records
      → stopped_left closed (at_hand n (h ∷ hs) ++ z ∷ zs) l ≡ stops_or (packet_stop closed n (h ∷ hs)) (put_before (packet_block closed n (h ∷ hs)) (stopped_left (closed_with closed n (h ∷ hs)) (z ∷ zs) l))
  stopped_next closed n h hs z zs l rising lt least rises few =
      let held : List Packet = h ∷ hs in
      let now : List Window = closed_with closed n held in
      let block : List ℕ = packet_block closed n held in
      let stop : Option Fault = packet_stop closed n held in
      let rest : List (ℕ × Packet) = closed_packets l (z ∷ zs) in
      let above : AtLeast (suc n) rest = cut_above l z zs (suc n) (omega arith) least in
      let whole : Outcome (List Window × Ending) = windows_left closed (at_hand n held ++ z ∷ zs) l in
      ap (λ (xs : List (ℕ × Packet)). stopped (stop_left wording shown closed xs) (text_left wording shown closed xs) whole) (cut_after l n held z zs lt least rises)
      ∙ hand_stops closed n h hs rest rising (after_of n rest above) (at_least_le n (suc n) (omega arith) rest above) (cut_rises l z zs (least, rises)) few whole
      ∙ ap (λ (o : Outcome (List Window × Ending)). stops_or stop (stopped (stop_left wording shown now rest) (block ++ text_left wording shown now rest) o)) (windows_next closed n h hs z zs l rising lt least rises few)
      ∙ ap (λ (o : Outcome (List Window × Ending)). stops_or stop o) (stopped_put (stop_left wording shown now rest) block (text_left wording shown now rest) (windows_left now (z ∷ zs) l))

  -- the current window has too many records, so neither it nor one after it is closed
  answered_full : (n : ℕ) (held : List Packet) (p : Packet) (zs : List (ℕ × Packet)) → most_records ≤ length held → AtLeast n zs → Rises zs → answered (at_hand n held ++ (n, p) ∷ zs) ≡ []
  answered_full n [] p zs many least rises = absurd (omega arith)
  answered_full n (h ∷ hs) p zs many least rises =
      let more : List (ℕ × Packet) = (n, p) ∷ zs in
      let same : (n == n) ≡ true = eq-eqb n n refl in
      let one : run_of n more ≡ suc (run_of n zs) = ap (λ (b : Bool). cond b (suc (run_of n zs)) 0) same in
      let run : run_of n (at_hand n hs ++ more) ≡ length hs + run_of n more = run_held n hs more in
      answered_large (n, h) (at_hand n hs ++ more) (rises_run n (h ∷ hs) more (omega arith, least) (least, rises)) (omega arith)

  answered_none : (n : ℕ) (held : List Packet) (p : Packet) (zs : List (ℕ × Packet)) (l : Last) → most_records ≤ length held → AtLeast n zs → Rises zs → answered (closed_packets l (at_hand n held ++ (n, p) ∷ zs)) ≡ []
  answered_none n held p zs (last.Ended ending) many least rises = answered_full n held p zs many least rises
  answered_none n held p zs last.TooLarge many least rises =
      let ys : List (ℕ × Packet) = at_hand n held ++ (n, p) ∷ zs in
      let m : ℕ = last_number ys in
      by_test (nat_lt n m)
      (λ is.
      let lt : n < m = ltb-true n m is in
      let kept : before_last ys ≡ at_hand n held ++ (n, p) ∷ filter (λ q. nat_lt q.0 m) zs =
      filter-append (λ q. nat_lt q.0 m) (at_hand n held) ((n, p) ∷ zs)
      ∙ ap (λ (xs : List (ℕ × Packet)). xs ++ filter (λ q. nat_lt q.0 m) ((n, p) ∷ zs)) (below_hand n m held lt)
      ∙ ap (λ (b : Bool). at_hand n held ++ cond b ((n, p) ∷ filter (λ q. nat_lt q.0 m) zs) (filter (λ q. nat_lt q.0 m) zs)) is in
      ap answered kept ∙ answered_full n held p (filter (λ q. nat_lt q.0 m) zs) many (filter_least (λ q. nat_lt q.0 m) n zs least) (filter_rises (λ q. nat_lt q.0 m) zs rises))
      (λ isnt.
      let le : m ≤ n = ltb-false n m isnt in
      let nothing : before_last ys ≡ [] = below_none n m ys (at_least_run n held ((n, p) ∷ zs) (omega arith, least)) le in
      ap answered nothing)

  stopped_large : (closed : List Window) (n : ℕ) (held : List Packet) (p : Packet) (zs : List (ℕ × Packet)) (l : Last) → length held ≡ most_records → AtLeast n zs → Rises zs
      → stopped_left closed (at_hand n held ++ (n, p) ∷ zs) l ≡ refused_after (wording.unfinished closed n (map shown held))
  stopped_large closed n held p zs l many least rises =
      let ys : List (ℕ × Packet) = at_hand n held ++ (n, p) ∷ zs in
      let xs : List (ℕ × Packet) = closed_packets l ys in
      let all : List Window = closed ++ windows_in shown xs in
      ap (λ (ns : List ℕ). stopped (first_stop (stop_at wording shown all xs) ns) (blocks_below (stop_at wording shown all xs) (block_at wording shown all xs) ns) (windows_left closed ys l)) (answered_none n held p zs l (omega arith) least rises)
      ∙ windows_large closed n held p zs l many least rises

  -- no further record comes
  none_left : (g : Gathering) (held : List Packet) (l : Last) → Holds g held → left_of wording shown g [] l ≡ stopped_left g.closed (at_hand g.numbering.number held) l
  none_left g held last.TooLarge h =
      let n : ℕ = g.numbering.number in
      ap (λ (ts : List (List ℕ)). refused_after (unfinished_of wording n g.closed ts)) h.tuples
      ∙ sym (ap (λ (xs : List (ℕ × Packet)). stopped (stop_left wording shown g.closed xs) (text_left wording shown g.closed xs) (ended last.TooLarge (left_outcome wording shown g.closed xs) (unfinished_in wording last.TooLarge g.closed (windows_in shown (at_hand n held))))) (cut_hand n held)
      ∙ ap refused_after (unfinished_last g.closed n held h.few))
  none_left g [] (last.Ended ending) h =
      ap (closing_of wording g.numbering.number g.closed ending) h.tuples ∙ sym (ap (λ (o : Outcome (List Window)). ended (last.Ended ending) o []) (left_none wording shown g.closed))
  none_left g (p ∷ ps) (last.Ended ending) h =
      let n : ℕ = g.numbering.number in
      let held : List Packet = p ∷ ps in
      let now : List Window = closed_with g.closed n held in
      let block : List ℕ = packet_block g.closed n held in
      let stop : Option Fault = packet_stop g.closed n held in
      let rising : AreRising None now = rising_other g.closed n g.tuples (map shown held) h.rising in
      let unfinished : List ℕ = unfinished_in wording (last.Ended ending) g.closed (windows_in shown (at_hand n held)) in
      let whole : Outcome (List Window × Ending) = windows_left g.closed (at_hand n held) (last.Ended ending) in
      let whole_is : whole ≡ text_end block (now, ending) =
      ap (λ (ys : List (ℕ × Packet)). ended (last.Ended ending) (left_outcome wording shown g.closed ys) unfinished) (sym (append-nil (at_hand n held)))
      ∙ ap (λ (o : Outcome (List Window)). ended (last.Ended ending) o unfinished) (hand_next g.closed n p ps [] rising tt tt tt h.few)
      ∙ ap (λ (o : Outcome (List Window)). ended (last.Ended ending) (put_before block o) unfinished) (left_none wording shown now)
      ∙ ap (λ (text : List ℕ). text_end text (now, ending)) (append-nil block) in
      ap (closing_of wording n g.closed ending) h.tuples
      ∙ closed_end stop block (now, ending)
      ∙ sym (ap (λ (ys : List (ℕ × Packet)). stopped (stop_left wording shown g.closed ys) (text_left wording shown g.closed ys) whole) (sym (append-nil (at_hand n held)))
      ∙ hand_stops g.closed n p ps [] rising tt tt tt h.few whole
      ∙ ap (λ (o : Outcome (List Window × Ending)). stops_or stop o) whole_is)

  -- a record goes to the current window
  holds_more : (g : Gathering) (held : List Packet) (p : Packet) → Holds g held → next_count g.numbering p.time < most_records → (next_number g.numbering p.time == g.numbering.number) ≡ true
      → Holds (joined g p.time (shown p)) (held ++ p ∷ [])
  holds_more g held p h few same =
      let long : length (held ++ p ∷ []) ≡ length held + 1 = length-append held (p ∷ []) in
      let counted : next_count g.numbering p.time ≡ length held =
      by_test (is_some g.numbering.first)
      (λ is. ap (λ (b : Bool). cond (b && (next_number g.numbering p.time == g.numbering.number)) g.numbering.count 0) is ∙ ap (λ (b : Bool). cond b g.numbering.count 0) same ∙ h.count is)
      (λ isnt. ap (λ (b : Bool). cond (b && (next_number g.numbering p.time == g.numbering.number)) g.numbering.count 0) isnt ∙ sym (ap length (h.some (no_first g.numbering.first isnt)).0)) in
      record {
        tuples = ap (λ (ts : List (List ℕ)). ts ++ shown p ∷ []) h.tuples ∙ sym (map-append shown held (p ∷ []));
        count = λ _. ap (λ (k : ℕ). k + 1) counted ∙ sym long;
        few = omega arith;
        some = λ e. absurd (cc);
        held_some = λ _. omega arith;
        rising = subst (λ (k : ℕ). AreRising None (g.closed ++ (k, g.tuples ++ shown p ∷ []) ∷ [])) (sym (eqb-true (next_number g.numbering p.time) g.numbering.number same)) (rising_other g.closed g.numbering.number g.tuples (g.tuples ++ shown p ∷ []) h.rising);
      }
    where
      no_first : (o : Option ℕ) → is_some o ≡ false → o ≡ None
      no_first None e = refl
      no_first (Some x) e = absurd (false≢true (sym e))

  -- a record begins the next window
  holds_one : (g : Gathering) (held : List Packet) (p : Packet) → Holds g held → (next_number g.numbering p.time == g.numbering.number) ≡ false → Holds (begins g p.time (shown p)) (p ∷ [])
  holds_one g held p h other =
      let counted : next_count g.numbering p.time ≡ 0 = ap (λ (b : Bool). cond (is_some g.numbering.first && b) g.numbering.count 0) other ∙ never (is_some g.numbering.first) in
      record {
        tuples = refl;
        count = λ _. omega arith;
        few = omega arith;
        some = λ e. absurd (cc);
        held_some = λ _. omega arith;
        rising = rising_next g.closed g.numbering.number (next_number g.numbering p.time) g.tuples (shown p ∷ []) h.rising (let ne : next_number g.numbering p.time ≡ g.numbering.number → ⊥ = eqb-false (next_number g.numbering p.time) g.numbering.number other in omega arith);
      }
    where
      never : (b : Bool) → cond (b && false) g.numbering.count 0 ≡ 0
      never true = refl
      never false = refl

  -- the first record is of window 0
  first_same : (s : Numbering) (time : ℕ) → s.first ≡ None → s.number ≡ 0 → (next_number s time == s.number) ≡ true
  first_same s time none zero-number =
      let from : next_first s time ≡ time = ap (λ (o : Option ℕ). unwrap_or o time) none in
      let none-yet : (time - next_first s time) / s.window ≡ 0 = ap (λ (k : ℕ). (time - k) / s.window) from ∙ ap (λ (k : ℕ). k / s.window) (let e : time - time ≡ 0 = omega arith in e) ∙ zero-div s.window in
      let is : next_number s time ≡ s.number = omega arith in
      eq-eqb (next_number s time) s.number is

  -- there is a current window, where the next record begins another
  some_at_hand : (g : Gathering) (held : List Packet) (p : Packet) → Holds g held → (next_number g.numbering p.time == g.numbering.number) ≡ false → 0 < length held
  some_at_hand g held p h other =
      elim g.numbering.first as (λ o. g.numbering.first ≡ o → 0 < length held) [
        | None ↦ λ none. absurd (false≢true (sym other ∙ first_same g.numbering p.time none (h.some none).1))
        | Some first ↦ λ is. h.held_some (ap is_some is)
      ] refl

  begun_next : (g : Gathering) (held : List Packet) (z : ℕ × Packet) (zs : List (ℕ × Packet)) (l : Last) → Holds g held → g.numbering.number < z.0 → AtLeast z.0 zs → Rises zs → 0 < length held
      → stops_or (hand_stop wording g) (put_before (hand_text wording g) (stopped_left (with_hand g) (z ∷ zs) l)) ≡ stopped_left g.closed (at_hand g.numbering.number held ++ z ∷ zs) l
  begun_next g [] z zs l h lt least rises some = absurd (omega arith)
  begun_next g (q ∷ qs) z zs l h lt least rises some =
      ap (λ (ts : List (List ℕ)). stops_or (wording.stops (g.closed ++ (g.numbering.number, ts) ∷ []) g.numbering.number ts)
      (put_before (wording.block (g.closed ++ (g.numbering.number, ts) ∷ []) g.numbering.number ts) (stopped_left (g.closed ++ (g.numbering.number, ts) ∷ []) (z ∷ zs) l))) h.tuples
      ∙ sym (stopped_next g.closed g.numbering.number q qs z zs l (rising_other g.closed g.numbering.number g.tuples (map shown (q ∷ qs)) h.rising) lt least rises h.few)

  -- What is left of a capture is what is left of its windows.
  pub gathered_is : (g : Gathering) (held packets : List Packet) (l : Last) → Holds g held → left_of wording shown g packets l ≡ stopped_left g.closed (at_hand g.numbering.number held ++ numbered_from time_of g.numbering packets) l
  gathered_is g held [] l h = none_left g held l h ∙ ap (λ (ys : List (ℕ × Packet)). stopped_left g.closed ys l) (sym (append-nil (at_hand g.numbering.number held)))
  gathered_is g held (p ∷ ps) l h =
      let n : ℕ = g.numbering.number in
      let number : ℕ = next_number g.numbering p.time in
      let count : ℕ = next_count g.numbering p.time in
      let zs : List (ℕ × Packet) = numbered_from time_of (stepped g.numbering p.time) ps in
      let least : AtLeast number zs = numbers_stay time_of (stepped g.numbering p.time) ps in
      let rises : Rises zs = numbers_rise time_of (stepped g.numbering p.time) ps in
      let more : Outcome Gathering = silent (Ok (joined g p.time (shown p))) in
      let next : Outcome Gathering = closed_as (hand_stop wording g) (hand_text wording g) (begins g p.time (shown p)) in
      let many : Outcome Gathering = refused wording g in
      let on : Gathering → Outcome (List Window × Ending) = λ next. left_of wording shown next ps l in
      by_test (nat_le most_records count)
      (λ is.
      let much : most_records ≤ count = leb-true most_records count is in
      let known = counted_here (is_some g.numbering.first) (number == n) g.numbering.count much in
      let same : number ≡ n = eqb-true number n known.1 in
      let long : g.numbering.count ≡ length held = h.count known.0 in
      let full : length held ≡ most_records = let c = known.2 in let few = h.few in omega arith in
      ap (λ (b : Bool). follow (cond b many (cond (number == n) more next)) on) is
      ∙ ap (λ (ts : List (List ℕ)). refused_after (unfinished_of wording n g.closed ts)) h.tuples
      ∙ ap refused_after (unfinished_some g.closed n held (omega arith))
      ∙ sym (ap (λ (k : ℕ). stopped_left g.closed (at_hand n held ++ (k, p) ∷ zs) l) same
      ∙ stopped_large g.closed n held p zs l full (at_least_le n number (omega arith) zs least) rises))
      (λ isnt.
      let few : count < most_records = leb-false most_records count isnt in
      by_test (number == n)
      (λ is.
      let same : number ≡ n = eqb-true number n is in
      let hand : at_hand number (held ++ p ∷ []) ++ zs ≡ at_hand n held ++ (number, p) ∷ zs =
      ap (λ (xs : List (ℕ × Packet)). xs ++ zs) (map-append (λ q. (number, q)) held (p ∷ []))
      ∙ append_assoc (at_hand number held) ((number, p) ∷ []) zs
      ∙ ap (λ (k : ℕ). at_hand k held ++ (number, p) ∷ zs) same in
      ap (λ (b : Bool). follow (cond b many (cond (number == n) more next)) on) isnt
      ∙ ap (λ (b : Bool). follow (cond b more next) on) is
      ∙ gathered_is (joined g p.time (shown p)) (held ++ p ∷ []) ps l (holds_more g held p h few is)
      ∙ ap (λ (ys : List (ℕ × Packet)). stopped_left g.closed ys l) hand)
      (λ other.
      let apart : number ≡ n → ⊥ = eqb-false number n other in
      let up : n < number = omega arith in
      ap (λ (b : Bool). follow (cond b many (cond (number == n) more next)) on) isnt
      ∙ ap (λ (b : Bool). follow (cond b more next) on) other
      ∙ closed_follow (hand_stop wording g) (hand_text wording g) (begins g p.time (shown p)) on
      ∙ ap (λ (o : Outcome (List Window × Ending)). stops_or (hand_stop wording g) (put_before (hand_text wording g) o)) (gathered_is (begins g p.time (shown p)) (p ∷ []) ps l (holds_one g held p h other))
      ∙ begun_next g held (number, p) zs l h up least rises (some_at_hand g held p h other)))

  -- From the first record on, it is the outcome of the windows.
  pub gathered_all : (window : ℕ) (packets : List Packet) (l : Last) → left_of wording shown (none_gathered window) packets l ≡ windows_outcome wording shown (numbered time_of window packets) l
  gathered_all window packets l =
      let ys : List (ℕ × Packet) = numbered time_of window packets in
      gathered_is (none_gathered window) [] packets l
      (record { tuples = refl; count = λ e. absurd (false≢true e); few = omega arith; some = λ e. (refl, refl); held_some = λ e. absurd (false≢true e); rising = (tt, tt) })
      ∙ ap (λ (ys : List (ℕ × Packet)). stopped_left [] ys l) (numbered_is time_of window packets)
      ∙ ap (stopped (stop_of wording shown (closed_packets l ys)) (blocks_before wording shown (closed_packets l ys))) (whole l ys)
    where
      whole : (e : Last) (ys : List (ℕ × Packet)) → windows_left [] ys e ≡ windows_whole wording shown ys e
      whole (last.Ended ending) ys =
          elim (all_few ys) as (λ b. ended_with ending (blocks_in wording shown ys) (cond b (Ok (windows_in shown ys)) (Err (Refused TooLarge))) (unfinished_in wording (last.Ended ending) [] (windows_in shown ys))
          ≡ cond b (record { text = blocks_in wording shown ys; end = Ok (windows_in shown ys, ending) }) (windows_refused wording (last.Ended ending) (blocks_in wording shown ys) (windows_in shown ys))) [
            | true ↦ refl
            | false ↦ refl
          ]
      whole last.TooLarge ys = refl
