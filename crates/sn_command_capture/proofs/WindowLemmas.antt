-- What is left of the windows, over plain values.
use Rattle.std.proofs.Common.{◌≡◌, ℕ, zero, suc, ◌≤◌, ◌<◌, List, [], ◌∷◌, ◌++◌, Bool, true, false, cond, ◌&&◌, map, Option, Some, None, is_none, Ok, Err, length, take, drop, refl, ap, sym, ◌∙◌, subst, arith, append-nil, append_assoc}
use Rattle.std.specs.Prelude.{nat_le, ◌==◌}
use Rattle.std.specs.List.{AllByRecursion, flat_map}
use Rattle.std.specs.Option.{option_or}
use Rattle.sn_base.proofs.Lists.{by_test}
use Rattle.std.proofs.lemmas.Bool.{eq-eqb, ne_eqb, lt-leb, le-leb}
use Rattle.std.proofs.lemmas.List.{length-drop, length-map, length-take-le}
use Rattle.sn_pcap.specs.declared.packet.Packet.{Packet}
use Rattle.sn_command.specs.declared.fault.Fault.{Fault}
use Rattle.sn_command.specs.declared.fault.Fault.TheVariants.{TooLarge}
use Rattle.sn_command.specs.declared.refusal.Refusal.TheVariants.{Refused}
use Rattle.sn_command.specs.Outcomes.{Outcome, silent}
use Rattle.sn_windows.specs.Windows.{in_window, record_at, windows_of, run_of, first_run, first_number}
use Rattle.sn_windows.specs.Blocks.{answered, is_few, all_few, blocks, most_records, while_holds}
use Rattle.sn_windows.proofs.RunLemmas.{Above, Rises, answered_step, blocks_step, drop_rises, few_here, few_step, once_above, run_above, run_is, run_isnt, windows_step}
use Rattle.sn_command_capture.specs.Capture.{block_in, blocks_below, first_stop, stop_in, stopped, window_in, windows_in}
use Rattle.sn_command_capture.specs.Wording.{Wording}
use Rattle.sn_command_capture.proofs.RisingLemmas.{rising_join}
use Rattle.sn_windows.specs.Rising.{AreRising, IsAbove, Window}

run_within : (w : ℕ) (ps : List (ℕ × Packet)) → run_of w ps ≤ length ps
run_within w [] = omega arith
run_within w (p ∷ ps) = let more = run_within w ps in by_test (p.0 == w) (λ is. rw is (omega arith)) (λ isnt. rw isnt (omega arith))

pub run_long : (p : ℕ × Packet) (ps : List (ℕ × Packet)) → length (map record_at (take (first_run (p ∷ ps)) (p ∷ ps))) ≡ first_run (p ∷ ps)
run_long p ps =
    let within = run_within p.0 ps in
    length-map (take (first_run (p ∷ ps)) (p ∷ ps)) record_at ∙ length-take-le (first_run (p ∷ ps)) (p ∷ ps) (omega arith)

few_run : (p : ℕ × Packet) (ps : List (ℕ × Packet)) → Rises (p ∷ ps) → is_few p.0 (p ∷ ps) ≡ nat_le (first_run (p ∷ ps)) most_records
few_run p ps r = few_here (λ w qs. []) p ps r ∙ ap (λ n. nat_le n most_records) (run_long p ps)

-- ---- the windows of records

-- the first window, and those after it
here : (p : ℕ × Packet) (ps : List (ℕ × Packet)) → Rises (p ∷ ps) → in_window p.0 (p ∷ ps) ≡ map record_at (take (first_run (p ∷ ps)) (p ∷ ps))
here p ps r = rw (eq-eqb p.0 p.0 refl, run_is p.0 ps r.0 r.1) refl

later : (p : ℕ × Packet) (ps : List (ℕ × Packet)) (v : ℕ) → p.0 < v → in_window v (p ∷ ps) ≡ in_window v (drop (first_run (p ∷ ps)) (p ∷ ps))
later p ps v lt =
    let ne : (p.0 == v) ≡ false = ne_eqb p.0 v (λ e. omega arith) in
    rw ne (ap (map record_at) (run_isnt p.0 v lt ps))

map_over : (f g : ℕ → Window) (P : ℕ → Type 0) → ((n : ℕ) → P n → f n ≡ g n) → (ns : List ℕ) → AllByRecursion P ns → map f ns ≡ map g ns
map_over f g P same [] h = refl
map_over f g P same (n ∷ ns) h = rw (same n h.0, map_over f g P same ns h.1) refl

module _ (shown : Packet → List ℕ) where
  pub windows_more : (p : ℕ × Packet) (ps : List (ℕ × Packet)) → Rises (p ∷ ps)
      → windows_in shown (p ∷ ps) ≡ (p.0, map shown (map record_at (take (first_run (p ∷ ps)) (p ∷ ps)))) ∷ windows_in shown (drop (first_run (p ∷ ps)) (p ∷ ps))
  windows_more p ps r =
      let xs : List (ℕ × Packet) = p ∷ ps in
      let rest : List (ℕ × Packet) = drop (first_run xs) xs in
      ap (map (window_in shown xs)) (windows_step (λ w qs. []) p ps r)
      ∙ ap (λ (qs : List Packet). (p.0, map shown qs) ∷ map (window_in shown xs) (windows_of rest)) (here p ps r)
      ∙ ap (λ (ws : List Window). (p.0, map shown (map record_at (take (first_run xs) xs))) ∷ ws)
      (map_over (window_in shown xs) (window_in shown rest) (λ n. p.0 < n) (λ n lt. ap (λ (qs : List Packet). (n, map shown qs)) (later p ps n lt)) (windows_of rest) (once_above p.0 rest (run_above p.0 ps r.0 r.1)))

  -- the windows of records rise
  rising_within : (fuel : ℕ) (before : Option ℕ) (ps : List (ℕ × Packet)) → length ps ≤ fuel → AllByRecursion (λ q. IsAbove before q.0) ps → Rises ps → AreRising before (windows_in shown ps)
  rising_within fuel before [] few above r = tt
  rising_within zero before (p ∷ ps) few above r = absurd (omega arith)
  rising_within (suc fuel) before (p ∷ ps) few above r =
      let rest : List (ℕ × Packet) = drop (run_of p.0 ps) ps in
      let long = length-drop (run_of p.0 ps) ps in
      subst (AreRising before) (sym (windows_more p ps r)) (above.0, rising_within fuel (Some p.0) rest (omega arith) (run_above p.0 ps r.0 r.1) (drop_rises (run_of p.0 ps) ps r.1))

  pub rising_above : (before : ℕ) (ps : List (ℕ × Packet)) → Above before ps → Rises ps → AreRising (Some before) (windows_in shown ps)
  rising_above before ps above r = rising_within (length ps) (Some before) ps (omega arith) above r

-- ---- what is left

module _ (wording : Wording) (shown : Packet → List ℕ) where
  -- the blocks of the windows that are left after those that are closed, and all windows
  abbrev pub left_outcome : List Window → List (ℕ × Packet) → Outcome (List Window)
  left_outcome closed ys = record { text = blocks (block_in wording shown (closed ++ windows_in shown ys)) ys; end = cond (all_few ys) (Ok (closed ++ windows_in shown ys)) (Err (Refused TooLarge)) }

  pub left_none : (closed : List Window) → left_outcome closed [] ≡ silent (Ok closed)
  left_none closed = ap (λ (ws : List Window). silent (Ok ws)) (append-nil closed)

  -- the next window has too many records
  pub left_large : (closed : List Window) (ys : List (ℕ × Packet)) → Rises ys → most_records < first_run ys → left_outcome closed ys ≡ silent (Err (Refused TooLarge))
  left_large closed [] r large = absurd (omega arith)
  left_large closed (p ∷ ps) r large =
      let block : ℕ → List Packet → List ℕ = block_in wording shown (closed ++ windows_in shown (p ∷ ps)) in
      let no : nat_le (first_run (p ∷ ps)) most_records ≡ false = lt-leb (first_run (p ∷ ps)) most_records large in
      let next : List ℕ = block p.0 (map record_at (take (first_run (p ∷ ps)) (p ∷ ps))) ++ blocks block (drop (first_run (p ∷ ps)) (p ∷ ps)) in
      let none : blocks block (p ∷ ps) ≡ [] = blocks_step block p ps r ∙ ap (λ n. cond (nat_le n most_records) next []) (run_long p ps) ∙ ap (λ b. cond b next []) no in
      let few : all_few (p ∷ ps) ≡ false = few_step block p ps r ∙ ap (λ b. b && all_few (drop (first_run (p ∷ ps)) (p ∷ ps))) (few_run p ps r ∙ no) in
      made none few
    where
      made : {s : List ℕ} {b : Bool} → s ≡ [] → b ≡ false → ◌≡◌ {A = Outcome (List Window)} (record { text = s; end = cond b (Ok (closed ++ windows_in shown (p ∷ ps))) (Err (Refused TooLarge)) }) (silent (Err (Refused TooLarge)))
      made e f = rw (e, f) refl

  -- The next window has few enough records: its block comes first. It depends on no later window.
  pub left_next : (closed : List Window) (ys : List (ℕ × Packet)) → Rises ys → 0 < length ys → first_run ys ≤ most_records → (number : ℕ) (packets : List Packet) → number ≡ first_number ys → packets ≡ map record_at (take (first_run ys) ys)
      → AreRising None (closed ++ (number, map shown packets) ∷ [])
      → ((more : List Window) → AreRising None (closed ++ (number, map shown packets) ∷ more) → wording.block (closed ++ (number, map shown packets) ∷ more) number (map shown packets) ≡ wording.block (closed ++ (number, map shown packets) ∷ []) number (map shown packets))
      → left_outcome closed ys ≡ record {
        text = wording.block (closed ++ (number, map shown packets) ∷ []) number (map shown packets) ++ (left_outcome (closed ++ (number, map shown packets) ∷ []) (drop (first_run ys) ys)).text;
        end = (left_outcome (closed ++ (number, map shown packets) ∷ []) (drop (first_run ys) ys)).end;
      }
  left_next closed [] r some few number packets number_is packets_are rising causal = absurd (omega arith)
  left_next closed (p ∷ ps) r some few number packets number_is packets_are rising causal =
      let ys : List (ℕ × Packet) = p ∷ ps in
      let left : List (ℕ × Packet) = drop (first_run ys) ys in
      let window : Window = (number, map shown packets) in
      let all : List Window = closed ++ windows_in shown ys in
      let split : all ≡ closed ++ window ∷ windows_in shown left =
      ap (λ (ws : List Window). closed ++ ws) (windows_more shown p ps r ∙ ap (λ (n : ℕ). (n, map shown (map record_at (take (first_run ys) ys))) ∷ windows_in shown left) (sym number_is) ∙ ap (λ (qs : List Packet). (number, map shown qs) ∷ windows_in shown left) (sym packets_are)) in
      let joined : all ≡ (closed ++ window ∷ []) ++ windows_in shown left = split ∙ sym (append_assoc closed (window ∷ []) (windows_in shown left)) in
      let block : ℕ → List Packet → List ℕ = block_in wording shown all in
      let yes-few : nat_le (first_run ys) most_records ≡ true = le-leb (first_run ys) most_records few in
      let next : List ℕ = block p.0 (map record_at (take (first_run ys) ys)) ++ blocks block left in
      let above : Above p.0 left = run_above p.0 ps r.0 r.1 in
      let following : AreRising (Some number) (windows_in shown left) = rising_above shown number left (rw number_is above) (drop_rises (first_run ys) ys r) in
      let here_is : block number packets ≡ wording.block (closed ++ window ∷ []) number (map shown packets) =
      ap (λ (ws : List Window). wording.block ws number (map shown packets)) split ∙ causal (windows_in shown left) (rising_join None closed number (map shown packets) (map shown packets) (windows_in shown left) rising following) in
      let text : blocks block ys ≡ wording.block (closed ++ window ∷ []) number (map shown packets) ++ blocks (block_in wording shown ((closed ++ window ∷ []) ++ windows_in shown left)) left =
      blocks_step block p ps r ∙ ap (λ n. cond (nat_le n most_records) next []) (run_long p ps) ∙ ap (λ b. cond b next []) yes-few
      ∙ ap (λ n. block n (map record_at (take (first_run ys) ys)) ++ blocks block left) (sym number_is) ∙ ap (λ qs. block number qs ++ blocks block left) (sym packets_are)
      ∙ ap (λ (bytes : List ℕ). bytes ++ blocks block left) here_is
      ∙ ap (λ (ws : List Window). wording.block (closed ++ window ∷ []) number (map shown packets) ++ blocks (block_in wording shown ws) left) joined in
      let few_all : all_few ys ≡ all_few left = few_step block p ps r ∙ ap (λ b. b && all_few left) (few_run p ps r ∙ yes-few) in
      made text few_all joined
    where
      made : {s t : List ℕ} {a b : Bool} {m n : List Window} → s ≡ t → a ≡ b → m ≡ n → ◌≡◌ {A = Outcome (List Window)} (record { text = s; end = cond a (Ok m) (Err (Refused TooLarge)) }) (record { text = t; end = cond b (Ok n) (Err (Refused TooLarge)) })
      made e f g = rw (e, f, g) refl

-- ---- stops

-- what is looked at after a window that may stop
abbrev pub stops_or : {A : Type 0} → Option Fault → Outcome A → Outcome A
stops_or None whole = whole
stops_or (Some fault) whole = silent (Err (Refused fault))

first_of : {A : Type 0} (stop first : Option Fault) (block : ℕ → List ℕ) (n : ℕ) (ns : List ℕ) (whole : Outcome A)
    → stopped (option_or stop first) (flat_map block (cond (is_none stop) (n ∷ ns) [])) whole ≡ stops_or stop (stopped first (block n ++ flat_map block ns) whole)
first_of None first block n ns whole = refl
first_of (Some fault) first block n ns whole = refl

module _ (f g : ℕ → Option Fault) (b c : ℕ → List ℕ) (P : ℕ → Type 0) (stop : (n : ℕ) → P n → f n ≡ g n) (block : (n : ℕ) → P n → b n ≡ c n) where
  stop_over : (ns : List ℕ) → AllByRecursion P ns → first_stop f ns ≡ first_stop g ns
  stop_over [] h = refl
  stop_over (n ∷ ns) h = rw (stop n h.0, stop_over ns h.1) refl

  below_over : (ns : List ℕ) → AllByRecursion P ns → blocks_below f b ns ≡ blocks_below g c ns
  below_over [] h = refl
  below_over (n ∷ ns) h =
      ap (λ (s : Option Fault). flat_map b (cond (is_none s) (n ∷ while_holds (λ w. is_none (f w)) ns) [])) (stop n h.0) ∙ of (g n) (below_over ns h.1)
    where
      of : (s : Option Fault) → blocks_below f b ns ≡ blocks_below g c ns
          → flat_map b (cond (is_none s) (n ∷ while_holds (λ w. is_none (f w)) ns) []) ≡ flat_map c (cond (is_none s) (n ∷ while_holds (λ w. is_none (g w)) ns) [])
      of None same = ap (λ (t : List ℕ). t ++ blocks_below f b ns) (block n h.0) ∙ ap (λ (t : List ℕ). c n ++ t) same
      of (Some fault) same = refl

all_while : (t : ℕ → Bool) (P : ℕ → Type 0) (ns : List ℕ) → AllByRecursion P ns → AllByRecursion P (while_holds t ns)
all_while t P [] h = tt
all_while t P (n ∷ ns) h = by_test (t n) (λ is. rw is (h.0, all_while t P ns h.1)) (λ isnt. rw isnt tt)

-- a window with too many records isn't closed, and none after it is
pub answered_large : (p : ℕ × Packet) (ps : List (ℕ × Packet)) → Rises (p ∷ ps) → most_records < first_run (p ∷ ps) → answered (p ∷ ps) ≡ []
answered_large p ps r large =
    let no : nat_le (first_run (p ∷ ps)) most_records ≡ false = lt-leb (first_run (p ∷ ps)) most_records large in
    answered_step (λ w qs. []) p ps r ∙ ap (λ b. cond b (p.0 ∷ answered (drop (first_run (p ∷ ps)) (p ∷ ps))) []) (few_run p ps r ∙ no)

module _ (wording : Wording) (shown : Packet → List ℕ) where
  abbrev pub stop_at : List Window → List (ℕ × Packet) → ℕ → Option Fault
  stop_at windows ys w = stop_in wording shown windows w (in_window w ys)

  abbrev pub block_at : List Window → List (ℕ × Packet) → ℕ → List ℕ
  block_at windows ys w = block_in wording shown windows w (in_window w ys)

  -- of the windows that are left: why the first one that stops does, and the blocks of those below it
  abbrev pub stop_left : List Window → List (ℕ × Packet) → Option Fault
  stop_left closed ys = first_stop (stop_at (closed ++ windows_in shown ys) ys) (answered ys)

  abbrev pub text_left : List Window → List (ℕ × Packet) → List ℕ
  text_left closed ys = blocks_below (stop_at (closed ++ windows_in shown ys) ys) (block_at (closed ++ windows_in shown ys) ys) (answered ys)

  -- The next window has few enough records: it may stop, and else its block comes first.
  pub stops_next : {A : Type 0} (closed : List Window) (p : ℕ × Packet) (ps : List (ℕ × Packet)) → Rises (p ∷ ps) → first_run (p ∷ ps) ≤ most_records → (packets : List Packet) → packets ≡ map record_at (take (first_run (p ∷ ps)) (p ∷ ps))
      → AreRising None (closed ++ (p.0, map shown packets) ∷ [])
      → ((more : List Window) → AreRising None (closed ++ (p.0, map shown packets) ∷ more) → wording.block (closed ++ (p.0, map shown packets) ∷ more) p.0 (map shown packets) ≡ wording.block (closed ++ (p.0, map shown packets) ∷ []) p.0 (map shown packets))
      → ((more : List Window) → AreRising None (closed ++ (p.0, map shown packets) ∷ more) → wording.stops (closed ++ (p.0, map shown packets) ∷ more) p.0 (map shown packets) ≡ wording.stops (closed ++ (p.0, map shown packets) ∷ []) p.0 (map shown packets))
      → (whole : Outcome A)
      → stopped (stop_left closed (p ∷ ps)) (text_left closed (p ∷ ps)) whole
      ≡ stops_or (wording.stops (closed ++ (p.0, map shown packets) ∷ []) p.0 (map shown packets))
      (stopped (stop_left (closed ++ (p.0, map shown packets) ∷ []) (drop (first_run (p ∷ ps)) (p ∷ ps)))
      (wording.block (closed ++ (p.0, map shown packets) ∷ []) p.0 (map shown packets) ++ text_left (closed ++ (p.0, map shown packets) ∷ []) (drop (first_run (p ∷ ps)) (p ∷ ps))) whole)
  stops_next closed p ps r few packets packets_are rising causal timely whole =
      let ys : List (ℕ × Packet) = p ∷ ps in
      let left : List (ℕ × Packet) = drop (first_run ys) ys in
      let tuples : List (List ℕ) = map shown packets in
      let window : Window = (p.0, tuples) in
      let now : List Window = closed ++ window ∷ [] in
      let all : List Window = closed ++ windows_in shown ys in
      let later_all : List Window = now ++ windows_in shown left in
      let split : all ≡ closed ++ window ∷ windows_in shown left =
      ap (λ (ws : List Window). closed ++ ws) (windows_more shown p ps r ∙ ap (λ (qs : List Packet). (p.0, map shown qs) ∷ windows_in shown left) (sym packets_are)) in
      let joined : all ≡ later_all = split ∙ sym (append_assoc closed (window ∷ []) (windows_in shown left)) in
      let above : Above p.0 left = run_above p.0 ps r.0 r.1 in
      let following : AreRising (Some p.0) (windows_in shown left) = rising_above shown p.0 left above (drop_rises (first_run ys) ys r) in
      let yes-few : nat_le (first_run ys) most_records ≡ true = le-leb (first_run ys) most_records few in
      let ns : List ℕ = answered left in
      let over : AllByRecursion (λ n. p.0 < n) ns = all_while (λ w. is_few w left) (λ n. p.0 < n) (windows_of left) (once_above p.0 left above) in
      let step : answered ys ≡ p.0 ∷ ns = answered_step (λ w qs. []) p ps r ∙ ap (λ b. cond b (p.0 ∷ ns) []) (few_run p ps r ∙ yes-few) in
      let f : ℕ → Option Fault = stop_at all ys in
      let g : ℕ → Option Fault = stop_at later_all left in
      let b : ℕ → List ℕ = block_at all ys in
      let c : ℕ → List ℕ = block_at later_all left in
      let same_stop : (n : ℕ) → p.0 < n → f n ≡ g n = λ n lt. ap (λ (ws : List Window). stop_in wording shown ws n (in_window n ys)) joined ∙ ap (stop_in wording shown later_all n) (later p ps n lt) in
      let same_block : (n : ℕ) → p.0 < n → b n ≡ c n = λ n lt. ap (λ (ws : List Window). block_in wording shown ws n (in_window n ys)) joined ∙ ap (block_in wording shown later_all n) (later p ps n lt) in
      let own : in_window p.0 ys ≡ packets = here p ps r ∙ sym packets_are in
      let rising_all : AreRising None (closed ++ window ∷ windows_in shown left) = rising_join None closed p.0 tuples tuples (windows_in shown left) rising following in
      let stop_is : f p.0 ≡ wording.stops now p.0 tuples =
      ap (stop_in wording shown all p.0) own ∙ ap (λ (ws : List Window). wording.stops ws p.0 tuples) split ∙ timely (windows_in shown left) rising_all in
      let block_is : b p.0 ≡ wording.block now p.0 tuples =
      ap (block_in wording shown all p.0) own ∙ ap (λ (ws : List Window). wording.block ws p.0 tuples) split ∙ causal (windows_in shown left) rising_all in
      ap (λ (ms : List ℕ). stopped (first_stop f ms) (blocks_below f b ms) whole) step
      ∙ first_of (f p.0) (first_stop f ns) b p.0 (while_holds (λ w. is_none (f w)) ns) whole
      ∙ ap (λ (s : Option Fault). stops_or s (stopped (first_stop f ns) (b p.0 ++ blocks_below f b ns) whole)) stop_is
      ∙ ap (λ (text : List ℕ). stops_or (wording.stops now p.0 tuples) (stopped (first_stop f ns) (text ++ blocks_below f b ns) whole)) block_is
      ∙ ap (λ (s : Option Fault). stops_or (wording.stops now p.0 tuples) (stopped s (wording.block now p.0 tuples ++ blocks_below f b ns) whole)) (stop_over f g b c (λ n. p.0 < n) same_stop same_block ns over)
      ∙ ap (λ (text : List ℕ). stops_or (wording.stops now p.0 tuples) (stopped (first_stop g ns) (wording.block now p.0 tuples ++ text) whole)) (below_over f g b c (λ n. p.0 < n) same_stop same_block ns over)
