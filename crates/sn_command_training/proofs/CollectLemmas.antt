-- One record after another is collected.
use Rattle.std.proofs.Common.{◌≡◌, ℕ, zero, suc, ◌+◌, ◌≤◌, ◌<◌, List, [], ◌∷◌, ◌++◌, map, length, length-append, replicate, refl, ap, sym, subst, ◌∙◌, append_assoc, take, get_or, Result, Ok, Err, arith}
use Rattle.std.specs.List.{AllByRecursion}
use Rattle.std.proofs.lemmas.List.{length-map, length-take-le, map-append, take_more}
use Rattle.sn_base.proofs.Lists.{all_weaker}
use Rattle.sn_cost_training.specs.Trained.{Training, none, with_window}
use Rattle.sn_pcap.specs.declared.packet.Packet.{Packet}
use Rattle.sn_windows.specs.Blocks.{most_records}
use Rattle.sn_windows.specs.Numbering.{Numbering, after, begun, next_count, next_number, stepped}
use Rattle.sn_windows.specs.NumberingOf.{numbering}
use Rattle.sn_windows.specs.Windows.{number_at, numbered}
use Rattle.sn_windows.specs.declared.windows.TooMany.{TooMany}
use Rattle.sn_windows.specs.declared.windows.Windows.{Windows}
use Rattle.sn_windows.proofs.NumberLemmas.{numbered_is}
use Rattle.sn_command_training.specs.declared.collected.Collected.{Collected}
use Rattle.sn_command_training.specs.Collecting.{Collects, HasCollected, IsCollected, IsOver, Seen, seen_time, seen_tuple, training_of_seen, with_current}
use Rattle.sn_command_training.proofs.NumberLemmas.{after_push, as_many_numbers, next_few, numbers_push}

-- the numbers of records, one record more
numbers_more : (window : ℕ) (seen : List Seen) (one : Seen) → map number_at (numbered seen_time window (seen ++ one ∷ [])) ≡ map number_at (numbered seen_time window seen) ++ next_number (after (begun window) (map seen_time seen)) one.0 ∷ []
numbers_more window seen one =
    ap (map number_at) (sym (numbered_is seen_time window (seen ++ one ∷ []))) ∙ numbers_push seen_time (begun window) seen one
    ∙ ap (λ (ns : List ℕ). ns ++ next_number (after (begun window) (map seen_time seen)) one.0 ∷ []) (ap (map number_at) (numbered_is seen_time window seen))

trained_more : (window : ℕ) (seen : List Seen) (one : Seen) (number : ℕ) → number ≡ next_number (after (begun window) (map seen_time seen)) one.0
    → training_of_seen window (seen ++ one ∷ []) ≡ with_window (training_of_seen window seen) number (one.1 ∷ [])
trained_more window seen one number is =
    ap (λ (ts : List (List ℕ)). record { tuples = ts; numbers = map number_at (numbered seen_time window (seen ++ one ∷ [])) }) (map-append seen_tuple seen (one ∷ []))
    ∙ ap (λ (ns : List ℕ). record { tuples = map seen_tuple seen ++ one.1 ∷ []; numbers = ns })
    (numbers_more window seen one ∙ ap (λ (n : ℕ). map number_at (numbered seen_time window seen) ++ n ∷ []) (sym is))

copies_more : (k n : ℕ) → replicate (k + 1) n ≡ replicate k n ++ n ∷ []
copies_more zero n = refl
copies_more (suc k) n = let next : suc k + 1 ≡ suc (k + 1) = omega arith in ap (λ (m : ℕ). replicate m n) next ∙ ap (λ (ns : List ℕ). n ∷ ns) (copies_more k n)

-- a tuple more of a window
window_more : (training : Training) (number : ℕ) (tuples : List (List ℕ)) (tuple : List ℕ) → with_window training number (tuples ++ tuple ∷ []) ≡ with_window (with_window training number tuples) number (tuple ∷ [])
window_more training number tuples tuple =
    ap (λ (ts : List (List ℕ)). record { tuples = ts; numbers = training.numbers ++ replicate (length (tuples ++ tuple ∷ [])) number }) (sym (append_assoc training.tuples tuples (tuple ∷ [])))
    ∙ ap (λ (k : ℕ). record { tuples = (training.tuples ++ tuples) ++ tuple ∷ []; numbers = training.numbers ++ replicate k number }) (length-append tuples (tuple ∷ []))
    ∙ ap (λ (ns : List ℕ). record { tuples = (training.tuples ++ tuples) ++ tuple ∷ []; numbers = training.numbers ++ ns }) (copies_more (length tuples) number)
    ∙ ap (λ (ns : List ℕ). record { tuples = (training.tuples ++ tuples) ++ tuple ∷ []; numbers = ns }) (sym (append_assoc training.numbers (replicate (length tuples) number) (number ∷ [])))

times_more : (seen : List Seen) (one : Seen) (window : ℕ) → stepped (after (begun window) (map seen_time seen)) one.0 ≡ after (begun window) (map seen_time (seen ++ one ∷ []))
times_more seen one window = sym (after_push (begun window) (map seen_time seen) one.0) ∙ ap (after (begun window)) (sym (map-append seen_time seen (one ∷ [])))

all_copies : (P : ℕ → Type 0) (k n : ℕ) → P n → AllByRecursion P (replicate k n)
all_copies P zero n one = tt
all_copies P (suc k) n one = (one, all_copies P k n one)

all_both : (P : ℕ → Type 0) (ms ns : List ℕ) → AllByRecursion P ms → AllByRecursion P ns → AllByRecursion P (ms ++ ns)
all_both P [] ns a b = b
all_both P (m ∷ ms) ns a b = (a.0, all_both P ms ns a.1 b)

one_longer : {X : Type 0} (xs : List X) (x : X) → length (xs ++ x ∷ []) ≡ length xs + 1
one_longer xs x = length-append xs (x ∷ [])

-- nothing is collected
pub none_collected : (window : ℕ) (c : Collected) → numbering c.windows ≡ begun window → c.over ≡ none → c.tuples ≡ [] → c.count ≡ 0 → IsCollected window [] c
none_collected window c windows over tuples count = record {
  all = ap (λ (t : Training). with_window t c.windows.number c.tuples) over ∙ ap (λ (ts : List (List ℕ)). with_window none c.windows.number ts) tuples;
  numbering = windows;
  below = subst (λ (t : Training). AllByRecursion (λ (n : ℕ). n < c.windows.number) t.numbers) (sym over) tt;
  count = count;
  few = omega arith;
}

module _ (window : ℕ) (seen : List Seen) (one : Seen) (before : Collected) (is : IsCollected window seen before) (windows : Windows) (stepped_is : numbering windows ≡ stepped (numbering before.windows) one.0) where
  numbering_more : numbering windows ≡ after (begun window) (map seen_time (seen ++ one ∷ []))
  numbering_more = stepped_is ∙ ap (λ (s : Numbering). stepped s one.0) is.numbering ∙ times_more seen one window

  number_is : windows.number ≡ next_number (after (begun window) (map seen_time seen)) one.0
  number_is = ap (λ (s : Numbering). s.number) stepped_is ∙ ap (λ (s : Numbering). next_number s one.0) is.numbering

  number_least : before.windows.number ≤ windows.number
  number_least = let e : windows.number ≡ next_number (numbering before.windows) one.0 = ap (λ (s : Numbering). s.number) stepped_is in omega (arith, e)

  -- a record more of the current window
  pub same_window : (now : Collected) → windows.number ≡ before.windows.number → now.windows ≡ windows → now.over ≡ before.over → now.tuples ≡ before.tuples ++ one.1 ∷ [] → now.count ≡ before.count + 1 → length seen < most_records
      → IsCollected window (seen ++ one ∷ []) now
  same_window now same windows_are over tuples count room =
      let longer = one_longer seen one in
      let counted = is.count in
      let number : now.windows.number ≡ windows.number = ap (λ (w : Windows). w.number) windows_are in
      record {
        all = ap (λ (t : Training). with_window t now.windows.number now.tuples) over ∙ ap (λ (n : ℕ). with_window before.over n now.tuples) (number ∙ same) ∙ ap (with_window before.over before.windows.number) tuples
            ∙ window_more before.over before.windows.number before.tuples one.1 ∙ ap (λ (t : Training). with_window t before.windows.number (one.1 ∷ [])) is.all
            ∙ sym (trained_more window seen one before.windows.number (sym same ∙ number_is));
        numbering = ap numbering windows_are ∙ numbering_more;
        below = subst (λ (n : ℕ). AllByRecursion (λ (m : ℕ). m < n) now.over.numbers) (sym (number ∙ same)) (subst (λ (t : Training). AllByRecursion (λ (m : ℕ). m < before.windows.number) t.numbers) (sym over) is.below);
        count = omega (arith, count, counted, longer);
        few = omega (arith, longer, room);
      }

  -- a record that begins the next window
  pub other_window : (turned now : Collected) → (windows.number ≡ before.windows.number → ⊥) → IsOver window seen before turned → now.windows ≡ windows → now.over ≡ turned.over → now.tuples ≡ turned.tuples ++ one.1 ∷ []
      → now.count ≡ turned.count + 1 → length seen < most_records → IsCollected window (seen ++ one ∷ []) now
  other_window turned now other ended windows_are over tuples count room =
      let longer = one_longer seen one in
      let counted = is.count in
      let kept = ended.count in
      let least = number_least in
      let number : now.windows.number ≡ windows.number = ap (λ (w : Windows). w.number) windows_are in
      let above : before.windows.number < windows.number = omega (arith, least, other) in
      let all_over : now.over ≡ with_current before = over ∙ ended.over ∙ sym is.all in
      let earlier : AllByRecursion (λ (m : ℕ). m < windows.number) (with_current before).numbers =
      all_both (λ (m : ℕ). m < windows.number) before.over.numbers (replicate (length before.tuples) before.windows.number)
      (all_weaker (λ (m : ℕ). m < before.windows.number) (λ (m : ℕ). m < windows.number) (λ m less. omega (arith, less, above)) before.over.numbers is.below)
      (all_copies (λ (m : ℕ). m < windows.number) (length before.tuples) before.windows.number above) in
      record {
        all = ap (λ (t : Training). with_window t now.windows.number now.tuples) (over ∙ ended.over) ∙ ap (λ (n : ℕ). with_window (training_of_seen window seen) n now.tuples) number
            ∙ ap (with_window (training_of_seen window seen) windows.number) (tuples ∙ ap (λ (ts : List (List ℕ)). ts ++ one.1 ∷ []) ended.none)
            ∙ sym (trained_more window seen one windows.number number_is);
        numbering = ap numbering windows_are ∙ numbering_more;
        below = subst (λ (n : ℕ). AllByRecursion (λ (m : ℕ). m < n) now.over.numbers) (sym number) (subst (λ (t : Training). AllByRecursion (λ (m : ℕ). m < windows.number) t.numbers) (sym all_over) earlier);
        count = omega (arith, count, kept, counted, longer);
        few = omega (arith, longer, room);
      }

-- no window has too many records before there are too many
pub none_too_many : (window : ℕ) (seen : List Seen) (c : Collected) (time : ℕ) → IsCollected window seen c → length seen < most_records → most_records ≤ next_count (numbering c.windows) time → ⊥
none_too_many window seen c time is room many =
    let within : next_count (numbering c.windows) time ≤ length (map seen_time seen) = subst (λ (s : Numbering). next_count s time ≤ length (map seen_time seen)) (sym is.numbering) (next_few window (map seen_time seen) time) in
    let long : length (map seen_time seen) ≡ length seen = length-map seen seen_time in
    omega (arith, room, many, within, long)

-- what is trained on has no more records than may be
pub few_numbers : (window : ℕ) (seen : List Seen) → length seen ≤ most_records → length (training_of_seen window seen).numbers ≤ most_records
few_numbers window seen few = let many = as_many_numbers seen_time window seen in omega (arith, many, few)

-- packets one after another, of which the first i came
module _ (show : Packet → Seen) (seen : List Seen) (packets : List Packet) (i : ℕ) (some : i < length packets) where
  pub shown_more : (d : Packet) (one : Seen) → one ≡ show (get_or packets i d) → (seen ++ map show (take i packets)) ++ one ∷ [] ≡ seen ++ map show (take (i + 1) packets)
  shown_more d one is =
      append_assoc seen (map show (take i packets)) (one ∷ []) ∙ ap (λ (s : Seen). seen ++ (map show (take i packets) ++ s ∷ [])) is
      ∙ ap (λ (ss : List Seen). seen ++ ss) (sym (map-append show (take i packets) (get_or packets i d ∷ [])))
      ∙ ap (λ (ps : List Packet). seen ++ map show ps) (sym (take_more packets i d some))

  pub too_many_shown : length (seen ++ map show (take i packets)) ≡ most_records → most_records < length seen + length (map show packets)
  too_many_shown full =
      let a = length-append seen (map show (take i packets)) in
      let b = length-map (take i packets) show in
      let c = length-take-le i packets (omega (arith, some)) in
      let d = length-map packets show in
      omega (arith, full, a, b, c, d, some)

  -- a packet more is collected
  pub all_more : (window : ℕ) (d : Packet) (one : Seen) (taken : Result (Unit {0}) TooMany) (value : Unit {0}) (now : Collected) → Collects window (seen ++ map show (take i packets)) one taken now → taken ≡ Ok value
      → one ≡ show (get_or packets i d) → IsCollected window (seen ++ map show (take (i + 1) packets)) now
  all_more window d one taken value now is same shows =
      let more = subst (λ (r : Result (Unit {0}) TooMany). Collects window (seen ++ map show (take i packets)) one r now) same is in
      subst (λ (ss : List Seen). IsCollected window ss now) (shown_more d one shows) more

  -- or there are too many
  pub all_many : (window : ℕ) (one : Seen) (taken : Result (Unit {0}) TooMany) (many : TooMany) (now : Collected) → Collects window (seen ++ map show (take i packets)) one taken now → taken ≡ Err many
      → (most_records < length seen + length (map show packets)) × HasCollected now
  all_many window one taken many now is same =
      let full = subst (λ (r : Result (Unit {0}) TooMany). Collects window (seen ++ map show (take i packets)) one r now) same is in
      (too_many_shown full.0, (window, seen ++ map show (take i packets), full.1))

pub pair_same : (time : ℕ) (t u : List ℕ) → t ≡ u → ◌≡◌ {A = Seen} (time, t) (time, u)
pair_same time t u e = ap (λ (x : List ℕ). (time, x)) e
