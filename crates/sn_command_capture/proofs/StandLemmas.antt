-- What is kept in code stands for what is gathered, over plain values.
use Rattle.std.proofs.Common.{◌≡◌, ℕ, ◌+◌, ◌-◌, ◌/◌, ◌<◌, ◌≤◌, List, [], ◌∷◌, ◌++◌, Bool, true, false, cond, ◌&&◌, ◌==◌, Option, None, is_some, unwrap_or, Result, Ok, Err, IfOk, length, refl, ap, sym, subst, ◌∙◌, arith, length-append}
use Rattle.std.proofs.Math.Nat.{zero-div}
use Rattle.std.proofs.lemmas.Bool.{eq-eqb, ne_eqb, true≢false}
use Rattle.sn_base.proofs.Lists.{by_test}
use Rattle.sn_pcap.specs.declared.packet.Ending.{Ending}
use Rattle.sn_command.specs.declared.refusal.Refusal.{Refusal}
use Rattle.sn_command.specs.Refusals.{seen_as}
use Rattle.sn_command.specs.Runs.{Runs}
use Rattle.sn_command.specs.Stages.{Does}
use Rattle.sn_command.specs.Worlds.{World}
use Rattle.sn_windows.specs.declared.windows.Windows.{Windows}
use Rattle.sn_windows.specs.Numbering.{Numbering, next_count, next_first, next_number, stepped}
use Rattle.sn_windows.specs.NumberingOf.{numbering}
use Rattle.sn_command_capture.specs.declared.gathered.Gathered.{Gathered}
use Rattle.sn_command_capture.specs.Gathering.{Gathering, after, closed_as, hand_stop, hand_text, Stands, with_hand}
use Rattle.sn_command_capture.specs.Wording.{Wording}
use Rattle.sn_command_capture.proofs.RisingLemmas.{rising_next, rising_other}
use Rattle.sn_command_capture.proofs.StreamLemmas.{after_here, after_next}
use Rattle.sn_windows.specs.Rising.{AreRising, Window}
use Rattle.sn_windows.specs.Blocks.{most_records}

-- what holds where all went well
pub ok_weaker : {X Y : Type 0} (P Q : X → Type 0) (r : Result X Y) → ((x : X) → P x → Q x) → IfOk r P → IfOk r Q
ok_weaker P Q (Ok x) f h = f x h
ok_weaker P Q (Err e) f h = tt

-- the ending that is reported is the one that was found
pub seen_same : (windows : List Window) (ending : Ending) (r : Result (ℕ × Ending) Refusal) → IfOk r (λ found. found.1 ≡ ending)
    → ◌≡◌ {A = Result (List Window × Ending) Refusal} (seen_as (λ found. (windows, ending)) r) (seen_as (λ found. (windows, found.1)) r)
seen_same windows ending (Ok found) same = ap (λ (e : Ending). Ok (windows, e)) (sym same)
seen_same windows ending (Err refusal) same = refl

-- the first record is of window 0
first_same : (n : Numbering) (time : ℕ) → n.first ≡ None → n.number ≡ 0 → next_number n time ≡ n.number
first_same n time none zero-number =
    let from : next_first n time ≡ time = ap (λ (o : Option ℕ). unwrap_or o time) none in
    let none-yet : (time - next_first n time) / n.window ≡ 0 = ap (λ (k : ℕ). (time - k) / n.window) from ∙ ap (λ (k : ℕ). k / n.window) (let e : time - time ≡ 0 = omega arith in e) ∙ zero-div n.window in
    omega arith

-- the numbers of windows rise
pub above_it : (n : Numbering) (time at_hand number : ℕ) → at_hand ≡ n.number → number ≡ next_number n time → (number ≡ at_hand → ⊥) → at_hand < number
above_it n time at_hand number e f apart =
    let least : n.number ≤ next_number n time = omega arith in
    omega arith

module _ (hand : List Window → ℕ → List (List ℕ) → Type 0) (kept : Gathered) (g : Gathering) (s : Stands hand kept g) where
  pub number_is : g.numbering.number ≡ kept.windows.number
  number_is = ap (λ n. n.number) s.numbering

  -- the current window
  pub at_number : (at_hand : ℕ) → at_hand ≡ kept.windows.number → hand g.closed at_hand g.tuples
  at_number at_hand e = subst (λ (n : ℕ). hand g.closed n g.tuples) (number_is ∙ sym e) s.at_hand

  -- it is closed
  pub closes_hand : (wording : Wording) (at_hand : ℕ) (here there : World) (answer : Result (Unit {0}) Refusal) → at_hand ≡ kept.windows.number → 0 < length g.tuples
      → ((closed : List Window) (tuples : List (List ℕ)) → 0 < length tuples → hand closed at_hand tuples
      → Runs [] (Does (closed_as (wording.stops (closed ++ (at_hand, tuples) ∷ []) at_hand tuples) (wording.block (closed ++ (at_hand, tuples) ∷ []) at_hand tuples) tt)) here answer there)
      → Runs [] (Does (closed_as (hand_stop wording g) (hand_text wording g) tt)) here answer there
  closes_hand wording at_hand here there answer e some f =
      subst (λ (n : ℕ). Runs [] (Does (closed_as (wording.stops (g.closed ++ (n, g.tuples) ∷ []) n g.tuples) (wording.block (g.closed ++ (n, g.tuples) ∷ []) n g.tuples) tt)) here answer there) (e ∙ sym number_is)
      (f g.closed g.tuples some (at_number at_hand e))

  pub few_here : (time : ℕ) → next_count (numbering kept.windows) time < most_records → next_count g.numbering time < most_records
  few_here time few = subst (λ n. next_count n time < most_records) (sym s.numbering) few

  pub many_here : (time : ℕ) → most_records ≤ next_count (numbering kept.windows) time → most_records ≤ next_count g.numbering time
  many_here time many = subst (λ n. most_records ≤ next_count n time) (sym s.numbering) many

  pub same_here : (time : ℕ) → next_number (numbering kept.windows) time ≡ kept.windows.number → next_number g.numbering time ≡ g.numbering.number
  same_here time same = ap (λ n. next_number n time) s.numbering ∙ same ∙ sym number_is

  pub other_here : (time : ℕ) → (next_number (numbering kept.windows) time ≡ kept.windows.number → ⊥) → next_number g.numbering time ≡ g.numbering.number → ⊥
  other_here time other e = other (sym (ap (λ n. next_number n time) s.numbering) ∙ e ∙ number_is)

  -- a later window comes only after some tuples
  pub some_here : (time : ℕ) → (next_number (numbering kept.windows) time ≡ kept.windows.number → ⊥) → 0 < length g.tuples
  some_here time other = by_test kept.some s.some (λ isnt. absurd (other_here time other (first_same g.numbering time (s.fresh isnt).0 (s.fresh isnt).1)))

  -- the next window comes after the current one
  pub rising_at : (time at_hand number : ℕ) → at_hand ≡ kept.windows.number → number ≡ next_number (numbering kept.windows) time → (number ≡ at_hand → ⊥) → AreRising None ((g.closed ++ (at_hand, g.tuples) ∷ []) ++ (number, []) ∷ [])
  rising_at time at_hand number e f apart =
      let least : kept.windows.number ≤ next_number (numbering kept.windows) time = omega arith in
      rising_next g.closed at_hand number g.tuples [] (subst (λ (n : ℕ). AreRising None (g.closed ++ (n, g.tuples) ∷ [])) (number_is ∙ sym e) s.rising) (omega arith)

  -- no record of the current window came before, or as many as its tuples
  joined_count : (time : ℕ) → next_number g.numbering time ≡ g.numbering.number → next_count g.numbering time ≡ length g.tuples
  joined_count time same =
      by_test (is_some g.numbering.first)
      (λ is. ap (λ (b : Bool). cond (b && (next_number g.numbering time == g.numbering.number)) g.numbering.count 0) is
      ∙ ap (λ (b : Bool). cond b g.numbering.count 0) (eq-eqb (next_number g.numbering time) g.numbering.number same) ∙ s.count is)
      (λ isnt. ap (λ (b : Bool). cond (b && (next_number g.numbering time == g.numbering.number)) g.numbering.count 0) isnt
      ∙ sym (ap length (by_test kept.some (λ is. absurd (true≢false (sym (s.begun is) ∙ isnt))) s.none)))

  begun_count : (time : ℕ) → (next_number g.numbering time ≡ g.numbering.number → ⊥) → next_count g.numbering time ≡ 0
  begun_count time other =
      ap (λ (b : Bool). cond (is_some g.numbering.first && b) g.numbering.count 0) (ne_eqb (next_number g.numbering time) g.numbering.number other) ∙ never (is_some g.numbering.first)
    where
      never : (b : Bool) → cond (b && false) g.numbering.count 0 ≡ 0
      never true = refl
      never false = refl

  -- a packet went to the current window
  pub stands_joined : (now : List Window → ℕ → List (List ℕ) → Type 0) (windows : Windows) (time : ℕ) (shown : List ℕ) → numbering windows ≡ stepped (numbering kept.windows) time → next_number (numbering kept.windows) time ≡ kept.windows.number
      → next_count (numbering kept.windows) time < most_records → now g.closed g.numbering.number (g.tuples ++ shown ∷ []) → Stands now (record { windows = windows; closed = kept.closed; some = true }) (after g time shown)
  stands_joined now windows time shown stepped_is same less hand_is =
      let here : next_number g.numbering time ≡ g.numbering.number = same_here time same in
      let counted : next_count g.numbering time ≡ length g.tuples = joined_count time here in
      let room : next_count g.numbering time < most_records = few_here time less in
      let long : length (g.tuples ++ shown ∷ []) ≡ length g.tuples + 1 = length-append g.tuples (shown ∷ []) in
      subst (Stands now (record { windows = windows; closed = kept.closed; some = true })) (sym (after_here (record { first = []; block = λ ws n ts. []; stops = λ ws n ts. None; unfinished = λ ws n ts. []; last = λ ws e. [] }) g time shown here)) (record {
        numbering = ap (λ n. stepped n time) s.numbering ∙ sym stepped_is;
        closed = s.closed;
        some = λ _. omega arith;
        none = λ e. absurd (true≢false e);
        fresh = λ e. absurd (true≢false e);
        begun = λ _. refl;
        count = λ _. omega arith;
        few = omega arith;
        at_hand = subst (λ (n : ℕ). now g.closed n (g.tuples ++ shown ∷ [])) (sym here) hand_is;
        rising = subst (λ (n : ℕ). AreRising None (g.closed ++ (n, g.tuples ++ shown ∷ []) ∷ [])) (sym here) (rising_other g.closed g.numbering.number g.tuples (g.tuples ++ shown ∷ []) s.rising);
      })

  -- a packet began the next window
  pub stands_begun : (now : List Window → ℕ → List (List ℕ) → Type 0) (windows : Windows) (time at_hand number : ℕ) (shown : List ℕ) → numbering windows ≡ stepped (numbering kept.windows) time
      → at_hand ≡ kept.windows.number → number ≡ next_number (numbering kept.windows) time → (number ≡ at_hand → ⊥)
      → now (g.closed ++ (at_hand, g.tuples) ∷ []) number (shown ∷ []) → Stands now (record { windows = windows; closed = kept.closed + 1; some = true }) (after g time shown)
  stands_begun now windows time at_hand number shown stepped_is e f apart hand_is =
      let other : next_number g.numbering time ≡ g.numbering.number → ⊥ = other_here time (λ d. apart (f ∙ d ∙ sym e)) in
      let next_is : number ≡ next_number g.numbering time = f ∙ sym (ap (λ n. next_number n time) s.numbering) in
      let long : length (with_hand g) ≡ length g.closed + 1 = length-append g.closed ((g.numbering.number, g.tuples) ∷ []) in
      let many = s.closed in
      let counted : next_count g.numbering time ≡ 0 = begun_count time other in
      subst (Stands now (record { windows = windows; closed = kept.closed + 1; some = true })) (sym (after_next (record { first = []; block = λ ws n ts. []; stops = λ ws n ts. None; unfinished = λ ws n ts. []; last = λ ws e. [] }) g time shown other)) (record {
        numbering = ap (λ n. stepped n time) s.numbering ∙ sym stepped_is;
        closed = omega arith;
        some = λ _. omega arith;
        none = λ e. absurd (true≢false e);
        fresh = λ e. absurd (true≢false e);
        begun = λ _. refl;
        count = λ _. omega arith;
        few = omega arith;
        at_hand = subst (λ (n : ℕ). now (g.closed ++ (n, g.tuples) ∷ []) (next_number g.numbering time) (shown ∷ [])) (e ∙ sym number_is) (subst (λ (n : ℕ). now (g.closed ++ (at_hand, g.tuples) ∷ []) n (shown ∷ [])) next_is hand_is);
        rising = rising_next g.closed g.numbering.number (next_number g.numbering time) g.tuples (shown ∷ []) s.rising (omega arith);
      })
