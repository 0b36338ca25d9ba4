-- The answers of windows that come one after another are those along the plan.
use Rattle.std.proofs.Common.{◌≡◌, ℕ, ◌+◌, List, [], ◌∷◌, ◌++◌, map, sum, Option, None, Some, ap, ◌∙◌, arith}
use Rattle.std.proofs.lemmas.List.{map-append}
use Rattle.std.proofs.lemmas.List.Sums.{sum_by-append, sum_by-cons}
use Rattle.sn_base.proofs.Lists.{map_both}
use Rattle.sn_windows.specs.Rising.{AreRising, Window}
use Rattle.sn_engine_lockstep.specs.Sources.{kept_in}
use Rattle.sn_engine_lockstep.specs.Windows.{window_answers}
use Rattle.sn_engine_lockstep.proofs.Driving as driving
use Rattle.sn_engine_lockstep.proofs.Driving.{one_more}
use Rattle.sn_engine_lockstep.proofs.Laws.{all_windows}
use Rattle.sn_plan_fit.specs.Fits.{AreEntriesOf}
use Rattle.sn_types.specs.declared.answers.Answers.{Answers}
use Rattle.sn_command_run.specs.Along.{answers_of, last_of, sent_in, reported_of}
use Rattle.sn_command_run.specs.Planned.{Planned, Telling, answers_at, reported_at, reported_emitted_in}

pub rising_front : (before : Option ℕ) (closed more : List Window) → AreRising before (closed ++ more) → AreRising before closed
rising_front before [] more r = tt
rising_front before (w ∷ ws) more r = (r.0, rising_front (Some w.0) ws more r.1)

pub rising_again : (before : Option ℕ) (closed : List Window) (number : ℕ) (tuples other : List (List ℕ)) → AreRising before (closed ++ (number, tuples) ∷ []) → AreRising before (closed ++ (number, other) ∷ [])
rising_again before [] number tuples other r = r
rising_again before (w ∷ ws) number tuples other r = (r.0, rising_again (Some w.0) ws number tuples other r.1)

-- ---- how many were sent

sum_end : (xs : List Answers) (x : Answers) → sum (map (λ (a : Answers). a.emitted) (xs ++ x ∷ [])) ≡ sum (map (λ (a : Answers). a.emitted) xs) + x.emitted
sum_end xs x =
    let sent : Answers → ℕ = λ a. a.emitted in
    ap sum (map-append sent xs (x ∷ [])) ∙ sum_by-append (λ n. n) (map sent xs) (x.emitted ∷ [])
    ∙ ap (λ (n : ℕ). sum (map sent xs) + n) (sum_by-cons (λ n. n) x.emitted [] ∙ (let e : x.emitted + 0 ≡ x.emitted = omega arith in e))

module _ (p : Planned) where
  -- the answers of one window more
  abbrev pub next_answers : List Window → ℕ → List (List ℕ) → Answers
  next_answers closed number tuples = window_answers p.queries p.tables p.entries (kept_in p.queries (last_of p closed) number) number tuples

  pub last_more : (closed : List Window) (number : ℕ) (tuples : List (List ℕ)) → last_of p (closed ++ (number, tuples) ∷ []) ≡ Some (next_answers closed number tuples)
  last_more closed number tuples = driving.last_more p.queries p.tables p.entries closed number tuples

  -- what is reported of them
  pub reported_more : (reported : Telling) (closed : List Window) (number : ℕ) (tuples : List (List ℕ)) → reported_of reported p (closed ++ (number, tuples) ∷ []) ≡ reported_of reported p closed ++ reported (next_answers closed number tuples) ∷ []
  reported_more reported closed number tuples = ap (map reported) (one_more p.queries p.tables p.entries None closed number tuples) ∙ map-append reported (answers_of p closed) (next_answers closed number tuples ∷ [])

  pub sent_more : (reported : Telling) (closed : List Window) (number : ℕ) (tuples : List (List ℕ)) → sent_in reported p (closed ++ (number, tuples) ∷ []) ≡ sent_in reported p closed + (reported (next_answers closed number tuples)).emitted
  sent_more reported closed number tuples = ap (λ (xs : List Answers). sum (map (λ (a : Answers). a.emitted) xs)) (reported_more reported closed number tuples) ∙ sum_end (reported_of reported p closed) (reported (next_answers closed number tuples))

  -- they are the answers along the plan
  pub next_right : (closed : List Window) (number : ℕ) (tuples : List (List ℕ)) → AreEntriesOf p.queries p.entries → AreRising None (closed ++ (number, tuples) ∷ [])
      → next_answers closed number tuples ≡ answers_at p (closed ++ (number, tuples) ∷ []) number
  next_right closed number tuples h rising = driving.next_right p.queries p.tables p.entries closed number tuples h rising

  pub reported_right : (reported : Telling) (closed : List Window) → AreEntriesOf p.queries p.entries → AreRising None closed → reported_of reported p closed ≡ map (λ (w : Window). reported_at reported p closed w.0) closed
  reported_right reported closed h rising = ap (map reported) (all_windows p.queries p.tables p.entries closed h rising) ∙ map_both (λ (w : Window). answers_at p closed w.0) reported closed

  pub sent_right : (reported : Telling) (closed : List Window) → AreEntriesOf p.queries p.entries → AreRising None closed → sent_in reported p closed ≡ reported_emitted_in reported p closed
  sent_right reported closed h rising =
      ap (λ (xs : List Answers). sum (map (λ (a : Answers). a.emitted) xs)) (reported_right reported closed h rising)
      ∙ ap sum (map_both (λ (w : Window). reported_at reported p closed w.0) (λ (a : Answers). a.emitted) closed)
