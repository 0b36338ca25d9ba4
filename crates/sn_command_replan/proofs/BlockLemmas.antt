-- The block of a window in its epoch, and how many items were sent, over plain values.
use Rattle.std.proofs.Common.{◌≡◌, ℕ, zero, suc, ◌+◌, List, [], ◌∷◌, ◌++◌, length, true, None, refl, ap, sym, ◌∙◌, arith}
use Rattle.std.specs.List.{sum_by}
use Rattle.std.proofs.lemmas.List.Sums.{sum_by-append, sum_by-cons}
use Rattle.sn_command_run.specs.Planned.{Planned, answers_at, as_they_are, emitted_in}
use Rattle.sn_command_run.proofs.AlongLemmas.{next_answers, next_right, rising_front, sent_more, sent_right}
use Rattle.sn_command_search.specs.declared.certificate.Certificate.{Certificate}
use Rattle.sn_command_replan.specs.Replan.{Followed, along, heading, last_block, sent_in}
use Rattle.sn_command_replan.specs.Standing.{heading_next}
use Rattle.sn_out.specs.Text.{block_text}
use Rattle.sn_plan_fit.specs.Fits.{AreEntriesOf}
use Rattle.sn_replan.specs.Epochs.{Span}
use Rattle.sn_types.specs.declared.answers.Answers.{Answers}
use Rattle.sn_windows.specs.Rising.{AreRising, Window}

-- what stands before the block of a window
pub heading_is : (before : List Window) (v : Window) (number : ℕ) (plan : Certificate) → heading (before ++ v ∷ []) number plan ≡ heading_next before number plan
heading_is [] v zero plan = refl
heading_is [] v (suc number) plan = refl
heading_is (w ∷ []) v zero plan = refl
heading_is (w ∷ []) v (suc number) plan = refl
heading_is (w ∷ u ∷ us) v zero plan = refl
heading_is (w ∷ u ∷ us) v (suc number) plan = refl

module _ (f : Followed) where
  last_step : (number : ℕ) (a : Span Certificate) (more : List (Span Certificate)) (b : Span Certificate) (w : ℕ) → last_block f number (a ∷ (more ++ b ∷ [])) w ≡ last_block f (suc number) (more ++ b ∷ []) w
  last_step number a [] b w = refl
  last_step number a (x ∷ xs) b w = refl

  last_from : (number : ℕ) (front : List (Span Certificate)) (a : Span Certificate) (w : ℕ)
      → last_block f number (front ++ a ∷ []) w ≡ heading a.windows (length front + number) a.plan ++ block_text f.queries (answers_at (along f a.plan) a.windows w) true
  last_from number [] a w =
      ap (λ (n : ℕ). heading a.windows n a.plan ++ block_text f.queries (answers_at (along f a.plan) a.windows w) true) (let e : number ≡ 0 + number = omega arith in e)
  last_from number (x ∷ xs) a w =
      last_step number x xs a w ∙ last_from (suc number) xs a w
      ∙ ap (λ (n : ℕ). heading a.windows n a.plan ++ block_text f.queries (answers_at (along f a.plan) a.windows w) true) (let e : length xs + suc number ≡ length (x ∷ xs) + number = omega arith in e)

  -- the block of the last window
  pub last_is : (front : List (Span Certificate)) (a : Span Certificate) (w : ℕ)
      → last_block f 0 (front ++ a ∷ []) w ≡ heading a.windows (length front) a.plan ++ block_text f.queries (answers_at (along f a.plan) a.windows w) true
  last_is front a w =
      last_from 0 front a w
      ∙ ap (λ (n : ℕ). heading a.windows n a.plan ++ block_text f.queries (answers_at (along f a.plan) a.windows w) true) (let e : length front + 0 ≡ length front = omega arith in e)

  -- one epoch more
  pub sent_front : (front : List (Span Certificate)) (a : Span Certificate) → sent_in f (front ++ a ∷ []) ≡ sent_in f front + emitted_in (along f a.plan) a.windows
  sent_front front a =
      let sent : Span Certificate → ℕ = λ b. emitted_in (along f b.plan) b.windows in
      sum_by-append sent front (a ∷ []) ∙ ap (λ (n : ℕ). sum_by sent front + n) (sum_by-cons sent a [] ∙ (let e : sent a + 0 ≡ sent a = omega arith in e))

-- one window more
pub emitted_more : (p : Planned) (closed : List Window) (number : ℕ) (tuples : List (List ℕ)) → AreEntriesOf p.queries p.entries → AreRising None (closed ++ (number, tuples) ∷ [])
    → emitted_in p (closed ++ (number, tuples) ∷ []) ≡ emitted_in p closed + (answers_at p (closed ++ (number, tuples) ∷ []) number).emitted
emitted_more p closed number tuples h rising =
    let all : List Window = closed ++ (number, tuples) ∷ [] in
    sym (sent_right p as_they_are all h rising)
    ∙ sent_more p as_they_are closed number tuples
    ∙ ap (λ (n : ℕ). n + (next_answers p closed number tuples).emitted) (sent_right p as_they_are closed h (rising_front None closed ((number, tuples) ∷ []) rising))
    ∙ ap (λ (a : Answers). emitted_in p closed + a.emitted) (next_right p closed number tuples h rising)
