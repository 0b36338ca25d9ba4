-- One window more.
use Rattle.std.proofs.Common.{◌≡◌, ℕ, zero, suc, ◌<◌, List, [], ◌∷◌, ◌++◌, length, replicate, Result, Ok, Err, OnOk, OnErr, ap, sym, ◌∙◌, append_assoc, arith}
use Rattle.std.proofs.lemmas.List.{append-nil}
use Rattle.std.specs.List.{AllByRecursion}
use Rattle.sn_cost_training.specs.declared.training.TrainingWindow.{TrainingWindow}
use Rattle.sn_cost_training.specs.Trained.{Training, with_window}
use Rattle.sn_cost_training.specs.Windows.{IsApart, numbers_in, trained_on, tuples_in}

tuples_push : (ws : List TrainingWindow) (w : TrainingWindow) → tuples_in (ws ++ w ∷ []) ≡ tuples_in ws ++ w.tuples
tuples_push [] w = append-nil w.tuples
tuples_push (v ∷ vs) w = ap (λ (rest : List (List ℕ)). v.tuples ++ rest) (tuples_push vs w) ∙ sym (append_assoc v.tuples (tuples_in vs) w.tuples)

numbers_push : (ws : List TrainingWindow) (w : TrainingWindow) → numbers_in (ws ++ w ∷ []) ≡ numbers_in ws ++ replicate (length w.tuples) w.number
numbers_push [] w = append-nil (replicate (length w.tuples) w.number)
numbers_push (v ∷ vs) w =
    ap (λ (rest : List ℕ). replicate (length v.tuples) v.number ++ rest) (numbers_push vs w)
    ∙ sym (append_assoc (replicate (length v.tuples) v.number) (numbers_in vs) (replicate (length w.tuples) w.number))

-- what is trained on when a window is added
pub window_added : (ws : List TrainingWindow) (w : TrainingWindow) → trained_on (ws ++ w ∷ []) ≡ with_window (trained_on ws) w.number w.tuples
window_added ws w =
    ap (λ (tuples : List (List ℕ)). record { tuples = tuples; numbers = numbers_in (ws ++ w ∷ []) }) (tuples_push ws w)
    ∙ ap (λ (numbers : List ℕ). record { tuples = tuples_in ws ++ w.tuples; numbers = numbers }) (numbers_push ws w)

-- a window without a tuple adds nothing
pub nothing_added : (training : Training) (number : ℕ) (tuples : List (List ℕ)) → tuples ≡ [] → training ≡ with_window training number tuples
nothing_added training number tuples none =
    rw none (ap (λ (ts : List (List ℕ)). record { tuples = ts; numbers = training.numbers }) (sym (append-nil training.tuples))
    ∙ ap (λ (ns : List ℕ). record { tuples = training.tuples ++ []; numbers = ns }) (sym (append-nil training.numbers)))

all_rest : (P : ℕ → Type 0) (xs ys : List ℕ) → AllByRecursion P (xs ++ ys) → AllByRecursion P ys
all_rest P [] ys all = all
all_rest P (x ∷ xs) ys all = all_rest P xs ys all.1

first_of : (P : ℕ → Type 0) (n k : ℕ) (ys : List ℕ) → 0 < k → AllByRecursion P (replicate k n ++ ys) → P n
first_of P n zero ys some all = absurd (omega (arith, some))
first_of P n (suc k) ys some all = all.0

all_push : (P : TrainingWindow → Type 0) (ws : List TrainingWindow) (w : TrainingWindow) → AllByRecursion P ws → P w → AllByRecursion P (ws ++ w ∷ [])
all_push P [] w all one = (one, tt)
all_push P (v ∷ vs) w all one = (all.0, all_push P vs w all.1 one)

-- windows stay apart when one with a greater number is added
pub apart_added : (ws : List TrainingWindow) (w : TrainingWindow) → IsApart ws → 0 < length w.tuples → AllByRecursion (λ (n : ℕ). n < w.number) (numbers_in ws) → IsApart (ws ++ w ∷ [])
apart_added [] w apart some below = (some, (tt, tt))
apart_added (v ∷ vs) w apart some below =
    let number : v.number < w.number = first_of (λ (n : ℕ). n < w.number) v.number (length v.tuples) (numbers_in vs) apart.0 below in (
      apart.0,
      (
        all_push (λ (u : TrainingWindow). v.number < u.number) vs w apart.1.0 number,
        apart_added vs w apart.1.1 some (all_rest (λ (n : ℕ). n < w.number) (replicate (length v.tuples) v.number) (numbers_in vs) below),
      ),
    )

pub apart_after : {E : Type 0} (ws new : List TrainingWindow) (w : TrainingWindow) (result : Result (Unit {0}) E) → OnOk result (new ≡ ws ++ w ∷ []) → OnErr result (new ≡ ws)
    → IsApart ws → 0 < length w.tuples → AllByRecursion (λ (n : ℕ). n < w.number) (numbers_in ws) → IsApart new
apart_after ws new w (Ok _) ok err apart some below = rw ok (apart_added ws w apart some below)
apart_after ws new w (Err e) ok err apart some below = rw err apart

pub added_after : {E : Type 0} (ws new : List TrainingWindow) (w : TrainingWindow) (result : Result (Unit {0}) E) (before : Training) (tuples : List (List ℕ)) → OnOk result (new ≡ ws ++ w ∷ [])
    → trained_on ws ≡ before → w.tuples ≡ tuples → OnOk result (trained_on new ≡ with_window before w.number tuples)
added_after ws new w (Ok _) before tuples ok is same = ap trained_on ok ∙ window_added ws w ∙ ap (λ (t : Training). with_window t w.number w.tuples) is ∙ ap (with_window before w.number) same
added_after ws new w (Err e) before tuples ok is same = tt
