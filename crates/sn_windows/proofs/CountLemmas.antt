-- What is counted is how many records so far have the number.
use Rattle.std.proofs.Common.{◌≡◌, ℕ, suc, ◌+◌, ◌<◌, ◌≤◌, List, [], ◌∷◌, ◌++◌, Bool, true, false, cond, ◌&&◌, map, filter, length, refl, ap, sym, ◌∙◌, arith}
use Rattle.std.specs.Prelude.{◌==◌, is_some, if◌then◌else◌}
use Rattle.std.proofs.lemmas.Bool.{eqb-true, eq-eqb, eqb-false, ne_eqb}
use Rattle.sn_base.proofs.Lists.{by_test}
use Rattle.sn_windows.specs.Windows.{number_of, numbered, record_at, in_window}
use Rattle.sn_windows.specs.Numbering.{Numbering, begun, next_number, next_count, stepped, after, numbered_from}
use Rattle.sn_windows.specs.Laws.{itself, IsNumbered}
use Rattle.sn_windows.proofs.NumberLemmas.{numbered_is, number_kept, number_after}

-- how many records are kept that have this number
abbrev standing : Numbering → ℕ → ℕ
standing s m = if is_some s.first && (m == s.number) then s.count else 0

never : (b : Bool) (n : ℕ) → cond (b && false) n 0 ≡ 0
never true n = refl
never false n = refl

standing_other : (s : Numbering) (m : ℕ) → s.number < m → standing s m ≡ 0
standing_other s m lt =
    let ne : (m == s.number) ≡ false = ne_eqb m s.number (λ e. omega arith) in
    ap (λ b. cond (is_some s.first && b) s.count 0) ne ∙ never (is_some s.first) s.count

number_rises : (s : Numbering) (times : List ℕ) → s.number ≤ (after s times).number
number_rises s [] = omega arith
number_rises s (t ∷ ts) =
    let more : next_number s t ≤ (after (stepped s t) ts).number = number_rises (stepped s t) ts in
    let one : s.number ≤ next_number s t = omega arith in
    omega arith

-- the records of a number from a state on, with those that the state has of it
count_from : (m : ℕ) (s : Numbering) (times : List ℕ) → (after s times).number ≤ m → length (in_window m (numbered_from itself s times)) + standing s m ≡ standing (after s times) m
count_from m s [] le = omega arith
count_from m s (t ∷ ts) le =
    let n = next_number s t in
    let next = stepped s t in
    let rest = numbered_from itself next ts in
    let more : length (in_window m rest) + standing next m ≡ standing (after next ts) m = count_from m next ts le in
    let up : n ≤ (after next ts).number = number_rises next ts in
    by_test (n == m)
    (λ is.
    let e : n ≡ m = eqb-true n m is in
    let here : length (in_window m ((n, t) ∷ rest)) ≡ suc (length (in_window m rest)) = ap (λ b. length (map record_at (cond b ((n, t) ∷ filter (λ p. p.0 == m) rest) (filter (λ p. p.0 == m) rest)))) is in
    let mine : (m == n) ≡ true = eq-eqb m n (sym e) in
    let kept : standing next m ≡ standing s n + 1 = ap (λ b. cond b (next_count s t + 1) 0) mine in
    let before : standing s n ≡ standing s m = ap (standing s) e in
    omega arith)
    (λ isnt.
    let ne : n ≡ m → ⊥ = eqb-false n m isnt in
    let lt : n < m = omega arith in
    let here : length (in_window m ((n, t) ∷ rest)) ≡ length (in_window m rest) = ap (λ b. length (map record_at (cond b ((n, t) ∷ filter (λ p. p.0 == m) rest) (filter (λ p. p.0 == m) rest)))) isnt in
    let low : s.number ≤ n = omega arith in
    let none : standing s m ≡ 0 = standing_other s m (omega arith) in
    let none_next : standing next m ≡ 0 = standing_other next m lt in
    omega arith)

pub is_numbered : (window : ℕ) (times : List ℕ) (time : ℕ) → IsNumbered window times time
is_numbered window times time =
    let s = after (begun window) times in
    let m = next_number s time in
    let number : m ≡ number_of window (times ++ time ∷ []) = number_after window times time in
    let low : s.number ≤ m = omega arith in
    let counted : length (in_window m (numbered_from itself (begun window) times)) + 0 ≡ next_count s time = count_from m (begun window) times low in
    let same : length (in_window m (numbered_from itself (begun window) times)) ≡ length (in_window (number_of window (times ++ time ∷ [])) (numbered itself window times)) =
    ap (λ w. length (in_window w (numbered_from itself (begun window) times))) number ∙ ap (λ ps. length (in_window (number_of window (times ++ time ∷ [])) ps)) (numbered_is itself window times) in
    let kept : s.number ≡ number_of window times = number_kept window times in
    record {
      number = number;
      count = omega arith;
      later = omega arith;
    }
