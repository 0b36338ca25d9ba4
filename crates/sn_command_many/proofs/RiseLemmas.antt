-- The windows of several captures rise.
use Rattle.std.proofs.Common.{◌≡◌, ℕ, ◌<◌, ◌≤◌, List, [], ◌∷◌, ◌++◌, map, length, Option, None, Some, refl, ◌∙◌, subst, arith}
use Rattle.std.specs.Prelude.{◌==◌, nat_lt}
use Rattle.std.specs.List.{AllByRecursion, flat_map}
use Rattle.std.proofs.lemmas.Bool.{eqb-false, ltb-true, ltb-false}
use Rattle.std.proofs.lemmas.List.{length-map}
use Rattle.sn_base.proofs.Lists.{by_test}
use Rattle.sn_command_captures.specs.Answered.{Shared, windows_in}
use Rattle.sn_command_captures.specs.Counted.{left_of}
use Rattle.sn_command_captures.specs.declared.share.Share.{Share}
use Rattle.sn_command_many.specs.Joining.{last_number}
use Rattle.sn_command_many.specs.Together.{held_in}
use Rattle.sn_engine_many.specs.Answers.{in_one}
use Rattle.sn_multi.specs.Branches.{together}
use Rattle.sn_refine.proofs.Windows.{earlier, here, later}
use Rattle.sn_windows.specs.Rising.{AreRising, IsAbove}
use Rattle.sn_windows.specs.Windows.{in_window, number_at}
use Rattle.sn_windows_together.specs.Laws.{Rows}
use Rattle.sn_windows_together.specs.Together.{numbers_in, put_number, rising, shared_in}

-- numbers rise
abbrev Up : Option ℕ → List ℕ → Type 0
Up before [] = Unit {0}
Up before (n ∷ ns) = IsAbove before n × Up (Some n) ns

put_up : (before : Option ℕ) (n : ℕ) (ms : List ℕ) → IsAbove before n → Up before ms → Up before (put_number n ms)
put_up before n [] above up = (above, tt)
put_up before n (m ∷ ms) above up =
    by_test (n == m) (λ is. rw is up)
    (λ differs.
    let apart : n ≡ m → ⊥ = eqb-false n m differs in
    by_test (nat_lt n m)
    (λ less. let lt : n < m = ltb-true n m less in rw (differs, less) (above, (lt, up.1)))
    (λ more. let le : m ≤ n = ltb-false n m more in rw (differs, more) (up.0, put_up (Some m) n ms (omega arith) up.1)))

rising_up : (ns : List ℕ) → Up None (rising ns)
rising_up [] = tt
rising_up (n ∷ ns) = put_up None n (rising ns) tt (rising_up ns)

module _ (ls : List Rows) where
  up_rising : (before : Option ℕ) (ns : List ℕ) → Up before ns → AreRising before (map in_one (map (shared_in ls) ns))
  up_rising before [] up = tt
  up_rising before (n ∷ ns) up = (up.0, up_rising (Some n) ns up.1)

  as_many : (ns : List ℕ) → AllByRecursion (λ (w : Shared). length w.1 ≡ length ls) (map (shared_in ls) ns)
  as_many [] = tt
  as_many (n ∷ ns) = (length-map ls (in_window n), as_many ns)

pub windows_rise : (shares : List Share) → AreRising None (map in_one (windows_in shares))
windows_rise shares = up_rising (map left_of shares) None (numbers_in (map left_of shares)) (rising_up (flat_map (map number_at) (map left_of shares)))

-- each holds the tuples of each capture
pub windows_each : (shares : List Share) → AllByRecursion (λ (w : Shared). length w.1 ≡ length shares) (windows_in shares)
windows_each shares =
    subst (λ (n : ℕ). AllByRecursion (λ (w : Shared). length w.1 ≡ n) (windows_in shares)) (length-map shares left_of) (as_many (map left_of shares) (numbers_in (map left_of shares)))

-- ---- a window among those that rise

below : (n : ℕ) (done : List Shared) (w : Shared) (rest : List Shared) → AreRising (Some n) (map in_one (done ++ w ∷ rest)) → (v : ℕ) → IsAbove (last_number (Some n) done) v → n < v
below n [] w rest rises v above = above
below n (d ∷ done) w rest rises v above = let first : n < d.0 = rises.0 in let following : d.0 < v = below d.0 done w rest rises.1 v above in omega (arith, first, following)

-- it is above those that were answered, and none between them holds a record
pub record IsNext (before : Option ℕ) (done : List Shared) (w : Shared) (rest : List Shared) : Type 0 where
  pub above : IsAbove (last_number before done) w.0
  pub none : (v : ℕ) → IsAbove (last_number before done) v → v < w.0 → held_in (done ++ w ∷ rest) v ≡ None
  pub holds : held_in (done ++ w ∷ rest) w.0 ≡ Some (together w.1)

pub is_next : (before : Option ℕ) (done : List Shared) (w : Shared) (rest : List Shared) → AreRising before (map in_one (done ++ w ∷ rest)) → IsNext before done w rest
is_next before [] w rest rises = record {
  above = rises.0;
  none = λ v above lt. earlier (in_one w) (map in_one rest) v rises.1 lt;
  holds = here (in_one w) (map in_one rest);
}
is_next before (d ∷ done) w rest rises =
    let r : IsNext (Some d.0) done w rest = is_next (Some d.0) done w rest rises.1 in
    record {
      above = r.above;
      none = λ v above lt. later (in_one d) (map in_one (done ++ w ∷ rest)) v (below d.0 done w rest rises.1 v above) ∙ r.none v above lt;
      holds = later (in_one d) (map in_one (done ++ w ∷ rest)) w.0 (below d.0 done w rest rises.1 w.0 r.above) ∙ r.holds;
    }

pub last_push : (before : Option ℕ) (done : List Shared) (w : Shared) → last_number before (done ++ w ∷ []) ≡ Some w.0
last_push before [] w = refl
last_push before (d ∷ done) w = last_push (Some d.0) done w
