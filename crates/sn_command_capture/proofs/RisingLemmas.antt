-- Windows with rising numbers, over plain values.
use Rattle.std.proofs.Common.{ℕ, ◌<◌, List, [], ◌∷◌, ◌++◌, Option, Some, None}
use Rattle.sn_windows.specs.Rising.{AreRising, Window}

-- windows after a window rise from it on
pub rising_join : (before : Option ℕ) (closed : List Window) (number : ℕ) (tuples other : List (List ℕ)) (more : List Window) → AreRising before (closed ++ (number, tuples) ∷ []) → AreRising (Some number) more → AreRising before (closed ++ (number, other) ∷ more)
rising_join before [] number tuples other more r m = (r.0, m)
rising_join before (w ∷ ws) number tuples other more r m = (r.0, rising_join (Some w.0) ws number tuples other more r.1 m)

-- the tuples of a window don't matter
pub rising_other : (closed : List Window) (number : ℕ) (tuples other : List (List ℕ)) → AreRising None (closed ++ (number, tuples) ∷ []) → AreRising None (closed ++ (number, other) ∷ [])
rising_other closed number tuples other r = rising_join None closed number tuples other [] r tt

rising_after : (before : Option ℕ) (closed : List Window) (number next : ℕ) (tuples other : List (List ℕ)) → AreRising before (closed ++ (number, tuples) ∷ []) → number < next → AreRising before ((closed ++ (number, tuples) ∷ []) ++ (next, other) ∷ [])
rising_after before [] number next tuples other r lt = (r.0, (lt, tt))
rising_after before (w ∷ ws) number next tuples other r lt = (r.0, rising_after (Some w.0) ws number next tuples other r.1 lt)

-- a later window comes after them
pub rising_next : (closed : List Window) (number next : ℕ) (tuples other : List (List ℕ)) → AreRising None (closed ++ (number, tuples) ∷ []) → number < next → AreRising None ((closed ++ (number, tuples) ∷ []) ++ (next, other) ∷ [])
rising_next closed number next tuples other r lt = rising_after None closed number next tuples other r lt
