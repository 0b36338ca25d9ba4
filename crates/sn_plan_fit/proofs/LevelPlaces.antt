-- The place of a level in a path.
use Rattle.std.proofs.Common.{◌≡◌, ℕ, ◌<◌, ◌≤◌, List, [], ◌∷◌, length, Bool, true, false, cond, ◌==◌, nat_lt, Some, None, unwrap_or, refl, arith}
use Rattle.std.specs.List.{position_or_len}
use Rattle.std.proofs.lemmas.Bool.{ltb-true}
use Rattle.sn_plan_fit.specs.Paths.{place_in}

by_lt : (b : Bool) (a n : ℕ) → nat_lt a n ≡ b → 1 ≤ n → unwrap_or (cond b (Some a) None) 0 < n
by_lt true a n e some = ltb-true a n e
by_lt false a n e some = omega (arith, some)

-- the place of a level is within a path that has some level
pub place_within : (path : List ℕ) (level : ℕ) → 1 ≤ length path → place_in path level < length path
place_within path level some =
    let at = position_or_len (λ (other : ℕ). level == other) path in
    by_lt (nat_lt at (length path)) at (length path) refl some

-- a path that may be empty
pub place_short : (path : List ℕ) (level : ℕ) → place_in path level ≤ length path
place_short [] level = omega arith
place_short (l ∷ path) level = let within = place_within (l ∷ path) level (omega arith) in omega (arith, within)
