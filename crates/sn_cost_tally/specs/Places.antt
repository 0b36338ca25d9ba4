-- serves proofs
-- Which keys find a place.
use Rattle.std.specs.Prelude.{ℕ, List, Bool, map}
use Rattle.sn_base.specs.Groups.{Row}
use Rattle.sn_chain.specs.Chain.{has_home}

-- of each of some keys, whether it has a home among these
abbrev pub homes_among : ℕ → ℕ → List Row → List Bool
homes_among depth slots keys = map (has_home depth slots keys) keys
