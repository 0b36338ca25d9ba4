-- to be believed
-- The resident keys of a list in the order in which a chain is read out.
use Rattle.std.specs.Prelude.{ℕ, List, [], ◌∷◌, map, nat_le, Option, if◌then◌else◌}
use Rattle.std.specs.List.{filter_map}
use Rattle.sn_base.specs.Groups.{Row}
use Rattle.sn_chain.specs.Chain.{homes_of}

-- a key beside its place goes before the first whose place isn't below its own
abbrev pub put_by_place : {K : Type 0} → ℕ × K → List (ℕ × K) → List (ℕ × K)
put_by_place h [] = h ∷ []
put_by_place h (g ∷ gs) = if nat_le h.0 g.0 then h ∷ g ∷ gs else g ∷ put_by_place h gs

-- keys beside their places, by rising place
abbrev pub by_place : {K : Type 0} → List (ℕ × K) → List (ℕ × K)
by_place [] = []
by_place (h ∷ hs) = put_by_place h (by_place hs)

-- the resident keys of a list by rising place
abbrev pub homes_by_place : ℕ → ℕ → List Row → List Row
homes_by_place depth slots keys = map (λ h. h.1) (by_place (homes_of depth slots keys))

-- what cells hold, in order, without the empty ones
abbrev pub held_in_order : {X : Type 0} → List (Option X) → List X
held_in_order cells = filter_map (λ o. o) cells
