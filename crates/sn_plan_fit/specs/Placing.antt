-- to be believed
-- Placing the tables of a piece in the stages of a switch.
use Rattle.std.specs.Prelude.{◌≡◌, ℕ, suc, ◌≤◌, ◌<◌, List, [], ◌∷◌}
use Rattle.std.specs.List.{AllByRecursion}
use Rattle.sn_base.specs.Rising.{IsRising}

-- a table of a piece: one without state, or a register with its written stage
pub data Table : Type 0 where
  stateless : Table
  register : ℕ → Table

-- the stage that a table may have
abbrev pub MayStand : Table → ℕ → Type 0
MayStand stateless p = Unit {0}
MayStand (register s) p = p ≡ s

-- each table has its stage, and there are no more
abbrev pub StandAt : List Table → List ℕ → Type 0
StandAt [] [] = Unit {0}
StandAt [] (p ∷ ps) = ⊥
StandAt (t ∷ ts) [] = ⊥
StandAt (t ∷ ts) (p ∷ ps) = MayStand t p × StandAt ts ps

-- A placing: a strictly rising list of stages of the switch, one for each table in order, with the written stage at each register.
pub record IsPlacing (stages : ℕ) (tables : List Table) (places : List ℕ) : Type 0 where
  pub stand : StandAt tables places
  pub rising : IsRising places
  pub below : AllByRecursion (λ p. p < stages) places

abbrev pub HasPlacing : ℕ → List Table → Type 0
HasPlacing stages tables = (places : List ℕ) × IsPlacing stages tables places

-- The same by gaps: the tables taken in order, with the least stage that the next one may have. A register's stage isn't below it,
-- and after the last table it isn't above the number of stages.
abbrev pub HasGaps : ℕ → ℕ → List Table → Type 0
HasGaps stages least [] = least ≤ stages
HasGaps stages least (stateless ∷ ts) = HasGaps stages (suc least) ts
HasGaps stages least (register s ∷ ts) = (least ≤ s) × HasGaps stages (suc s) ts
