-- serves proofs
-- The cells of a chain, as they lie in memory.
use Rattle.std.specs.Prelude.{◌≡◌, ℕ, ◌<◌, List, [], ◌∷◌, length, slice_index_or}
use Rattle.sn_base.specs.Groups.{Row}
use Rattle.sn_chain.specs.Codes.{key_in, IsStored}
use Rattle.sn_chain.specs.declared.code.Code.{Code}
use Rattle.sn_chain.specs.declared.head.Head.{Head}

-- what a cell says of its key
abbrev pub code_in : ℕ → Head → Code
code_in kind head = record { kind = kind; first = head.first; second = head.second }

-- the head of a cell with the key of no column
abbrev pub bare_head : ℕ → Head
bare_head value = record { first = 0; second = 0; value = value }

-- a head with another value
abbrev pub with_total : ℕ → Head → Head
with_total value head = record head { value = value }

abbrev pub cell_of : Head → ℕ → Row → Row × ℕ
cell_of head kind whole = (key_in (code_in kind head) whole, head.value)

-- the cells of these heads, kinds and whole keys, one by one
abbrev pub cells_of : List Head → List ℕ → List Row → List (Row × ℕ)
cells_of [] kinds wholes = []
cells_of (head ∷ heads) [] wholes = []
cells_of (head ∷ heads) (kind ∷ kinds) [] = []
cells_of (head ∷ heads) (kind ∷ kinds) (whole ∷ wholes) = cell_of head kind whole ∷ cells_of heads kinds wholes

-- as many kinds and whole keys as heads
pub record AreStored (limit : ℕ) (heads : List Head) (kinds : List ℕ) (wholes : List Row) : Type 0 where
  pub kinds_level : length kinds ≡ length heads
  pub wholes_level : length wholes ≡ length heads
  pub each : (i : ℕ) → i < length heads → IsStored limit (code_in (slice_index_or kinds i 9) (slice_index_or heads i (bare_head 0))) (slice_index_or wholes i [])
