-- to be believed
use Rattle.std.specs.Prelude.{◌≡◌, ℕ, ◌≤◌, ◌↔◌, ◌⊎◌, List, ◌++◌, Option, length, take, drop, option_and_then}
use Rattle.std.specs.FinMap.{get}
use Rattle.sn_io.specs.Counts.{ByName}

-- the bytes of a file, where contents are known and the file is known
abbrev pub stated_file : Option (ByName (List ℕ)) → List ℕ → Option (List ℕ)
stated_file reported name = option_and_then (λ files. get files name) reported

-- a read put this many bytes of the file, from a place on, into the front of a buffer and left the rest of it;
-- it put none exactly at the end of the file or where the buffer is empty
pub record Reads (file : List ℕ) (at count : ℕ) (old new : List ℕ) : Type 0 where
  pub bytes : new ≡ take count (drop at file) ++ drop count old
  pub within : count ≤ length (drop at file)
  pub none : (count ≡ 0) ↔ ((length file ≤ at) ⊎ (length old ≡ 0))
