-- serves proofs
use Rattle.std.specs.Prelude.{ℕ, List, map}
use Rattle.sn_base.specs.Groups.{Row}
use Rattle.sn_table.specs.Narrow.{AreShort, columns_of}
use Rattle.sn_table.specs.declared.keys.Keys.{Keys}
use Rattle.sn_table.specs.declared.keys.Keys.TheVariants.{Narrow, Wide}

-- the rows, however they are held; each is of type R, with numbers of type N, and seen as its columns
abbrev pub keys_of : {R N : Type 0} → (R → Row) → Keys R N → List Row
keys_of seen (Narrow columns numbers) = map (columns_of columns) numbers.keys
keys_of seen (Wide rows) = map seen rows.keys

-- numbers stand for rows whose columns are below a limit
abbrev pub IsSound : {R N : Type 0} → ℕ → Keys R N → Type 0
IsSound limit (Narrow columns numbers) = AreShort limit columns numbers.keys
IsSound limit (Wide rows) = Unit {0}

-- rows of any kind can be held
abbrev pub IsWide : {R N : Type 0} → Keys R N → Type 0
IsWide (Narrow columns numbers) = ⊥
IsWide (Wide rows) = Unit {0}
