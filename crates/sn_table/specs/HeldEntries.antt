-- serves proofs
use Rattle.std.specs.Prelude.{ℕ, List, map}
use Rattle.sn_base.specs.Groups.{Row}
use Rattle.sn_table.specs.Narrow.{AreShort, columns_of}
use Rattle.sn_table.specs.declared.entries.Entries.{Entries}
use Rattle.sn_table.specs.declared.entries.Entries.TheVariants.{Narrow, Wide}

-- an entry with its key as a row
abbrev pub row_entry : ℕ → ℕ × ℕ → Row × ℕ
row_entry columns e = (columns_of columns e.0, e.1)

-- the entries, however they are held; a row of type R, whose numbers are of type N, is seen as its columns
abbrev pub entries_of : {R N : Type 0} → (R → Row) → Entries R N → List (Row × ℕ)
entries_of seen (Narrow columns numbers) = map (row_entry columns) numbers.entries
entries_of seen (Wide rows) = map (λ e. (seen e.0, e.1)) rows.entries

-- numbers stand for rows whose columns are below a limit
abbrev pub IsSound : {R N : Type 0} → ℕ → Entries R N → Type 0
IsSound limit (Narrow columns numbers) = AreShort limit columns (map (λ e. e.0) numbers.entries)
IsSound limit (Wide rows) = Unit {0}

-- keys of any kind can be held
abbrev pub IsWide : {R N : Type 0} → Entries R N → Type 0
IsWide (Narrow columns numbers) = ⊥
IsWide (Wide rows) = Unit {0}
