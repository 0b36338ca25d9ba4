-- to be believed
-- What refined answers tell of the unrefined ones.
use Rattle.std.specs.Prelude.{◌≡◌, ℕ, suc, ◌+◌, ◌<◌, ◌≤◌, List, length, Bool, true, nat_eq, slice_index, unwrap_or}
use Rattle.std.specs.List.{list_any}
use Rattle.sn_base.specs.Groups.{Row}
use Rattle.sn_base.specs.Mask.{masked}
use Rattle.sn_fields.specs.declared.field.Field.{Field}
use Rattle.sn_fields.specs.Fields.{width_of}
use Rattle.sn_refine.specs.Refined.{Windows, column_of, level_rows, refined_rows}
use Rattle.sn_types.specs.Typed.{finest_level}
use Rattle.sn_types.specs.declared.typed_query.TypedQuery.{TypedQuery}

-- a row's refinement column, masked to these bits, is among these prefixes
abbrev pub has_prefix : TypedQuery → Field → ℕ → List ℕ → Row → Bool
has_prefix query field bits prefixes row = list_any (nat_eq (masked (width_of field) bits (slice_index row (unwrap_or query.column 0)))) prefixes

-- a number is in the refinement column of rows
abbrev pub is_reported : TypedQuery → List Row → ℕ → Bool
is_reported query rows a = list_any (nat_eq a) (column_of query rows)

-- the rows of the unrefined query in a window
abbrev pub unrefined_rows : TypedQuery → Windows → ℕ → List Row
unrefined_rows query windows w = level_rows query (finest_level query) (windows w)

-- Of an address: where the unrefined query answers it in as many windows of consecutive numbers as the path has levels, the
-- refined query answers it in the last of them.
abbrev pub IsReportedInTime : TypedQuery → Windows → List ℕ → ℕ → ℕ → Type 0
IsReportedInTime query windows path w a =
    (last : ℕ) → length path ≡ suc last → ((i : ℕ) → i ≤ last → is_reported query (unrefined_rows query windows (w + i)) a ≡ true)
    → is_reported query (refined_rows query windows path last (w + last)) a ≡ true

-- each level of a path is a level of the query, each is at most the next one, and the last one is the finest
pub record EndsFinest (query : TypedQuery) (path : List ℕ) : Type 0 where
  pub known : (j : ℕ) → j < length path → list_any (nat_eq (slice_index path j)) query.levels ≡ true
  pub rising : (j : ℕ) → suc j < length path → slice_index path j ≤ slice_index path (suc j)
  pub finest : (last : ℕ) → length path ≡ suc last → slice_index path last ≡ finest_level query
