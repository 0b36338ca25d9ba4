-- serves proofs
-- Which operators rows of items go into.
use Rattle.std.specs.Prelude.{◌≡◌, ℕ, ◌<◌, ◌⊎◌, List, []}
use Rattle.sn_engine.specs.declared.rows.Span.{Span}
use Rattle.sn_pipe_items.specs.Value.{is_at, rows_with}
use Rattle.sn_report.specs.Items.{Item}

abbrev pub IsOutside : ℕ → Span → Type 0
IsOutside operator span = (operator < span.least) ⊎ (span.greatest < operator)

-- no row goes into an operator outside of the span
abbrev pub Covers : Span → List Item → Type 0
Covers span items = (operator : ℕ) → IsOutside operator span → rows_with (is_at operator) items ≡ []
