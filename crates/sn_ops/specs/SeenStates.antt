-- serves proofs
use Rattle.std.specs.Prelude.{refl}
use Rattle.std.specs.Coded.{Coded, code_by, coded×}
use Rattle.sn_table.specs.States.{TableState, RowsState, table_code, rows_code}

-- what an operator has seen, as contracts see it: a distinct its rows, a reduce its groups
pub record SeenState : Type 0 where
  pub rows : RowsState
  pub groups : TableState

abbrev pub seen_code : Coded SeenState
seen_code = code_by (RowsState × TableState) (coded× rows_code table_code) (λ s. (s.rows, s.groups)) (λ t. record { rows = t.0; groups = t.1 }) (λ _. refl)
