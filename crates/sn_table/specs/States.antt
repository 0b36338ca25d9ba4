-- serves proofs
use Rattle.std.specs.Prelude.{ℕ, List, refl}
use Rattle.std.specs.Coded.{Coded, code_by, coded×, coded_ℕ, coded_list}
use Rattle.sn_base.specs.Groups.{Row}

-- a table, as contracts see it: its keys, each with its value, in the order of first places
pub record TableState : Type 0 where
  pub entries : List (Row × ℕ)

abbrev pub table_code : Coded TableState
table_code = code_by (List (Row × ℕ)) (coded_list (coded× (coded_list coded_ℕ) coded_ℕ)) (λ t. t.entries) (λ es. record { entries = es }) (λ _. refl)

-- a set of rows, as contracts see it: its rows, in the order of first places
pub record RowsState : Type 0 where
  pub keys : List Row

abbrev pub rows_code : Coded RowsState
rows_code = code_by (List Row) (coded_list (coded_list coded_ℕ)) (λ t. t.keys) (λ ks. record { keys = ks }) (λ _. refl)
