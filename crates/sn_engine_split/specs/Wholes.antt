-- to be believed
-- The items that are left of a branch, whatever was sent.
use Rattle.std.specs.Prelude.{◌≡◌, ℕ, ◌≤◌, List, Option, None}
use Rattle.sn_base.specs.Bags.{SameBag}
use Rattle.sn_report.specs.Items.{Item}
use Rattle.sn_engine_split.specs.Branches.{branch_items}
use Rattle.sn_types.specs.declared.typed_query.TypedQuery.{TypedQuery}
use Rattle.sn_types.specs.Typed.{branch_at, query_at}
use Rattle.sn_engine_split.specs.Opened.{IsWithinLevel, Prefixes, left_in, tuples_admitted, tabled}

-- these are left of the items of a branch at a level over these tuples, in whatever order they came: of some cut, chains and sizes,
-- and with a table of some number of entries for these prefixes, open or not
pub record AreLeft (queries : List TypedQuery) (q b level : ℕ) (ps : Option Prefixes) (tuples : List (List ℕ)) (found : List Item) : Type 0 where
  pub cut : ℕ
  pub depth : ℕ
  pub sizes : List ℕ
  pub entries : Option ℕ
  pub sent : List Item
  pub within : cut ≤ (branch_at queries q b).max_cut
  pub low : IsWithinLevel level ps
  pub same : SameBag (branch_items (query_at queries q) b level None cut depth sizes (tuples_admitted (query_at queries q) (tabled entries ps) tuples)) sent
  pub is : found ≡ left_in (query_at queries q) b ps sent
