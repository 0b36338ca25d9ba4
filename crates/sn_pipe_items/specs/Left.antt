-- to be believed
-- The items that are left where those of other prefixes are dropped.
use Rattle.std.specs.Prelude.{ℕ, suc, List, filter, Bool}
use Rattle.sn_base.specs.Groups.{Row}
use Rattle.sn_report.specs.Items.{Item}
use Rattle.sn_report.specs.declared.frame.Tag.{Tag}
use Rattle.sn_report.specs.declared.frame.Tag.TheVariants.{At, Partial}

-- `keeps i` is the test of a row that comes to operator i, and of the rows after the last one.
module _ (keeps : ℕ → Row → Bool) where
  -- the test of an item: that of the rows that come to its operator, and for a Partial row that of the rows after its reduce.
  abbrev pub keeps_at : Tag → Row → Bool
  keeps_at (At i) row = keeps i row
  keeps_at (Partial i) row = keeps (suc i) row

  abbrev pub left_of : List Item → List Item
  left_of found = filter (λ x. keeps_at x.tag x.row) found
