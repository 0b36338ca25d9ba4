-- to be believed
use Rattle.std.specs.Prelude.{List}
use Rattle.sn_base.specs.Groups.{Row}
use Rattle.sn_base.specs.declared.row_list.RowList.{RowList}
use Rattle.sn_base.specs.declared.row_list.RowList.TheVariants.{Short, Wide}

-- the rows of a list, of either kind
abbrev pub rows_in : RowList → List Row
rows_in (Short rows) = rows
rows_in (Wide rows) = rows
