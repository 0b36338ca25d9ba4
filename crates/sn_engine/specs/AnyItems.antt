-- serves proofs
-- Items over rows of either kind, as contracts see them.
use Rattle.std.specs.Prelude.{List}
use Rattle.sn_report.specs.Items.{Item}
use Rattle.sn_engine.specs.declared.items.AnyItems.{AnyItems}
use Rattle.sn_engine.specs.declared.items.AnyItems.TheVariants.{Short, Wide}
use Rattle.sn_engine.specs.declared.left.Left.{Left}
use Rattle.sn_engine.specs.declared.left.Left.TheVariants as lefts

abbrev pub items_in : AnyItems → List Item
items_in (Short items) = items.items
items_in (Wide items) = items.items

-- items of a lane that are left, or all of them
abbrev pub items_left : Left → List Item
items_left (lefts.All items) = items.now
items_left (lefts.Some items) = items
