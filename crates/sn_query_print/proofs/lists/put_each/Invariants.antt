use Rattle.std.proofs.Common.{◌≡◌, drop}
use Rattle.sn_text_rules.specs.Rules.{items_spelled}
use Rattle.sn_query_print.specs.Printing.{state, puts}
use Rattle.sn_query_print.proofs.lists.put_each.Given as goal

abbrev pub invariant-loop-item : goal.invariant-loop-item
invariant-loop-item g l = puts (state l.out) (items_spelled g.S.Shown.spell (drop l.item-index l.items)) ≡ puts (state l.fn.out) (items_spelled g.S.Shown.spell l.items)
