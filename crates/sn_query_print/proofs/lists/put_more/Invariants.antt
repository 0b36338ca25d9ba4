use Rattle.std.proofs.Common.{◌≡◌, ◌∷◌, drop}
use Rattle.sn_text_rules.specs.Tokens.{plain, symbol}
use Rattle.sn_text_rules.specs.Rules.{items_spelled}
use Rattle.sn_query_print.specs.Printing.{state, puts}
use Rattle.sn_query_print.proofs.lists.put_more.Given as goal

abbrev pub invariant-loop-item : goal.invariant-loop-item
invariant-loop-item g l = puts (state l.out) (items_spelled (λ item. plain (symbol 3) ∷ g.S.Shown.spell item) (drop l.item-index l.items)) ≡ puts (state l.fn.out) (items_spelled (λ item. plain (symbol 3) ∷ g.S.Shown.spell item) l.items)
