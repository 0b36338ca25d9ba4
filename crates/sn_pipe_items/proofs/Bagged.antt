-- The items of a prefix as a bag, by one recursion over its operators. The law of the split is proved over these.
use Rattle.std.proofs.Common.{ℕ, suc, List, [], ◌∷◌, ◌++◌, map, filter, take, Bool, true, false, not, ◌||◌, cond}
use Rattle.sn_base.specs.Groups.{Row, once, same_row}
use Rattle.sn_base.specs.Operators.{Grouping, Op, key_of}
use Rattle.sn_base.specs.Operators.Op.{Filter, Map, Distinct, Reduce}
use Rattle.sn_chain.specs.Chain.{has_home}
use Rattle.sn_report.specs.Items.{Item}
use Rattle.sn_report.specs.declared.frame.Tag.TheVariants.{At, Partial}
use Rattle.sn_pipe_items.specs.Items.{tagged, held}

abbrev pub some_row : List Row → Bool
some_row [] = false
some_row (row ∷ rows) = true

module _ (depth : ℕ) (size : ℕ → ℕ) where
  abbrev pub resides : ℕ → List Row → Row → Bool
  resides i keys key = has_home depth (size i) keys key

  -- the rows with an overflow key, at a distinct and at a reduce
  abbrev pub over_distinct : ℕ → List Row → List Row
  over_distinct i flow = filter (λ row. not (resides i flow row)) flow

  abbrev pub over_reduce : ℕ → Grouping → List Row → List Row
  over_reduce i g flow = filter (λ row. not (resides i (map (key_of g) flow) (key_of g row))) flow

  abbrev pub items_from : ℕ → Bool → List Op → List Row → List Item
  items_from i spilled [] flow = tagged (At i) flow
  items_from i spilled (Filter t ∷ ops) flow = items_from (suc i) spilled ops (filter t flow)
  items_from i spilled (Map f ∷ ops) flow = items_from (suc i) spilled ops (map f flow)
  items_from i spilled (Distinct ∷ ops) flow =
      tagged (At i) (over_distinct i flow) ++ items_from (suc i) (spilled || some_row (over_distinct i flow)) ops (once same_row (filter (resides i flow) flow))
  items_from i spilled (Reduce g ∷ ops) flow =
      tagged (At i) (over_reduce i g flow) ++ cond spilled (tagged (Partial i) (held depth size i g flow)) (items_from (suc i) spilled ops (held depth size i g flow))

  abbrev pub bagged : ℕ → List Op → List Row → List Item
  bagged cut ops rows = items_from 0 false (take cut ops) rows
