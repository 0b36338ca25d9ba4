-- to be believed
-- The items of several switches that run the same prefix, each on its own rows.
use Rattle.std.specs.Prelude.{ℕ, suc, List, [], ◌∷◌, ◌++◌, map, filter, take, not}
use Rattle.std.specs.List.{flat_map}
use Rattle.sn_base.specs.Groups.{Row, once, same_row}
use Rattle.sn_base.specs.Operators.{Grouping, Op, key_of}
use Rattle.sn_base.specs.Operators.Op.{Filter, Map, Distinct, Reduce}
use Rattle.sn_chain.specs.Chain.{has_home}
use Rattle.sn_pipe_items.specs.Items.{held, tagged}
use Rattle.sn_report.specs.Items.{Item}
use Rattle.sn_report.specs.declared.frame.Tag.TheVariants.{At, Partial}

-- Each stateful operator has a chain of so many registers; the registers of the operator at number i have size i slots each.
module _ (depth : ℕ) (size : ℕ → ℕ) where
  -- the rows with an overflow key at a distinct, and the first of each other
  abbrev pub beyond : ℕ → List Row → List Row
  beyond i flow = filter (λ row. not (has_home depth (size i) flow row)) flow

  abbrev pub firsts : ℕ → List Row → List Row
  firsts i flow = once same_row (filter (λ row. has_home depth (size i) flow row) flow)

  -- the rows with an overflow key at a reduce
  abbrev pub beyond_keys : ℕ → Grouping → List Row → List Row
  beyond_keys i g flow = filter (λ row. not (has_home depth (size i) (map (key_of g) flow) (key_of g row))) flow

  -- Of a prefix a switch runs what stands up to its first stateful operator. A distinct sends the rows that overflow and the
  -- first of each other; a reduce sends the rows that overflow, and what it holds as parts, unfiltered.
  abbrev pub switch_items : ℕ → List Op → List Row → List Item
  switch_items i [] flow = tagged (At i) flow
  switch_items i (Filter t ∷ ops) flow = switch_items (suc i) ops (filter t flow)
  switch_items i (Map f ∷ ops) flow = switch_items (suc i) ops (map f flow)
  switch_items i (Distinct ∷ ops) flow = tagged (At i) (beyond i flow ++ firsts i flow)
  switch_items i (Reduce g ∷ ops) flow = tagged (At i) (beyond_keys i g flow) ++ tagged (Partial i) (held depth size i g flow)

  -- those of all switches, switch by switch
  abbrev pub all_items : ℕ → List Op → List (List Row) → List Item
  all_items cut ops flows = flat_map (switch_items 0 (take cut ops)) flows
