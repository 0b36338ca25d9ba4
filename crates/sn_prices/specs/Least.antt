-- to be believed
-- What prices show: a number that no plan that fits costs less than.
use Rattle.std.specs.Prelude.{ℕ, zero, suc, ◌+◌, ◌-◌, ◌*◌, ◌/◌, List, [], ◌∷◌, take, min, false, nat_lt, if◌then◌else◌}
use Rattle.std.specs.List.{sum_by}
use Rattle.sn_switch.specs.declared.switch.Switch.{Switch}
use Rattle.sn_types.specs.declared.typed_query.TypedQuery.{TypedQuery}
use Rattle.sn_plan_fit.specs.Registers.{metadata}
use Rattle.sn_plan_choices.specs.Within.{least_below}
use Rattle.sn_plan_choices.specs.Options.{Slot, plain, keyed, paths, option_at}
use Rattle.sn_plan_choices.specs.Planning.{PieceTask, PathTask, pieces_of, slots_of, entry_of, settings}
use Rattle.sn_prices_grammar.specs.declared.prices.Prices.{Prices}
use Rattle.sn_prices.specs.Limits.{forbidden, register_price, metadata_price, worth}

-- the least of f 0 to f (n - 1) and this number
abbrev pub least_or : ℕ → (ℕ → ℕ) → ℕ → ℕ
least_or none f zero = none
least_or none f (suc n) = min (f n) (least_or none f n)

-- What the registers among these tables pay at least, over all their stages, where the first table may have this stage and each further one a later
-- stage than the one before it.
abbrev pub least_stages : Switch → Prices → ℕ → List Slot → ℕ
least_stages s p least [] = if nat_lt s.stages least then forbidden else 0
least_stages s p least (plain ∷ slots) = least_stages s p (least + 1) slots
least_stages s p least (keyed bits ∷ slots) =
    least_or forbidden (λ k. register_price s p (record { stage = least + k; bits = bits }) + least_stages s p (least + k + 1) slots) (s.stages - least)

module _ (s : Switch) (entry : ℕ → ℕ → ℕ → ℕ → ℕ) (p : Prices) where
  -- a piece with an option: its cost in parts of an item, what its metadata pays and what its registers pay
  abbrev pub option_price : PieceTask → ℕ → ℕ
  option_price t x =
      p.scale * entry_of s entry t x + metadata_price p (metadata t.branch.schemas false 0 (take (option_at s t.branch x).0 t.branch.ops))
      + least_stages s p 0 (slots_of s entry t x)

  -- a piece with its cheapest option
  abbrev pub least_piece : PieceTask → ℕ
  least_piece t = least_below (option_price t) (settings s entry t)

  -- a query along its cheapest path
  abbrev pub least_query : PathTask → ℕ
  least_query t = least_below (λ m. sum_by least_piece (pieces_of t m)) (paths t.typed.levels)

  -- queries, of which the first has this number
  abbrev pub least_queries : ℕ → List TypedQuery → ℕ
  least_queries n [] = 0
  least_queries n (q ∷ qs) = least_query (record { query = n; typed = q }) + least_queries (n + 1) qs

  -- What the queries have at least, each alone, less what all limits are worth, or 0 where they are worth more: in items, rounded up.
  abbrev pub shown_least : List TypedQuery → ℕ
  shown_least queries = (least_queries 0 queries - worth s p + (p.scale - 1)) / p.scale
