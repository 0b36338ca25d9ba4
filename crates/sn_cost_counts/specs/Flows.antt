-- serves proofs
-- The rows of a window on their way through the operators of a prefix, and how many items they make.
use Rattle.std.specs.Prelude.{ℕ, ◌+◌, List, [], ◌∷◌, ◌++◌, map, filter, length, drop, false, not, ◌||◌, nat_lt, slice_index, if◌then◌else◌}
use Rattle.std.specs.List.{flat_map}
use Rattle.sn_base.specs.Groups.{Row, once, same_row}
use Rattle.sn_base.specs.Operators.{Op, Grouping, key_of, pair_of, row_for}
use Rattle.sn_base.specs.Operators.Op.{Filter, Map, Distinct, Reduce}
use Rattle.sn_chain.specs.Chain.{has_home}
use Rattle.sn_types.specs.declared.typed_op.TOp.{TOp}
use Rattle.sn_types.specs.Cuts.{is_stateful}
use Rattle.sn_types.specs.Values.{op_at}
use Rattle.sn_cost_counts.specs.AnyFlow.{Flow}

-- ---- a stateful operator, with a chain of n registers of m slots each

-- the rows that overflow at a distinct
abbrev pub over_distinct : ℕ → ℕ → List Row → List Row
over_distinct depth slots rows = filter (λ row. not (has_home depth slots rows row)) rows

-- after it flows each resident row once, at its first appearance
abbrev pub first_rows : ℕ → ℕ → List Row → List Row
first_rows depth slots rows = once same_row (filter (λ row. has_home depth slots rows row) rows)

-- the rows whose key overflows at a reduce
abbrev pub over_reduce : ℕ → ℕ → Grouping → List Row → List Row
over_reduce depth slots g rows = filter (λ row. not (has_home depth slots (map (key_of g) rows) (key_of g row))) rows

-- it holds each resident key, here in the order of first places, with the fold of its values
abbrev pub held_rows : ℕ → ℕ → Grouping → List Row → List Row
held_rows depth slots g rows = map (row_for g (map (pair_of g) rows)) (filter (has_home depth slots (map (key_of g) rows)) (once same_row (map (key_of g) rows)))

-- ---- operators one after another

-- Rows after an operator. What overflows is sent. What a reduce holds stays whole where a distinct overflowed: no filter
-- after the reduce drops a row of it.
abbrev pub stepped : ℕ → ℕ → Op → Flow → Flow
stepped depth slots (Filter t) f = if f.whole then f else record f { rows = filter t f.rows }
stepped depth slots (Map g) f = record f { rows = map g f.rows }
stepped depth slots Distinct f = record {
  sent = f.sent + length (over_distinct depth slots f.rows);
  rows = first_rows depth slots f.rows;
  spilled = f.spilled || nat_lt 0 (length (over_distinct depth slots f.rows));
  whole = f.whole;
}
stepped depth slots (Reduce g) f = record {
  sent = f.sent + length (over_reduce depth slots g f.rows);
  rows = held_rows depth slots g f.rows;
  spilled = f.spilled;
  whole = f.spilled;
}

-- rows after operators at a level, of which the stateful ones take these sizes in their order
abbrev pub run : ℕ → ℕ → List TOp → List ℕ → Flow → Flow
run depth level [] sizes f = f
run depth level (op ∷ ops) sizes f =
    if is_stateful op then run depth level ops (drop 1 sizes) (stepped depth (slice_index sizes 0) (op_at level op) f)
    else run depth level ops sizes (stepped depth 0 (op_at level op) f)

-- the rows of a window before the first operator
abbrev pub starting : List Row → Flow
starting rows = record { sent = 0; rows = rows; spilled = false; whole = false }

-- how many items are sent where the prefix ends here
abbrev pub counted : Flow → ℕ
counted f = f.sent + length f.rows

-- ---- all sizes side by side

-- rows after an operator: after a stateful one those for each size, in order
abbrev pub wider : ℕ → ℕ → List ℕ → TOp → List Flow → List Flow
wider depth level slots op flows =
    if is_stateful op then flat_map (λ f. map (λ size. stepped depth size (op_at level op) f) slots) flows else map (stepped depth 0 (op_at level op)) flows

-- the counts of prefixes that end before each of these operators, and after the last
abbrev pub counts_from : ℕ → ℕ → List ℕ → List TOp → List Flow → List ℕ
counts_from depth level slots [] flows = map counted flows
counts_from depth level slots (op ∷ ops) flows = map counted flows ++ counts_from depth level slots ops (wider depth level slots op flows)
