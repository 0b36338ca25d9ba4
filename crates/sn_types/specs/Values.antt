-- to be believed
-- The values of conditions and expressions at a row, and the operators that rows meet.
use Rattle.std.specs.Prelude.{ℕ, ◌*◌, ◌/◌, ◌-◌, ◌+◌, ◌^◌, ◌<◌, List, map, Bool, not, ◌==◌, nat_lt, nat_le, min, bit_and, slice_index, if◌then◌else◌}
use Rattle.std.specs.Option.{option_map_or}
use Rattle.std.specs.List.{find, list_all}
use Rattle.sn_base.specs.Groups.{Row}
use Rattle.sn_base.specs.Operators.{Op}
use Rattle.sn_base.specs.Operators.Op.{Filter, Map, Distinct, Reduce}
use Rattle.sn_query_grammar.specs.declared.ast.Cmp.{Cmp}
use Rattle.sn_query_grammar.specs.declared.ast.Cmp.TheVariants.{Eq, Ne, Lt, Le, Gt, Ge}
use Rattle.sn_query_grammar.specs.declared.ast.Relax.{Relax}
use Rattle.sn_types.specs.declared.typed_op.TOp.{TOp}
use Rattle.sn_types.specs.declared.typed_op.TOp.TheVariants as ops
use Rattle.sn_types.specs.declared.typed_op.TCond.{TCond}
use Rattle.sn_types.specs.declared.typed_op.TExpr.{TExpr}
use Rattle.sn_types.specs.declared.typed_op.TExpr.TheVariants.{Const, Copy, Mask, Shift, Sum, Ratio}

-- two unsigned numbers compare so
abbrev pub compared : Cmp → ℕ → ℕ → Bool
compared Eq a b = a == b
compared Ne a b = not (a == b)
compared Lt a b = nat_lt a b
compared Le a b = nat_le a b
compared Gt a b = nat_lt b a
compared Ge a b = nat_le b a

-- the constant of a condition at a level: the relaxed one for this level, or else its own
abbrev pub constant_at : ℕ → List Relax → ℕ → ℕ
constant_at level relaxed own = option_map_or (λ r. r.value) (find (λ r. r.level == level) relaxed) own

-- a condition holds: the column, and-ed with its number, compares so with the constant at this level
abbrev pub holds : ℕ → TCond → Row → Bool
holds level c row = compared c.cmp (bit_and (slice_index row c.col) c.and) (constant_at level c.relaxed c.own)

-- the greatest number of 64 bits: no sum and no ratio is above it, and no number that they are of
abbrev pub greatest : ℕ
greatest = 2 ^ 64 - 1

-- all bits of a column
abbrev pub all_bits : ℕ
all_bits = 2 ^ 128 - 1

-- a times k over b, rounded down, capped at the greatest number, and 0 where b is 0
abbrev pub ratio : ℕ → ℕ → ℕ → ℕ
ratio a k b = if b == 0 then 0 else min (a * k / b) greatest

-- the value of an expression at a row
abbrev pub value_of : TExpr → Row → ℕ
value_of (Const n) row = n
value_of (Copy a) row = slice_index row a
value_of (Mask a bits) row = bit_and (slice_index row a) bits
value_of (Shift a k) row = slice_index row a / 2 ^ k
value_of (Sum a b) row = min (slice_index row a + slice_index row b) greatest
value_of (Ratio a k b) row = ratio (min (slice_index row a) greatest) k (min (slice_index row b) greatest)

-- an expression reads columns of the first n
abbrev pub ReadsWithin : ℕ → TExpr → Type 0
ReadsWithin count (Const n) = Unit {0}
ReadsWithin count (Copy a) = a < count
ReadsWithin count (Mask a bits) = a < count
ReadsWithin count (Shift a k) = a < count
ReadsWithin count (Sum a b) = (a < count) × (b < count)
ReadsWithin count (Ratio a k b) = (a < count) × (b < count)

-- an operator at a level, as it acts on rows
abbrev pub op_at : ℕ → TOp → Op
op_at level (ops.Filter conds) = Filter (λ row. list_all (λ c. holds level c row) conds)
op_at level (ops.Map exprs) = Map (λ row. map (λ e. value_of e row) exprs)
op_at level ops.Distinct = Distinct
op_at level (ops.Reduce r) = Reduce (record { places = r.keys; value = r.value; by = r.fold })
