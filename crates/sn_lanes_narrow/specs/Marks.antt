-- serves proofs
-- Conditions on fields of tuples, and the marks of tuples of which they hold.
use Rattle.std.specs.Prelude.{ℕ, ◌-◌, ◌^◌, List, map, Bool, bit_and, slice_index, if◌then◌else◌}
use Rattle.std.specs.List.{list_all}
use Rattle.sn_fields.specs.Fields.{number_of}
use Rattle.sn_query_grammar.specs.declared.ast.Cmp.{Cmp}
use Rattle.sn_types.specs.Values.{compared}
use Rattle.sn_lanes_narrow.specs.declared.column.Numbers.{Numbers}
use Rattle.sn_lanes_narrow.specs.declared.column.Numbers.TheVariants.{Bytes, Halves, Words, Longs}
use Rattle.sn_lanes_narrow.specs.declared.condition.Condition.{Condition}

-- a condition holds of a tuple
abbrev pub asks : Condition → List ℕ → Bool
asks c tuple = compared c.cmp (bit_and (slice_index tuple (number_of c.field)) c.and) c.constant

-- all of them do
abbrev pub asks_all : List Condition → List ℕ → Bool
asks_all conditions tuple = list_all (λ c. asks c tuple) conditions

-- 1 for true, and 0 for false
abbrev pub mark : Bool → ℕ
mark b = if b then 1 else 0

-- the mark of a number: whether, and-ed, it compares so with a constant
abbrev pub number_mark : Cmp → ℕ → ℕ → ℕ → ℕ
number_mark cmp and constant x = mark (compared cmp (bit_and x and) constant)

-- the marks of tuples
abbrev pub marks_of : Condition → List (List ℕ) → List ℕ
marks_of c tuples = map (λ tuple. mark (asks c tuple)) tuples

abbrev pub marks_of_all : List Condition → List (List ℕ) → List ℕ
marks_of_all conditions tuples = map (λ tuple. mark (asks_all conditions tuple)) tuples

-- the numbers of a column, and the greatest that it can hold
abbrev pub numbers_in : Numbers → List ℕ
numbers_in (Bytes held) = held.items
numbers_in (Halves held) = held.items
numbers_in (Words held) = held.items
numbers_in (Longs held) = held.items

abbrev pub greatest_in : Numbers → ℕ
greatest_in (Bytes held) = 2 ^ 8 - 1
greatest_in (Halves held) = 2 ^ 16 - 1
greatest_in (Words held) = 2 ^ 32 - 1
greatest_in (Longs held) = 2 ^ 64 - 1
