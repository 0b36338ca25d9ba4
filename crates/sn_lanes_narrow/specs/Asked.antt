-- serves proofs
-- Conditions that were asked of the tuples of a block.
use Rattle.std.specs.Prelude.{◌≡◌, ℕ, List}
use Rattle.std.specs.List.{AllByRecursion}
use Rattle.sn_lanes.specs.Columns.{column_of}
use Rattle.sn_lanes_narrow.specs.Marks.{marks_of, numbers_in}
use Rattle.sn_lanes_narrow.specs.declared.asked.Answer.{Answer}
use Rattle.sn_lanes_narrow.specs.declared.asked.Asked.{Asked}
use Rattle.sn_lanes_narrow.specs.declared.column.Column.{Column}

-- columns hold their fields' numbers of these tuples
abbrev pub AreColumnsOf : List (List ℕ) → List Column → Type 0
AreColumnsOf tuples columns = AllByRecursion (λ column. numbers_in column.numbers ≡ column_of tuples column.field) columns

-- marks are those of their conditions
abbrev pub AreAnswersOf : List (List ℕ) → List Answer → Type 0
AreAnswersOf tuples answers = AllByRecursion (λ answer. answer.marks.items ≡ marks_of answer.condition tuples) answers

-- all that was asked, was asked of these tuples
abbrev pub AreOf : List (List ℕ) → Asked → Type 0
AreOf tuples asked = AreColumnsOf tuples asked.columns.items × AreAnswersOf tuples asked.answers.items
