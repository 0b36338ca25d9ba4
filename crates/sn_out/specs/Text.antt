-- to be believed
-- The text of printed answers.
use Rattle.std.specs.Prelude.{ℕ, ◌+◌, ◌/◌, ◌%◌, ◌^◌, ◌<◌, List, [], ◌∷◌, ◌++◌, length, Bool, ◌==◌, nat_lt, Option, None, Some, codes, if◌then◌else◌}
use Rattle.std.specs.List.{flat_map, AllByRecursion}
use Rattle.std.specs.Fmt.{decimal}
use Rattle.sn_base.specs.declared.column.Column.{Column}
use Rattle.sn_base.specs.Columns.{IsOf}
use Rattle.sn_base.specs.Groups.{Row}
use Rattle.sn_pcap.specs.declared.packet.Ending.{Ending}
use Rattle.sn_pcap.specs.declared.packet.Ending.TheVariants.{Clean, Cut, Bad}
use Rattle.sn_types.specs.declared.answers.Answers.{Answers}
use Rattle.sn_types.specs.declared.answers.Part.{Part}
use Rattle.sn_types.specs.declared.typed_query.TypedQuery.{TypedQuery}
use Rattle.sn_types.specs.Typed.{query_at, final_columns}

-- ---- the words of the lines

unfoldable pub window_words : List ℕ
window_words = codes "window "

unfoldable pub emitted_words : List ℕ
emitted_words = codes " emitted "

unfoldable pub query_words : List ℕ
query_words = codes "query "

unfoldable pub level_words : List ℕ
level_words = codes " level "

unfoldable pub rows_words : List ℕ
rows_words = codes " rows "

unfoldable pub total_words : List ℕ
total_words = codes "total windows "

unfoldable pub cut_words : List ℕ
cut_words = codes "capture cut at byte "

unfoldable pub bad_words : List ℕ
bad_words = codes "capture bad at byte "

unfoldable pub capture_words : List ℕ
capture_words = codes "capture "

unfoldable pub cut_after_words : List ℕ
cut_after_words = codes " cut at byte "

unfoldable pub bad_after_words : List ℕ
bad_after_words = codes " bad at byte "

unfoldable pub levels_words : List ℕ
levels_words = codes " levels "

unfoldable pub bound_words : List ℕ
bound_words = codes " bound "

unfoldable pub yes_words : List ℕ
yes_words = codes "yes"

unfoldable pub no_words : List ℕ
no_words = codes "no"

unfoldable pub from_words : List ℕ
from_words = codes " from "

unfoldable pub to_words : List ℕ
to_words = codes " to "

unfoldable pub printed_words : List ℕ
printed_words = codes " printed "

unfoldable pub never_words : List ℕ
never_words = codes "never"

-- ---- rows

-- an address: its four bytes in decimal, the highest first, with dots between them
abbrev pub dotted : ℕ → List ℕ
dotted number = decimal (number / 2 ^ 24 % 256) ++ 46 ∷ decimal (number / 2 ^ 16 % 256) ++ 46 ∷ decimal (number / 2 ^ 8 % 256) ++ 46 ∷ decimal (number % 256)

-- the hexadecimal digit of a number below 16, in lower case: 48 is the byte of 0, and 87 + 10 that of a
abbrev pub hex_digit : ℕ → ℕ
hex_digit number = if nat_lt number 10 then 48 + number else 87 + number

-- a group of 16 bits of an address: four hexadecimal digits
unfoldable pub group_text : ℕ → List ℕ
group_text group = hex_digit (group / 2 ^ 12 % 16) ∷ hex_digit (group / 2 ^ 8 % 16) ∷ hex_digit (group / 2 ^ 4 % 16) ∷ hex_digit (group % 16) ∷ []

-- the four groups of 64 bits, the highest first, with colons between them
abbrev pub half_text : ℕ → List ℕ
half_text half =
    group_text (half / 2 ^ 48 % 2 ^ 16) ++ 58 ∷ group_text (half / 2 ^ 32 % 2 ^ 16)
    ++ 58 ∷ group_text (half / 2 ^ 16 % 2 ^ 16) ++ 58 ∷ group_text (half % 2 ^ 16)

-- an address of 128 bits: its eight groups of 16 bits, the highest first, with colons between them
abbrev pub grouped : ℕ → List ℕ
grouped number = half_text (number / 2 ^ 64) ++ 58 ∷ half_text (number % 2 ^ 64)

-- an address of this width
abbrev pub address_text : ℕ → ℕ → List ℕ
address_text width number = if width == 128 then grouped number else dotted number

-- a number of a column: in groups or dotted where the column is one of addresses, else decimal
abbrev pub number_text : Column → ℕ → List ℕ
number_text column number = if column.address then address_text column.width number else decimal number

-- one space, and a number of a column
abbrev pub spaced_text : Column → ℕ → List ℕ
spaced_text column number = 32 ∷ number_text column number

-- each number of a row after one space
abbrev pub spaced_texts : List Column → Row → List ℕ
spaced_texts (column ∷ columns) (number ∷ numbers) = spaced_text column number ++ spaced_texts columns numbers
spaced_texts _ _ = []

-- the numbers of a row, each by its column, with one space between two of them
abbrev pub numbers_text : List Column → Row → List ℕ
numbers_text (column ∷ columns) (number ∷ numbers) = number_text column number ++ spaced_texts columns numbers
numbers_text _ _ = []

-- a row on a line of its own
abbrev pub row_line : List Column → Row → List ℕ
row_line columns row = numbers_text columns row ++ 10 ∷ []

-- ---- blocks

-- how many tuples were emitted, where they are counted
abbrev pub emitted_text : Option ℕ → List ℕ
emitted_text None = []
emitted_text (Some emitted) = emitted_words ++ decimal emitted

-- `window N`, or `window N emitted E`
abbrev pub window_line : ℕ → Option ℕ → List ℕ
window_line window emitted = window_words ++ decimal window ++ emitted_text emitted ++ 10 ∷ []

-- ` level L`
abbrev pub level_text : ℕ → List ℕ
level_text level = level_words ++ decimal level

-- ` rows R`, at the end of a line
abbrev pub count_text : ℕ → List ℕ
count_text rows = rows_words ++ decimal rows ++ 10 ∷ []

-- `query NAME level L rows R`
abbrev pub query_line : List ℕ → ℕ → ℕ → List ℕ
query_line name level rows = query_words ++ name ++ level_text level ++ count_text rows

-- the answer of a query at a level: the query's line, and the rows in their order
abbrev pub answer_text : TypedQuery → ℕ → List Row → List ℕ
answer_text query level rows = query_line query.name level (length rows) ++ flat_map (row_line (final_columns query)) rows

abbrev pub part_text : List TypedQuery → Part → List ℕ
part_text queries part = answer_text (query_at queries part.query) part.level part.rows

-- the emitted number is printed where it is counted
abbrev pub counted : Bool → ℕ → Option ℕ
counted counts emitted = if counts then Some emitted else None

-- the block of a window: its line, and its parts in their order
abbrev pub block_text : List TypedQuery → Answers → Bool → List ℕ
block_text queries answers counts = window_line answers.window (counted counts answers.emitted) ++ flat_map (part_text queries) answers.parts

-- ---- stays

-- `yes` or `no`
abbrev pub yes_text : Bool → List ℕ
yes_text bound = if bound then yes_words else no_words

-- ` levels L`
abbrev pub levels_text : ℕ → List ℕ
levels_text levels = levels_words ++ decimal levels

-- ` bound yes` or ` bound no`, at the end of a line
abbrev pub bound_text : Bool → List ℕ
bound_text bound = bound_words ++ yes_text bound ++ 10 ∷ []

-- `query NAME levels L bound yes`, or `.. no`
abbrev pub bound_line : List ℕ → ℕ → Bool → List ℕ
bound_line name levels bound = query_words ++ name ++ levels_text levels ++ bound_text bound

-- ` from F to T`
abbrev pub span_text : ℕ → ℕ → List ℕ
span_text first last = from_words ++ decimal first ++ to_words ++ decimal last

-- the number of the window in which a stay was printed, or `never`
abbrev pub window_text : Option ℕ → List ℕ
window_text None = never_words
window_text (Some window) = decimal window

-- ` printed P` or ` printed never`, at the end of a line
abbrev pub printed_text : Option ℕ → List ℕ
printed_text printed = printed_words ++ window_text printed ++ 10 ∷ []

-- `ADDRESS from F to T printed P`, or `.. printed never`, where the address is a number of this column
abbrev pub stay_line : Column → ℕ → ℕ → ℕ → Option ℕ → List ℕ
stay_line column address first last printed = number_text column address ++ span_text first last ++ printed_text printed

-- ---- the lines after the blocks

-- `total windows K`, or `total windows K emitted T`
abbrev pub total_line : ℕ → Option ℕ → List ℕ
total_line windows emitted = total_words ++ decimal windows ++ emitted_text emitted ++ 10 ∷ []

-- `capture cut at byte B` or `capture bad at byte B`; no line for a capture without damage
abbrev pub damage_line : Ending → List ℕ
damage_line Clean = []
damage_line (Cut at) = cut_words ++ decimal at ++ 10 ∷ []
damage_line (Bad at) = bad_words ++ decimal at ++ 10 ∷ []

-- `capture I cut at byte B` or `capture I bad at byte B` of the capture that has this number among several, from 1; no line for a
-- capture without damage
abbrev pub damage_line_of : ℕ → Ending → List ℕ
damage_line_of file Clean = []
damage_line_of file (Cut at) = capture_words ++ decimal file ++ cut_after_words ++ decimal at ++ 10 ∷ []
damage_line_of file (Bad at) = capture_words ++ decimal file ++ bad_after_words ++ decimal at ++ 10 ∷ []

-- ---- what can be printed

-- a part's query is one of these, and its rows are of the query's final columns
pub record IsPartOf (queries : List TypedQuery) (part : Part) : Type 0 where
  pub query : part.query < length queries
  pub rows : AllByRecursion (IsOf (final_columns (query_at queries part.query))) part.rows
