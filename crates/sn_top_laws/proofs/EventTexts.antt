-- Answers, plans and trees have no lines of events, and what happens in a machine has no others.
use Rattle.std.proofs.Common.{◌≡◌, ℕ, ◌+◌, ◌/◌, ◌%◌, ◌^◌, ◌<◌, ◌≢◌, Bool, true, false, not, ◌&&◌, ◌==◌, nat_lt, cond, List, [], ◌∷◌, ◌++◌, length, Option, Some, None, refl, ap, subst, append_assoc, arith}
use Rattle.std.specs.Prelude.{codes}
use Rattle.std.specs.Fmt.{decimal}
use Rattle.std.specs.List.{AllByRecursion, flat_map, list_all}
use Rattle.sn_base.specs.declared.column.Column.{Column}
use Rattle.sn_base.specs.Groups.{Row}
use Rattle.sn_core.specs.declared.event.Event.{Event}
use Rattle.sn_core.specs.declared.event.Event.TheVariants.{Packet, ReadOut, Deliver, CloseWindow, Install}
use Rattle.sn_core_drive.specs.Lines.{close_words, deliver_words, event_line, install_words, lines_of, packet_words, read_words}
use Rattle.sn_out.specs.Text.{answer_text, bad_words, block_text, counted, cut_words, damage_line, dotted, emitted_text, group_text, grouped, half_text, hex_digit, emitted_words, level_text, level_words, number_text, numbers_text, part_text, query_line, query_words, row_line, rows_words, spaced_texts, total_line, total_words, window_line, window_words}
use Rattle.sn_pcap.specs.declared.packet.Ending.{Ending}
use Rattle.sn_pcap.specs.declared.packet.Ending.TheVariants.{Clean, Cut, Bad}
use Rattle.sn_plan.specs.Printing.{entry_text, list_text, next_text, piece_text, plan_text, sizes_text, texts}
use Rattle.sn_plan_grammar.specs.declared.plan.Entry.{Entry}
use Rattle.sn_plan_grammar.specs.declared.plan.Piece.{Piece}
use Rattle.sn_plan_grammar.specs.declared.plan.Plan.{Plan}
use Rattle.sn_tree_space.specs.declared.node.Node.{Node}
use Rattle.sn_tree_space.specs.declared.node.Node.TheVariants.{Expand, Bound, Broken, Chosen}
use Rattle.sn_tree_text.specs.Printing.{node_text, nodes_text, tree_text}
use Rattle.sn_types.specs.declared.answers.Answers.{Answers}
use Rattle.sn_types.specs.declared.answers.Part.{Part}
use Rattle.sn_types.specs.declared.typed_query.TypedQuery.{TypedQuery}
use Rattle.sn_types.specs.Typed.{final_columns, query_at}
use Rattle.sn_top_laws.proofs.EventLines.{Leaves, Stays, all_both, both_stay, decimal_passes, digit_feeds, digit_starts, each_goes, each_leaves, line_goes, line_stays, no_feed, no_start, none_leaves, starts_plain}
use Rattle.sn_base.proofs.Lists.{by_test, and_parts as both_so}
use Rattle.std.proofs.lemmas.Bool.{ne_eqb}

-- a text without a line feed
abbrev pub IsOneLine : List ℕ → Type 0
IsOneLine text = list_all no_feed text ≡ true

with_more : (a b : List ℕ) → IsOneLine a → IsOneLine b → IsOneLine (a ++ b)
with_more a b e f = all_both no_feed a b e f

number_line : (n : ℕ) → IsOneLine (decimal n)
number_line n = decimal_passes no_feed digit_feeds n

-- a line, and a list of lines
line_with : (xs tail : List ℕ) → IsOneLine (xs ++ tail) → starts_plain (xs ++ tail) ≡ true → Stays (xs ++ (tail ++ 10 ∷ []))
line_with xs tail e s = subst Stays (append_assoc xs tail (10 ∷ [])) (line_stays (xs ++ tail) e s)

-- ---- rows

abbrev no_starts : List ℕ → Type 0
no_starts text = list_all no_start text ≡ true

digits_starts : (n : ℕ) → no_starts (decimal n)
digits_starts n = decimal_passes no_start digit_starts n

module _ (test : ℕ → Bool) (dot : test 46 ≡ true) (colon : test 58 ≡ true) (space : test 32 ≡ true) (hex : (d : ℕ) → d < 16 → test (hex_digit d) ≡ true)
    (digits : (n : ℕ) → list_all test (decimal n) ≡ true) where
  after_dot : (n : ℕ) → list_all test (46 ∷ decimal n) ≡ true
  after_dot n = rw dot (digits n)

  dotted_passes : (n : ℕ) → list_all test (dotted n) ≡ true
  dotted_passes n =
      all_both test (decimal (n / 2 ^ 24 % 256) ++ 46 ∷ decimal (n / 2 ^ 16 % 256) ++ 46 ∷ decimal (n / 2 ^ 8 % 256)) (46 ∷ decimal (n % 256))
      (all_both test (decimal (n / 2 ^ 24 % 256) ++ 46 ∷ decimal (n / 2 ^ 16 % 256)) (46 ∷ decimal (n / 2 ^ 8 % 256))
      (all_both test (decimal (n / 2 ^ 24 % 256)) (46 ∷ decimal (n / 2 ^ 16 % 256)) (digits (n / 2 ^ 24 % 256)) (after_dot (n / 2 ^ 16 % 256))) (after_dot (n / 2 ^ 8 % 256)))
      (after_dot (n % 256))

  group_passes : (n : ℕ) → list_all test (group_text n) ≡ true
  unfolding group_text
  group_passes n =
      let a = hex (n / 2 ^ 12 % 16) (omega arith) in
      let b = hex (n / 2 ^ 8 % 16) (omega arith) in
      let c = hex (n / 2 ^ 4 % 16) (omega arith) in
      let d = hex (n % 16) (omega arith) in
      rw (a, b, c, d) refl

  after_colon : (n : ℕ) → list_all test (58 ∷ group_text n) ≡ true
  after_colon n = rw colon (group_passes n)

  half_passes : (n : ℕ) → list_all test (half_text n) ≡ true
  half_passes n =
      let a : List ℕ = group_text (n / 2 ^ 48 % 2 ^ 16) in
      let b : List ℕ = group_text (n / 2 ^ 32 % 2 ^ 16) in
      let c : List ℕ = group_text (n / 2 ^ 16 % 2 ^ 16) in
      let d : List ℕ = group_text (n % 2 ^ 16) in
      all_both test (a ++ 58 ∷ b ++ 58 ∷ c) (58 ∷ d)
      (all_both test (a ++ 58 ∷ b) (58 ∷ c) (all_both test a (58 ∷ b) (group_passes (n / 2 ^ 48 % 2 ^ 16)) (after_colon (n / 2 ^ 32 % 2 ^ 16))) (after_colon (n / 2 ^ 16 % 2 ^ 16)))
      (after_colon (n % 2 ^ 16))

  grouped_passes : (n : ℕ) → list_all test (grouped n) ≡ true
  grouped_passes n = all_both test (half_text (n / 2 ^ 64)) (58 ∷ half_text (n % 2 ^ 64)) (half_passes (n / 2 ^ 64)) (rw colon (half_passes (n % 2 ^ 64)))

  by_width : (wide : Bool) (n : ℕ) → list_all test (cond wide (grouped n) (dotted n)) ≡ true
  by_width true n = grouped_passes n
  by_width false n = dotted_passes n

  by_address : (address wide : Bool) (n : ℕ) → list_all test (cond address (cond wide (grouped n) (dotted n)) (decimal n)) ≡ true
  by_address true wide n = by_width wide n
  by_address false wide n = digits n

  spaced_passes : (columns : List Column) (row : Row) → list_all test (spaced_texts columns row) ≡ true
  spaced_passes [] row = refl
  spaced_passes (c ∷ cs) [] = refl
  spaced_passes (c ∷ cs) (n ∷ ns) =
      all_both test (32 ∷ number_text c n) (spaced_texts cs ns) (rw space (by_address c.address (c.width == 128) n)) (spaced_passes cs ns)

  row_passes : (columns : List Column) (row : Row) → list_all test (numbers_text columns row) ≡ true
  row_passes [] row = refl
  row_passes (c ∷ cs) [] = refl
  row_passes (c ∷ cs) (n ∷ ns) = all_both test (number_text c n) (spaced_texts cs ns) (by_address c.address (c.width == 128) n) (spaced_passes cs ns)

first_starts : (text : List ℕ) → no_starts text → starts_plain text ≡ true
first_starts [] e = refl
first_starts (c ∷ []) e = refl
first_starts (c ∷ d ∷ ds) e = (both_so (no_start d) (list_all no_start ds) (both_so (no_start c) (no_start d && list_all no_start ds) e).1).0

-- a hexadecimal digit is no letter past `f`, and no line feed
other_code : (k d : ℕ) → k ≢ 48 + d → k ≢ 87 + d → (k == hex_digit d) ≡ false
other_code k d a b = by_test (nat_lt d 10) (λ is. rw is (ne_eqb k (48 + d) a)) (λ isnt. rw isnt (ne_eqb k (87 + d) b))

hex_starts : (d : ℕ) → d < 16 → no_start (hex_digit d) ≡ true
hex_starts d few = ap not (other_code 118 d (λ e. omega arith) (λ e. omega arith))

hex_feeds : (d : ℕ) → d < 16 → no_feed (hex_digit d) ≡ true
hex_feeds d few = by_test (nat_lt d 10) (λ is. rw is (ap not (ne_eqb (48 + d) 10 (λ e. omega arith)))) (λ isnt. rw isnt (ap not (ne_eqb (87 + d) 10 (λ e. omega arith))))

row_stays : (columns : List Column) (row : Row) → Stays (row_line columns row)
row_stays columns row =
    line_stays (numbers_text columns row) (row_passes no_feed refl refl refl hex_feeds number_line columns row)
    (first_starts (numbers_text columns row) (row_passes no_start refl refl refl hex_starts digits_starts columns row))

-- ---- answers

query_stays : (name : List ℕ) (level rows : ℕ) → IsOneLine name → Stays (query_line name level rows)
unfolding query_words level_words rows_words
query_stays name level rows fine =
    let front : List ℕ = query_words ++ name ++ level_text level in
    let count : List ℕ = rows_words ++ decimal rows in
    line_with front count
    (with_more front count (with_more (query_words ++ name) (level_text level) (with_more query_words name refl fine) (with_more level_words (decimal level) refl (number_line level))) (with_more rows_words (decimal rows) refl (number_line rows)))
    refl

answer_stays : (query : TypedQuery) (level : ℕ) (rows : List Row) → IsOneLine query.name → Stays (answer_text query level rows)
answer_stays query level rows fine =
    both_stay (query_line query.name level (length rows)) (flat_map (row_line (final_columns query)) rows) (query_stays query.name level (length rows) fine)
    (each_leaves (row_line (final_columns query)) (row_line (final_columns query)) (row_stays (final_columns query)) rows)

emitted_line : (emitted : Option ℕ) → IsOneLine (emitted_text emitted)
unfolding emitted_words
emitted_line None = refl
emitted_line (Some n) = with_more emitted_words (decimal n) refl (number_line n)

window_stays : (window : ℕ) (emitted : Option ℕ) → Stays (window_line window emitted)
unfolding window_words
window_stays window emitted =
    line_stays (window_words ++ decimal window ++ emitted_text emitted)
    (with_more (window_words ++ decimal window) (emitted_text emitted) (with_more window_words (decimal window) refl (number_line window)) (emitted_line emitted)) refl

-- the names of these queries, and of those past the end
abbrev pub HaveNames : List TypedQuery → Type 0
HaveNames queries = (q : ℕ) → IsOneLine (query_at queries q).name

pub block_stays : (queries : List TypedQuery) → HaveNames queries → (answers : Answers) (counts : Bool) → Stays (block_text queries answers counts)
block_stays queries fine answers counts =
    both_stay (window_line answers.window (counted counts answers.emitted)) (flat_map (part_text queries) answers.parts) (window_stays answers.window (counted counts answers.emitted))
    (each_leaves (part_text queries) (part_text queries) (λ (part : Part). answer_stays (query_at queries part.query) part.level part.rows (fine part.query)) answers.parts)

total_stays : (windows : ℕ) (emitted : Option ℕ) → Stays (total_line windows emitted)
unfolding total_words
total_stays windows emitted =
    line_stays (total_words ++ decimal windows ++ emitted_text emitted)
    (with_more (total_words ++ decimal windows) (emitted_text emitted) (with_more total_words (decimal windows) refl (number_line windows)) (emitted_line emitted)) refl

damage_stays : (ending : Ending) → Stays (damage_line ending)
unfolding cut_words bad_words
damage_stays Clean = none_leaves
damage_stays (Cut at) = line_stays (cut_words ++ decimal at) (with_more cut_words (decimal at) refl (number_line at)) refl
damage_stays (Bad at) = line_stays (bad_words ++ decimal at) (with_more bad_words (decimal at) refl (number_line at)) refl

pub last_stays : (ending : Ending) (windows : ℕ) (emitted : Option ℕ) → Stays (damage_line ending ++ total_line windows emitted)
last_stays ending windows emitted = both_stay (damage_line ending) (total_line windows emitted) (damage_stays ending) (total_stays windows emitted)

-- ---- plans

further_line : (ns : List ℕ) → IsOneLine (texts next_text ns)
further_line [] = refl
further_line (n ∷ ns) = with_more (next_text n) (texts next_text ns) (with_more (codes ", ") (decimal n) refl (number_line n)) (further_line ns)

list_line : (ns : List ℕ) → IsOneLine (list_text ns)
list_line [] = refl
list_line (n ∷ ns) = with_more (decimal n) (texts next_text ns) (number_line n) (further_line ns)

sizes_line : (slots stages : List ℕ) → IsOneLine (sizes_text slots stages)
sizes_line [] stages = refl
sizes_line (n ∷ ns) stages =
    let front : List ℕ = codes " slots " ++ list_text (n ∷ ns) in
    with_more (front ++ codes " stages ") (list_text stages) (with_more front (codes " stages ") (with_more (codes " slots ") (list_text (n ∷ ns)) refl (list_line (n ∷ ns))) refl) (list_line stages)

-- a line that ends with a semicolon
ended_stays : (xs : List ℕ) → IsOneLine xs → starts_plain (xs ++ 59 ∷ []) ≡ true → Stays (xs ++ codes ";\n")
ended_stays xs e s = line_with xs (59 ∷ []) (with_more xs (59 ∷ []) e refl) s

piece_stays : (p : Piece) → Stays (piece_text p)
piece_stays p =
    let level : List ℕ = codes "piece " ++ decimal p.level in
    let branch : List ℕ = level ++ codes " " ++ decimal p.branch in
    let cut : List ℕ = branch ++ codes " cut " ++ decimal p.cut in
    ended_stays (cut ++ sizes_text p.slots p.stages)
    (with_more cut (sizes_text p.slots p.stages)
    (with_more (branch ++ codes " cut ") (decimal p.cut)
    (with_more branch (codes " cut ") (with_more (level ++ codes " ") (decimal p.branch) (with_more level (codes " ") (with_more (codes "piece ") (decimal p.level) refl (number_line p.level)) refl) (number_line p.branch)) refl)
    (number_line p.cut))
    (sizes_line p.slots p.stages))
    refl

pieces_stay : (ps : List Piece) → Stays (texts piece_text ps)
pieces_stay [] = none_leaves
pieces_stay (p ∷ ps) = both_stay (piece_text p) (texts piece_text ps) (piece_stays p) (pieces_stay ps)

entry_stays : (e : Entry) → IsOneLine e.name → Stays (entry_text e)
entry_stays e fine =
    let name : List ℕ = codes "query " ++ e.name in
    let path : List ℕ = name ++ codes " path " ++ list_text e.levels in
    both_stay (path ++ codes ";\n") (texts piece_text e.pieces)
    (ended_stays path (with_more (name ++ codes " path ") (list_text e.levels) (with_more name (codes " path ") (with_more (codes "query ") e.name refl fine) refl) (list_line e.levels)) refl)
    (pieces_stay e.pieces)

entries_stay : (es : List Entry) → AllByRecursion (λ (e : Entry). IsOneLine e.name) es → Stays (texts entry_text es)
entries_stay [] fine = none_leaves
entries_stay (e ∷ es) fine = both_stay (entry_text e) (texts entry_text es) (entry_stays e fine.0) (entries_stay es fine.1)

pub plan_stays : (plan : Plan) → AllByRecursion (λ (e : Entry). IsOneLine e.name) plan.entries → Stays (plan_text plan)
plan_stays plan fine = both_stay (codes "plan\n") (texts entry_text plan.entries) (line_stays (codes "plan") refl refl) (entries_stay plan.entries fine)

-- ---- trees

node_stays : (node : Node) → Stays (node_text node)
node_stays (Expand n) = line_stays (codes "E " ++ decimal n) (with_more (codes "E ") (decimal n) refl (number_line n)) refl
node_stays (Bound n) = line_stays (codes "B " ++ decimal n) (with_more (codes "B ") (decimal n) refl (number_line n)) refl
node_stays Broken = line_stays (codes "X") refl refl
node_stays (Chosen n) = line_stays (codes "P " ++ decimal n) (with_more (codes "P ") (decimal n) refl (number_line n)) refl

nodes_stay : (nodes : List Node) → Stays (nodes_text nodes)
nodes_stay [] = none_leaves
nodes_stay (n ∷ ns) = both_stay (node_text n) (nodes_text ns) (node_stays n) (nodes_stay ns)

pub tree_stays : (cost : ℕ) (nodes : List Node) → Stays (tree_text cost (nodes_text nodes))
tree_stays cost nodes =
    let first : List ℕ = codes "cost " ++ decimal cost in
    let head : Stays (first ++ codes ";\ntree\n") =
    subst Stays (append_assoc first (codes ";\n") (codes "tree\n"))
    (both_stay (first ++ codes ";\n") (codes "tree\n") (ended_stays first (with_more (codes "cost ") (decimal cost) refl (number_line cost)) refl) (line_stays (codes "tree") refl refl)) in
    both_stay (first ++ codes ";\ntree\n" ++ nodes_text nodes) (codes "done\n") (both_stay (first ++ codes ";\ntree\n") (nodes_text nodes) head (nodes_stay nodes)) (line_stays (codes "done") refl refl)

-- ---- events

event_goes : (event : Event) → Leaves (event_line event) []
unfolding packet_words read_words deliver_words close_words install_words
event_goes Packet = line_goes packet_words refl refl
event_goes (ReadOut lane) = line_goes (read_words ++ decimal lane) (with_more read_words (decimal lane) refl (number_line lane)) refl
event_goes (Deliver lane) = line_goes (deliver_words ++ decimal lane) (with_more deliver_words (decimal lane) refl (number_line lane)) refl
event_goes CloseWindow = line_goes close_words refl refl
event_goes Install = line_goes install_words refl refl

pub events_go : (events : List Event) → Leaves (lines_of events) []
events_go events = each_goes event_line event_goes events
