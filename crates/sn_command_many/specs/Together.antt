-- to be believed
-- What several switches that run one plan answer, and what is written of it.
use Rattle.std.specs.Prelude.{ℕ, suc, List, [], ◌∷◌, ◌++◌, length, map, sum, true, Some}
use Rattle.sn_command_captures.specs.Answered.{JointWording, Shared}
use Rattle.sn_command_run.specs.Planned.{Planned}
use Rattle.sn_engine_many.specs.Answers.{in_one, many_answers}
use Rattle.sn_out.specs.Text.{block_text, damage_line_of, total_line}
use Rattle.sn_pcap.specs.declared.packet.Ending.{Ending}
use Rattle.sn_refine.specs.Refined.{Windows}
use Rattle.sn_refine.specs.Steps.{windows_of}
use Rattle.sn_types.specs.declared.answers.Answers.{Answers}

-- ---- answers

-- what windows hold, over all captures
abbrev pub held_in : List Shared → Windows
held_in all = windows_of (map in_one all)

-- The answers in a window: those of the queries refined along the plan over the tuples of all captures together, and how many items
-- the switches send, each of its own capture.
abbrev pub answers_in : Planned → List Shared → Shared → Answers
answers_in p all w = many_answers p.queries p.tables p.entries (held_in all) w.0 w.1

-- how many items were sent in windows
abbrev pub emitted_at : Planned → List Shared → Shared → ℕ
emitted_at p all w = (answers_in p all w).emitted

abbrev pub emitted_in : Planned → List Shared → List Shared → ℕ
emitted_in p all windows = sum (map (emitted_at p all) windows)

-- ---- text

-- the line of each damaged capture, the first of which has this number
abbrev pub damage_lines : ℕ → List Ending → List ℕ
damage_lines number [] = []
damage_lines number (e ∷ es) = damage_line_of number e ++ damage_lines (suc number) es

abbrev pub many_block : Planned → List Shared → Shared → List ℕ
many_block p all w = block_text p.queries (answers_in p all w) true

-- after the blocks: the line of each damaged capture, and the total
abbrev pub many_lines : Planned → List Shared → List Ending → List ℕ
many_lines p all ends = damage_lines 1 ends ++ total_line (length all) (Some (emitted_in p all all))

abbrev pub many_wording : Planned → JointWording
many_wording p = record { block = many_block p; last = many_lines p }
