-- to be believed
-- The items that a plan sends over windows, the prefixes that are installed in them, and what both cost.
use Rattle.std.specs.Prelude.{ℕ, ◌+◌, ◌*◌, List, map, sum}
use Rattle.std.specs.List.{sum_by}
use Rattle.sn_cost.specs.Entries.{installed_in}
use Rattle.sn_emit.specs.Plans.{Placed, pieces_from, tables_of}
use Rattle.sn_plan_fit.specs.Paths.{place_in}
use Rattle.sn_plan_grammar.specs.declared.plan.Entry.{Entry}
use Rattle.sn_switch.specs.declared.switch.Switch.{Switch}
use Rattle.sn_types.specs.declared.typed_query.TypedQuery.{TypedQuery}
use Rattle.sn_types.specs.Typed.{query_at}
use Rattle.sn_refine.specs.Refined.{Windows}
use Rattle.sn_refine.specs.Steps.{windows_of}
use Rattle.sn_engine_lockstep.specs.Windows.{plan_answers}
use Rattle.sn_windows.specs.Rising.{Window}

-- how many items all pieces of a plan send in these windows on a switch
abbrev pub sent_over : Switch → List TypedQuery → List Entry → List Window → ℕ
sent_over s queries entries given = sum_by (λ g. (plan_answers queries (tables_of s) entries (windows_of given) g.0).emitted) given

-- how many prefixes are installed in the table of a piece in a window
abbrev pub piece_installed : Switch → List TypedQuery → Windows → ℕ → Placed → ℕ
piece_installed s queries windows w x = installed_in (query_at queries x.query) s.entries windows x.path (place_in x.path x.piece.level) w

-- how many prefixes are installed in these windows in the tables of all pieces
abbrev pub installed_over : Switch → List TypedQuery → List Entry → List Window → ℕ
installed_over s queries entries given = sum_by (λ g. sum (map (piece_installed s queries (windows_of given) g.0) (pieces_from 0 entries))) given

-- what a plan costs over these windows: the items that its pieces send, and the switch's weight for each prefix that is installed
abbrev pub cost_over : Switch → List TypedQuery → List Entry → List Window → ℕ
cost_over s queries entries given = sent_over s queries entries given + s.weight * installed_over s queries entries given
