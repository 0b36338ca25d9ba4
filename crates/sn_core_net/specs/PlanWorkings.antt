-- serves proofs
-- What a net of a plan is made over: the pipes of its pieces, and what an engine makes of their items.
use Rattle.std.specs.Prelude.{ℕ, List, [], ◌∷◌, map, Some}
use Rattle.std.specs.FinSet as set
use Rattle.std.specs.List.{AllByRecursion}
use Rattle.std.specs.Ordering.{nat_cmp}
use Rattle.sn_core.specs.Due.{Tuples}
use Rattle.sn_core.specs.Nets.{Lane}
use Rattle.sn_core.specs.Workings.{Workings}
use Rattle.sn_emit.specs.Plans.{IsNewPipeOf, Placed, pieces_from}
use Rattle.sn_emit.specs.declared.tables.Tables.{Tables}
use Rattle.sn_engine.specs.Answers.{answers_of}
use Rattle.sn_engine.specs.declared.intake.Intake.{Intake}
use Rattle.sn_pipe.specs.Pipes.{PipeState, after_packet, at_start, item_of}
use Rattle.sn_pipe.specs.Prefixes.{left_in}
use Rattle.sn_plan_grammar.specs.declared.plan.Entry.{Entry}
use Rattle.sn_windows.specs.Rising.{Window}
use Rattle.sn_report.specs.Items.{Item}
use Rattle.sn_types.specs.declared.answers.Answers.{Answers}
use Rattle.sn_types.specs.declared.typed_query.TypedQuery.{TypedQuery}
use Rattle.sn_types.specs.Typed.{HasWidths}
use Rattle.sn_engine_lockstep.specs.declared.source.Source.{Source}
use Rattle.sn_engine_lockstep.specs.Sources.{prefixes_in, source_of}
use Rattle.sn_engine_lockstep.specs.Work.{intake_of}
use Rattle.sn_core_net.specs.ReadOut.{after_read_out, is_unread, unwalked}

-- a lane of the engine that has ended a window, of which these items came
abbrev pub ended : ℕ → List Item → Intake → Intake
ended window items x = record x { items = items; end = Some window }

-- the engine's lanes at the end of a window, where these items came of each
abbrev pub all_ended : ℕ → List Intake → List (List Item) → List Intake
all_ended window [] items = []
all_ended window (x ∷ xs) [] = ended window [] x ∷ all_ended window xs []
all_ended window (x ∷ xs) (items ∷ rest) = ended window items x ∷ all_ended window xs rest

-- A net over the pipes of a switch and these lanes of an engine: its answers are those of the engine, which drops items of other
-- prefixes, and the prefixes that they keep for a lane are those of the lane's source.
abbrev pub workings_of : List TypedQuery → List Intake → List Source → Workings PipeState (List ℕ) Item (set.FinSet nat_cmp) Answers
workings_of queries intakes sources = record {
  item_of = item_of;
  after = after_packet;
  left = λ pipe. left_in pipe.prefix;
  read = after_read_out;
  is_unread = is_unread;
  unwalked = unwalked;
  start = at_start;
  nothing = set.empty;
  answers = λ sets window items. answers_of queries sets (all_ended window intakes items);
  kept_of = λ answers. map (prefixes_in queries answers.parts) sources;
}

-- A net of a plan: it has a lane for each piece, and the source of a piece's prefixes is the level before its own.
abbrev pub workings : List TypedQuery → List Entry → Workings PipeState (List ℕ) Item (set.FinSet nat_cmp) Answers
workings queries entries = workings_of queries (map intake_of (pieces_from 0 entries)) (map source_of (pieces_from 0 entries))

-- ---- the lanes of a net of a plan

-- a lane for each piece in order: at the start of a window its pipe is as it was made, but for the prefix set
abbrev pub AreLanesFor : List TypedQuery → Tables → List Placed → List (Lane PipeState Item) → Type 0
AreLanesFor queries tables [] [] = Unit {0}
AreLanesFor queries tables [] (lane ∷ lanes) = ⊥
AreLanesFor queries tables (x ∷ xs) [] = ⊥
AreLanesFor queries tables (x ∷ xs) (lane ∷ lanes) = IsNewPipeOf queries tables x (at_start lane.pipe set.empty) × AreLanesFor queries tables xs lanes

-- a window that is given, with its number
abbrev pub given_of : Tuples (List ℕ) → Window
given_of x = (x.number, x.tuples)

-- the tuples of windows are those of packets: their numbers have the widths of their fields
abbrev pub HaveWidths : List (Tuples (List ℕ)) → Type 0
HaveWidths windows = AllByRecursion (λ (x : Tuples (List ℕ)). AllByRecursion HasWidths x.tuples) windows
