-- to be believed
-- What `live` prints, in one statement.
use Rattle.std.specs.Prelude.{◌≡◌, ◌⊎◌, ℕ, ◌≤◌, List, [], ◌∷◌, ◌++◌, length, Ok, Option, Some}
use Rattle.std.specs.FinMap.{get}
use Rattle.std.specs.Io.KnownBytes.{append_known}
use Rattle.std.specs.List.{AllByRecursion, flat_map}
use Rattle.sn_command_capture.specs.Capture.{ending_verdict}
use Rattle.sn_windows.specs.Rising.{Window}
use Rattle.sn_plan_lists.specs.Chosen.{plan_choices}
use Rattle.sn_plan_fit.specs.Fits.{Fits}
use Rattle.sn_io.specs.Counts.{ByName}
use Rattle.sn_cost_laws.specs.Sent.{cost_over}
use Rattle.sn_pcap.specs.declared.packet.Ending.{Ending}
use Rattle.sn_pcap.specs.declared.packet.Ending.TheVariants.{Clean}
use Rattle.sn_pcap.specs.Reading.{last_of}
use Rattle.sn_pcap.specs.declared.seen.Last.TheVariants.{Ended}
use Rattle.sn_plan.specs.Printing.{plan_text}
use Rattle.sn_plan_grammar.specs.declared.plan.Entry.{Entry}
use Rattle.sn_plan_grammar.specs.declared.plan.Plan.{Plan}
use Rattle.sn_command_texts.specs.Queries.{QueriesIn}
use Rattle.sn_command_texts.specs.Texts.{SwitchIn}
use Rattle.sn_cost_laws.specs.Space.{trained_plans}
use Rattle.sn_types_read.specs.Texts.{Queries}
use Rattle.sn_command_run.specs.Planned.{Planned, plan_block, plan_lines}
use Rattle.sn_command_run.specs.Run.{planned, window_ns}
use Rattle.sn_tree_space.specs.declared.node.Node.{Node}
use Rattle.sn_tree_space.specs.Searches.{any_bound}
use Rattle.sn_tree_space.specs.Space.{IsFirstLeast}
use Rattle.sn_tree_space.specs.Trees.{IsAccepted, count_expands, tree_of}
use Rattle.sn_command.specs.Ends.{Around, end_status}
use Rattle.sn_command.specs.Refusals.{refusing}
use Rattle.sn_command.specs.Stages.{most_text}
use Rattle.sn_command.specs.Worlds.{AnyRose, OutRose}
use Rattle.sn_switch.specs.declared.switch.Switch.{Switch}
use Rattle.sn_tree_text.specs.Printing.{nodes_text, tree_text}
use Rattle.sn_command_live.specs.Captures.{IsCapture, IsHeld}
use Rattle.sn_windows.specs.Blocks.{most_records}

-- what a plan costs on a capture with these windows: the items that all its pieces send of them, and the switch's weight for each
-- prefix that is installed
abbrev pub cost_on : List Window → Queries → Switch → List Entry → ℕ
cost_on windows read limits entries = cost_over limits read.queries entries windows

-- of a window of a capture: its line, with the number of items that the plan sends of it; and for each query and each level of its path the
-- answers of the unsplit query, refined along the path
abbrev pub window_block : Planned → List Window → Window → List ℕ
window_block p windows w = plan_block p windows w.0 w.1

-- What `live` is given: the files hold accepted queries, an accepted switch, and two captures, of which the records of the second end so.
pub record AreAccepted (switch queries train capture : List ℕ) (files : ByName (List ℕ)) (ending : Ending) : Type 0 where
  pub query_text : List ℕ
  pub switch_text : List ℕ
  pub first_file : List ℕ
  pub second_file : List ℕ
  pub has_queries : IsHeld files queries most_text query_text
  pub has_switch : IsHeld files switch most_text switch_text
  pub has_first : IsHeld files train most_text first_file
  pub has_second : get files capture ≡ Some second_file
  pub read : Queries
  pub limits : Switch
  pub first : List Window
  pub first_ending : Ending
  pub second : List Window
  pub are_queries : QueriesIn query_text (Ok read)
  pub is_switch : SwitchIn switch_text (Ok limits)
  pub is_first : IsCapture (window_ns read) first_file first first_ending
  pub is_second : IsCapture (window_ns read) second_file second ending

-- The limits are kept: the first capture has no more records than a window may have, nor has a window of the second one,
-- whose records end within 2^40 bytes; and the tree of the first of the plans that cost least has at most this many nodes that are expanded.
pub record KeepsLimits {switch queries train capture : List ℕ} {files : ByName (List ℕ)} {ending : Ending}
    (given : AreAccepted switch queries train capture files ending) (nodes : ℕ) : Type 0 where
  pub few_records : length given.is_first.packets ≤ most_records
  pub few_each : AllByRecursion (λ (w : Window). length w.1 ≤ most_records) given.second
  pub within_bytes : last_of given.second_file ending ≡ Ended ending
  pub within_budget : (choices : List ℕ) → IsFirstLeast (trained_plans given.limits given.read.queries given.first) choices
      → count_expands any_bound (tree_of (trained_plans given.limits given.read.queries given.first) choices) ≤ nodes

-- What `live` prints of them.
pub record Headline {switch queries train capture : List ℕ} {files : ByName (List ℕ)} {ending : Ending}
    (given : AreAccepted switch queries train capture files ending) (text : List ℕ) : Type 0 where
  -- The plan fits every limit of the switch.
  pub plan : Plan
  pub fits : Fits given.read.queries given.limits plan.entries
  -- No plan that fits costs less on the first capture,
  pub least : (entries : List Entry) → Fits given.read.queries given.limits entries
      → cost_on given.first given.read given.limits plan.entries ≤ cost_on given.first given.read given.limits entries
  -- which the tree of bounds shows.
  pub tree : List Node
  pub shown : IsAccepted (trained_plans given.limits given.read.queries given.first) (plan_choices given.limits given.read.queries plan.entries) tree
  -- These are printed, with the plan's cost on the first capture; then for each window of the second one the refined answers along the plan, and how
  -- many items were sent; and then the damage, if there is some, and the total.
  pub printed : text ≡ (plan_text plan ++ tree_text (cost_on given.first given.read given.limits plan.entries) (nodes_text tree))
      ++ (flat_map (window_block (planned given.read given.limits plan) given.second) given.second
      ++ plan_lines (planned given.read given.limits plan) given.second ending)

-- the headline of these files is written, and the status says how the records of the second capture end
pub record IsPrinted {switch queries train capture : List ℕ} {files : ByName (List ℕ)} {ending : Ending}
    (given : AreAccepted switch queries train capture files ending) (status : ℕ) (before now : Option (List ℕ)) : Type 0 where
  pub text : List ℕ
  pub headline : Headline given text
  pub written : now ≡ append_known before text
  pub status_is : status ≡ end_status (refusing (ending_verdict ending))

-- What a call with the words of `live` leaves, over files whose contents are known.
pub record KeepsHeadline (switch queries train capture : List ℕ) (nodes : ℕ) (before : Around) (status : ℕ) (now : Around) : Type 0 where
  -- Of accepted files with limits that are kept the headline is printed, where no count rose, unless memory ran out.
  pub printed : (files : ByName (List ℕ)) → before.files.reported ≡ Some files → (ending : Ending) (given : AreAccepted switch queries train capture files ending)
      → KeepsLimits given nodes
      → (AnyRose (queries ∷ switch ∷ train ∷ capture ∷ []) before.files now.files → ⊥) → (OutRose before.out now.out → ⊥)
      → (status ≡ 1) ⊎ IsPrinted given status before.out.written now.out.written
  -- Where the status is 0, the files are accepted, and it is printed.
  pub only : (files : ByName (List ℕ)) → before.files.reported ≡ Some files → status ≡ 0
      → (given : AreAccepted switch queries train capture files Clean) × IsPrinted given status before.out.written now.out.written
