-- serves proofs
-- What `check` and `run` make of a text that `plan` wrote.
use Rattle.std.specs.Prelude.{◌≡◌, ℕ, ◌+◌, ◌*◌, false, List, ◌++◌, length, Ok, Some}
use Rattle.std.specs.FinMap.{get}
use Rattle.sn_command.specs.Ends.{Around, IsCommandRun, IsRun}
use Rattle.sn_command.specs.Outcomes.{Outcome, Stage}
use Rattle.sn_command.specs.Refusals.{refusing}
use Rattle.sn_command.specs.Stages.{most_text}
use Rattle.sn_command.specs.Worlds.{AnyRose, OutRose}
use Rattle.sn_command_capture.specs.Capture.{ending_verdict}
use Rattle.sn_command_check.specs.Check.{Check, yes_line}
use Rattle.sn_command_live.specs.Captures.{IsCapture, IsHeld}
use Rattle.sn_command_run.specs.Planned.{as_they_are}
use Rattle.sn_command_run.specs.Run.{Run, window_ns}
use Rattle.sn_command_texts.specs.Queries.{QueriesIn}
use Rattle.sn_command_texts.specs.Texts.{SwitchIn}
use Rattle.sn_cost_laws.specs.Sent.{installed_over}
use Rattle.sn_io.specs.Counts.{ByName}
use Rattle.sn_out.specs.Text.{damage_line, total_line}
use Rattle.sn_pcap.specs.declared.packet.Ending.{Ending}
use Rattle.sn_plan.specs.Printing.{plan_text}
use Rattle.sn_plan_grammar.specs.declared.plan.Plan.{Plan}
use Rattle.sn_switch.specs.declared.switch.Switch.{Switch}
use Rattle.sn_tree_space.specs.declared.node.Node.{Node}
use Rattle.sn_tree_text.specs.Printing.{nodes_text, tree_text}
use Rattle.sn_types_read.specs.Texts.{Queries}
use Rattle.sn_windows.specs.Rising.{Window}

-- Files later: the switch, the queries and the training capture are as they were, and a text that went out stands in a file by itself.
pub record IsKeptBeside (switch queries train written text : List ℕ) (files later : ByName (List ℕ)) : Type 0 where
  pub same_switch : get later switch ≡ get files switch
  pub same_queries : get later queries ≡ get files queries
  pub same_train : get later train ≡ get files train
  pub held : get later written ≡ Some text

-- A text is a plan with its cost and its tree.
pub record IsPlanTree (text : List ℕ) : Type 0 where
  pub plan : Plan
  pub cost : ℕ
  pub tree : List Node
  pub is : text ≡ plan_text plan ++ tree_text cost (nodes_text tree)

-- `check` says yes, of a cost and of a tree with this many nodes.
abbrev pub yes_of : ℕ → ℕ → Outcome (Unit {0})
yes_of cost nodes = record { text = yes_line cost nodes; end = Ok tt }

-- `run` prints blocks, the line of the damage where there is some, and a total of this many items. It ends as the records of the capture do.
pub record PrintsTotal (sent : ℕ) (ran : Outcome (Unit {0})) : Type 0 where
  pub ending : Ending
  pub blocks : List ℕ
  pub windows : ℕ
  pub ran_so : ran ≡ record { text = blocks ++ (damage_line ending ++ total_line windows (Some sent)); end = refusing (ending_verdict ending) }

-- `check` says yes of the cost and of the nodes of the tree in this text.
pub record SaysYes (text : List ℕ) (checked : Outcome (Unit {0})) : Type 0 where
  pub found : IsPlanTree text
  pub checked_so : checked ≡ yes_of found.cost (length found.tree)

-- What a plan costs on a training capture of which it sends this many items: these, and the switch's weight for each prefix that is
-- installed. So with weight 0 it costs the number of these items.
pub record CostsSo (switch queries train : List ℕ) (files : ByName (List ℕ)) (plan : Plan) (cost sent : ℕ) : Type 0 where
  pub switch_text : List ℕ
  pub query_text : List ℕ
  pub train_file : List ℕ
  pub has_switch : IsHeld files switch most_text switch_text
  pub has_queries : IsHeld files queries most_text query_text
  pub has_train : IsHeld files train most_text train_file
  pub limits : Switch
  pub read : Queries
  pub windows : List Window
  pub ending : Ending
  pub is_switch : SwitchIn switch_text (Ok limits)
  pub are_queries : QueriesIn query_text (Ok read)
  pub is_train : IsCapture (window_ns read) train_file windows ending
  pub costs : cost ≡ sent + limits.weight * installed_over limits read.queries plan.entries windows

-- `run` sends this many items, by which the plan in this text costs what stands there.
pub record SendsCost (switch queries train : List ℕ) (files : ByName (List ℕ)) (text : List ℕ) (ran : Outcome (Unit {0})) : Type 0 where
  pub found : IsPlanTree text
  pub sent : ℕ
  pub costs : CostsSo switch queries train files found.plan found.cost sent
  pub prints : PrintsTotal sent ran

-- the switch in these files sets no weight
pub record HasNoWeight (switch : List ℕ) (files : ByName (List ℕ)) : Type 0 where
  pub text : List ℕ
  pub held : get files switch ≡ Some text
  pub limits : Switch
  pub is : SwitchIn text (Ok limits)
  pub none : limits.weight ≡ 0

-- `run` sends as many items as the plan in this text costs.
pub record SendsAsMany (text : List ℕ) (ran : Outcome (Unit {0})) : Type 0 where
  pub found : IsPlanTree text
  pub prints : PrintsTotal found.cost ran

-- Each call with the words of a command over these files is a run with this outcome.
abbrev pub CallsEnd : Stage (Unit {0}) → ByName (List ℕ) → Outcome (Unit {0}) → Type 0
CallsEnd work files outcome =
    (names : List (List ℕ)) (before now : Around) (status : ℕ) → IsCommandRun names work before status now → before.files.reported ≡ Some files
    → IsRun outcome (AnyRose names before.files now.files) (OutRose before.out now.out) status before.out.written now.out.written

-- Calls of `check` say yes of the cost and the tree in this text, and calls of `run` over the training capture, along its plan, send the items
-- by which it costs that.
pub record CallsConfirm (switch queries train written text : List ℕ) (files : ByName (List ℕ)) : Type 0 where
  pub found : IsPlanTree text
  pub checks : CallsEnd (Check switch queries train written) files (yes_of found.cost (length found.tree))
  pub ran : Outcome (Unit {0})
  pub sent : ℕ
  pub costs : CostsSo switch queries train files found.plan found.cost sent
  pub prints : PrintsTotal sent ran
  pub runs : CallsEnd (Run as_they_are false switch queries written train) files ran
