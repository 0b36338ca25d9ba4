-- serves proofs
-- What a state is but for the folds of a distinct's registers, of which the keys alone count.
use Rattle.std.specs.Prelude.{List, map}
use Rattle.sn_core.specs.Nets.{Lane}
use Rattle.sn_core_net.specs.States.{State}
use Rattle.sn_pipe.specs.Pipes.{PipeState}
use Rattle.sn_pipe.specs.AnyStage.{Stage}
use Rattle.sn_pipe.specs.declared.stage.Stage.TheVariants.{Filter, Map, Distinct, Reduce}
use Rattle.sn_report.specs.Items.{Item}
use Rattle.sn_core_drive.specs.Lanes.{any_or}
use Rattle.sn_core_drive.specs.Turns.{Turns}

abbrev pub plain_stage : Stage → Stage
plain_stage (Filter conds) = Filter conds
plain_stage (Map exprs) = Map exprs
plain_stage (Distinct chain over) = Distinct (record chain { fold = any_or }) over
plain_stage (Reduce r chain) = Reduce r chain

abbrev pub plain_stages : List Stage → List Stage
plain_stages stages = map plain_stage stages

abbrev pub plain_pipe : PipeState → PipeState
plain_pipe p = record p { prefix = record p.prefix { stages = plain_stages p.prefix.stages } }

abbrev pub plain_lane : Lane PipeState Item → Lane PipeState Item
plain_lane lane = record lane { pipe = plain_pipe lane.pipe }

abbrev pub plain_state : State → State
plain_state s = record s { lanes = map plain_lane s.lanes }

abbrev pub plain_turns : Turns → Turns
plain_turns r = record r { state = plain_state r.state }
