use Rattle.std.proofs.Common.{◌≡◌, ◌<◌, ◌≤◌, ◌+◌, ◌-◌, ◌^◌, [], ◌∷◌, IfSome, is_some, true, length}
use Rattle.std.specs.FinMap.{get}
use Rattle.sn_engine.specs.Intakes.{total}
use Rattle.sn_io.specs.Inputs.{stated_file}
use Rattle.sn_report_reader.specs.Reading.{Follows}
use Rattle.sn_command_finish.proofs.TurnLemmas.{LeftIn}
use Rattle.sn_command_finish.specs.Reported.{Answered}
use Rattle.sn_command_finish.specs.Standings.{standing}
use Rattle.sn_command.specs.Desks.{world}
use Rattle.sn_command.specs.Runs.{Leads}
use Rattle.sn_command.specs.Stages.{Then}
use Rattle.sn_command_capture.specs.Capture.{Whole}
use Rattle.sn_command_finish.proofs.reports.take_frames.Given as goal

abbrev pub invariant-frames : goal.invariant-frames
invariant-frames g l =
    let here = world g.I.Inputs g.O.Sink l.desk in
    record {
      queries : l.tally.engine.t.queries ≡ l.fn.begun.engine.t.queries;
      leads : Leads (l.name ∷ []) (LeftIn l.fn.begun.engine.t.queries l.name l.reader.offset (standing l.tally)) (Then (Whole l.name) (λ file. Answered l.fn.begun.engine.t.queries (standing l.fn.begun) file))
          (world g.I.Inputs g.O.Sink l.initial.desk) here;
      follows : IfSome (stated_file here.files.reported l.name) (λ file. Follows file l.reader);
      known : 0 < length l.reader.held → is_some (get here.files.faults l.name) ≡ true;
      most : l.reader.offset ≤ 2 ^ 30;
      windows : l.tally.windows ≤ l.reader.offset;
      emitted : l.tally.emitted + total l.tally.engine.lanes.items ≤ l.reader.offset;
    }

abbrev pub decreases-frames : goal.decreases-frames
decreases-frames g l = 2 ^ 30 - l.reader.offset
