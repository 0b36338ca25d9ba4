-- to be believed
-- What stands on a desk.
use Rattle.sn_io.specs.declared.inputs.Inputs.{Ghosts as InputsOf}
use Rattle.sn_io.specs.declared.sink.Sink.{Ghosts as SinkOf}
use Rattle.sn_command.specs.declared.desk.Desk.{Desk}
use Rattle.sn_command.specs.Worlds.{Files, Sunk, World}

abbrev pub files_of : {I : Type 0} → InputsOf I → I → Files
files_of inputs files = record { reported = inputs.reported files; faults = inputs.faults files }

abbrev pub sunk : {O : Type 0} → SinkOf O → O → Sunk
sunk sink out = record { written = sink.written out; faults = sink.faults out; empty_takes = sink.empty_takes out }

abbrev pub world : {I O : Type 0} → InputsOf I → SinkOf O → Desk I O → World
world inputs sink desk = record {
  files = files_of inputs desk.files.now;
  out = sunk sink desk.out.now;
  places = (desk.files.ghost_name, desk.out.ghost_name);
}
