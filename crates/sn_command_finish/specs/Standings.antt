-- serves proofs
-- Where a tally stands.
use Rattle.sn_command_finish.specs.declared.tally.Tally.{Tally}
use Rattle.sn_command_finish.specs.Taken.{Standing}

abbrev pub standing : Tally → Standing
standing tally = record {
  lanes = tally.engine.lanes.items;
  closed = tally.engine.closed;
  kept = tally.engine.kept;
  windows = tally.windows;
  emitted = tally.emitted;
}
