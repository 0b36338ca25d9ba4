-- serves proofs
-- What a net is made over, and its state.
use Rattle.std.specs.Prelude.{ℕ, List, Option}
use Rattle.sn_refine.specs.Steps.{Set}
use Rattle.sn_core_net.specs.States.{State, Works, last_of, state_of, works_of}
use Rattle.sn_core_net.specs.declared.net.Net.{Net}

abbrev pub works : Net → Works
works net = works_of net.engine.t.queries net.engine.lanes.items net.sources

-- what the engine keeps of its last close
abbrev pub last : Net → Option (ℕ × List Set)
last net = last_of net.engine.closed net.engine.kept

abbrev pub state : Net → State
state net = state_of net.room net.held net.window net.lanes.items net.engine.lanes.items net.installs.items (last net) net.waiting
