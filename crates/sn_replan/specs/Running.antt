-- serves proofs
-- Epochs between two calls.
use Rattle.std.specs.Prelude.{ℕ, List, Option, None, Some}
use Rattle.sn_engine_lockstep.specs.Windows.{window_of}
use Rattle.sn_plan_grammar.specs.declared.plan.Entry.{Entry}
use Rattle.sn_types.specs.declared.typed_query.TypedQuery.{TypedQuery}
use Rattle.sn_windows.specs.Rising.{Window}
use Rattle.sn_replan.specs.Resting.{Rests}
use Rattle.sn_replan.specs.declared.epoch.Epoch.{Epoch}
use Rattle.sn_replan.specs.declared.epochs.Epochs.{Epochs}
use Rattle.sn_emit.specs.declared.tables.Tables.{Tables}

abbrev pub RestsIn : List TypedQuery → Tables → List Entry → List Window → Option Epoch → Type 0
RestsIn queries tables entries windows None = ⊥
RestsIn queries tables entries windows (Some epoch) = Rests queries tables entries windows epoch.driver epoch.last

-- memory hasn't run out, and since this plan was put in place these windows were answered
abbrev pub Runs : List TypedQuery → Tables → List Entry → List Window → Epochs → Type 0
Runs queries tables entries windows e = RestsIn queries tables entries windows e.epoch

-- the number of the last window that was answered since the plan was put in place
abbrev pub last_number : Option Epoch → Option ℕ
last_number None = None
last_number (Some epoch) = window_of epoch.last

abbrev pub last_window : Epochs → Option ℕ
last_window e = last_number e.epoch
