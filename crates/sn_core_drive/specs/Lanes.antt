-- serves proofs
-- The lanes of a plan as they are made, as values.
use Rattle.std.specs.Prelude.{ℕ, suc, List, [], ◌∷◌, map, take, false}
use Rattle.std.specs.FinSet as set
use Rattle.sn_base.specs.declared.fold.Or.{Or}
use Rattle.sn_chain.specs.Chain.{empty_chain}
use Rattle.sn_core.specs.Nets.{Lane, new_net}
use Rattle.sn_emit.specs.Plans.{Placed, gate_before, pieces_from}
use Rattle.sn_emit.specs.declared.tables.Tables.{Tables}
use Rattle.sn_core_net.specs.States.{State}
use Rattle.sn_pipe.specs.Pipes.{PipeState}
use Rattle.sn_pipe.specs.AnyStage.{Stage}
use Rattle.sn_pipe.specs.declared.stage.Stage.TheVariants.{Filter, Map, Distinct, Reduce}
use Rattle.sn_plan_grammar.specs.declared.plan.Entry.{Entry}
use Rattle.sn_report.specs.Items.{Item}
use Rattle.sn_types.specs.Cuts.{size_at}
use Rattle.sn_types.specs.Typed.{branch_at, query_at}
use Rattle.sn_types.specs.declared.typed_op.TOp.{TOp}
use Rattle.sn_types.specs.declared.typed_op.TOp.TheVariants as ops
use Rattle.sn_types.specs.declared.typed_query.TypedQuery.{TypedQuery}
use Rattle.sn_types_faults.specs.Widths.{lawful, lawful_range}

-- Of the registers of a distinct the keys alone count, so any fold serves them. This is the one that they are given here.
abbrev pub any_or : Or
any_or = record { v = lawful 1; in_range = lawful_range 1 }

-- the stage of an operator, with empty registers: this many of them with this many slots each
abbrev pub new_stage : ℕ → ℕ → TOp → Stage
new_stage depth slots (ops.Filter conds) = Filter conds
new_stage depth slots (ops.Map exprs) = Map exprs
new_stage depth slots ops.Distinct = Distinct (empty_chain any_or depth slots) false
new_stage depth slots (ops.Reduce r) = Reduce r (empty_chain r.fold depth slots)

-- those of operators, of which the first has number i, with the size of its number for each
abbrev pub new_stages : ℕ → (ℕ → ℕ) → ℕ → List TOp → List Stage
new_stages depth size i [] = []
new_stages depth size i (op ∷ afterwards) = new_stage depth (size i) op ∷ new_stages depth size (suc i) afterwards

-- the pipe of a piece, with empty registers and an empty prefix set
abbrev pub new_pipe : List TypedQuery → Tables → Placed → PipeState
new_pipe queries tables x =
    let cut : List TOp = take x.piece.cut (branch_at queries x.query x.piece.branch).ops in
    record {
      query = query_at queries x.query;
      branch = x.piece.branch;
      coarser = gate_before tables.entries x.path x.piece.level;
      members = set.empty;
      prefix = record { level = x.piece.level; stages = new_stages tables.depth (size_at cut x.piece.slots) 0 cut; place = 0 };
    }

-- its lane, of which nothing has come
abbrev pub new_lane : List TypedQuery → Tables → Placed → Lane PipeState Item
new_lane queries tables x = record { pipe = new_pipe queries tables x; ended = false; ring = []; taken = []; closed = false }

-- A machine of a plan to which nothing was given: it has a lane for each piece in order, with room for this many frames.
abbrev pub new_state : ℕ → List TypedQuery → Tables → List Entry → State
new_state room queries tables entries = new_net room (map (new_lane queries tables) (pieces_from 0 entries))
