-- serves proofs
-- The tags of items among several switches.
use Rattle.std.specs.Prelude.{ℕ, suc, List, [], ◌∷◌, take, Option, None, Some}
use Rattle.sn_engine.specs.declared.intake.Intake.{Intake}
use Rattle.sn_pipe_items.specs.Retagged.{retagged}
use Rattle.sn_report.specs.Frames.{operator_of}
use Rattle.sn_report.specs.declared.frame.Item.{Item as ItemOf}
use Rattle.sn_report.specs.declared.frame.Tag.{Tag}
use Rattle.sn_report.specs.declared.frame.Tag.TheVariants.{At, Partial}
use Rattle.sn_types.specs.Typed.{branch_at}
use Rattle.sn_types.specs.declared.typed_op.TOp.{TOp}
use Rattle.sn_types.specs.declared.typed_op.TOp.TheVariants.{Filter, Map, Distinct, Reduce as Reduced}
use Rattle.sn_types.specs.declared.typed_query.TypedQuery.{TypedQuery}

-- the tag of what the first operator with registers keeps: At it where it is a distinct, Partial of it where it is a reduce; none, where no
-- operator has registers. The first operator has number i.
abbrev pub held_tag : ℕ → List TOp → Option Tag
held_tag i [] = None
held_tag i (Filter conds ∷ ops) = held_tag (suc i) ops
held_tag i (Map exprs ∷ ops) = held_tag (suc i) ops
held_tag i (Distinct ∷ ops) = Some (At i)
held_tag i (Reduced r ∷ ops) = Some (Partial i)

-- an item that stands after the operator of this tag has this tag, whatever kind of row it holds
abbrev pub turn : {R : Type 0} → Option Tag → ItemOf R → ItemOf R
turn None item = item
turn (Some tag) item = retagged (operator_of tag) tag item

-- the tag of what a lane keeps
abbrev pub lane_tag : List TypedQuery → Intake → Option Tag
lane_tag queries x = held_tag 0 (take x.cut (branch_at queries x.query x.branch).ops)
