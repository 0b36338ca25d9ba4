-- The lanes of a plan as they are made.
use Rattle.std.proofs.Common.{◌≡◌, ℕ, suc, List, [], ◌∷◌, map, take, false, refl, ap, ap₂, sym, ◌∙◌}
use Rattle.std.specs.FinSet as set
use Rattle.sn_chain.specs.Chain.{empty_chain}
use Rattle.sn_core.specs.Calls.{made}
use Rattle.sn_core.specs.Due.{fresh}
use Rattle.sn_core.specs.Nets.{Lane, new_net}
use Rattle.sn_emit.specs.Plans.{IsNewPipeOf, Placed, pieces_from}
use Rattle.sn_emit.specs.declared.tables.Tables.{Tables}
use Rattle.sn_engine.specs.declared.intake.Intake.{Intake}
use Rattle.sn_engine_lockstep.specs.declared.source.Source.{Source}
use Rattle.sn_engine_lockstep.specs.Sources.{source_of}
use Rattle.sn_engine_lockstep.specs.Work.{intake_of}
use Rattle.sn_core_net.specs.States.{State, Works}
use Rattle.sn_core_net.specs.PlanWorkings.{AreLanesFor, workings, workings_of}
use Rattle.sn_pipe.specs.Pipes.{PipeState, at_start}
use Rattle.sn_pipe.specs.Stages.{cleared, top_of}
use Rattle.sn_pipe.specs.Windows.{HasRegisters, HaveSizes}
use Rattle.sn_pipe.specs.AnyStage.{Stage}
use Rattle.sn_pipe.specs.declared.stage.Stage.TheVariants.{Filter, Map, Distinct, Reduce}
use Rattle.sn_plan_grammar.specs.declared.plan.Entry.{Entry}
use Rattle.sn_report.specs.Items.{Item}
use Rattle.sn_types.specs.Cuts.{size_at}
use Rattle.sn_types.specs.Typed.{branch_at}
use Rattle.sn_types.specs.declared.typed_op.TOp.{TOp}
use Rattle.sn_types.specs.declared.typed_query.TypedQuery.{TypedQuery}
use Rattle.sn_core_drive.specs.Lanes.{any_or, new_lane, new_pipe, new_stage, new_stages, new_state}
use Rattle.sn_core_drive.specs.Plain.{plain_lane, plain_pipe, plain_stage, plain_stages, plain_state}

-- an empty stage with registers is the one that its operator has
one_stage : (depth slots : ℕ) (s : Stage) → cleared s ≡ s → HasRegisters depth slots s → plain_stage s ≡ new_stage depth slots (top_of s)
one_stage depth slots (Filter conds) fresh_is has = refl
one_stage depth slots (Map exprs) fresh_is has = refl
one_stage depth slots (Distinct chain spilled) fresh_is has =
    ap plain_stage (sym fresh_is) ∙ ap₂ (λ (deep wide : ℕ). Distinct (empty_chain any_or deep wide) false) has.deep has.wide
one_stage depth slots (Reduce r chain) fresh_is has =
    sym fresh_is ∙ ap (λ f. Reduce r (empty_chain f chain.depth chain.slots)) has.0 ∙ ap₂ (λ (deep wide : ℕ). Reduce r (empty_chain r.fold deep wide)) has.1.deep has.1.wide

all_stages : (depth : ℕ) (size : ℕ → ℕ) (i : ℕ) (ss : List Stage) → map cleared ss ≡ ss → HaveSizes depth size i ss → plain_stages ss ≡ new_stages depth size i (map top_of ss)
all_stages depth size i [] fresh_are have = refl
all_stages depth size i (s ∷ ss) fresh_are have =
    let first : cleared s ≡ s = cc in
    let rest : map cleared ss ≡ ss = cc in
    ap₂ (λ (a : Stage) (later : List Stage). a ∷ later) (one_stage depth (size i) s first have.0) (all_stages depth size (suc i) ss rest have.1)

pub one_pipe : (queries : List TypedQuery) (tables : Tables) (x : Placed) (p : PipeState) → IsNewPipeOf queries tables x p → plain_pipe p ≡ new_pipe queries tables x
one_pipe queries tables x p h =
    let cut : List TOp = take x.piece.cut (branch_at queries x.query x.piece.branch).ops in
    let stages : plain_stages p.prefix.stages ≡ new_stages tables.depth (size_at cut x.piece.slots) 0 cut =
    all_stages tables.depth (size_at cut x.piece.slots) 0 p.prefix.stages h.stages.fresh h.stages.sized ∙ ap (new_stages tables.depth (size_at cut x.piece.slots) 0) h.stages.same in
    rw (h.same_query, h.same_branch, h.same_coarser, h.no_member, h.same_level, h.unread, stages) refl

module _ (queries : List TypedQuery) (tables : Tables) (asked : List TypedQuery) (intakes : List Intake) (sources : List Source) where
  abbrev w : Works
  w = workings_of asked intakes sources

  lanes_made : (xs : List Placed) (lanes : List (Lane PipeState Item)) → AreLanesFor queries tables xs lanes → map plain_lane (map (fresh w w.nothing) lanes) ≡ map (new_lane queries tables) xs
  lanes_made [] [] are = refl
  lanes_made [] (lane ∷ lanes) are = absurd are
  lanes_made (x ∷ xs) [] are = absurd are
  lanes_made (x ∷ xs) (lane ∷ lanes) are =
      ap₂ (λ (first : Lane PipeState Item) (rest : List (Lane PipeState Item)). first ∷ rest)
      (ap (λ (p : PipeState). record { pipe = p; ended = false; ring = []; taken = []; closed = false }) (one_pipe queries tables x (at_start lane.pipe set.empty) are.0)) (lanes_made xs lanes are.1)

-- A machine as it is made: it has lanes for the pieces, and nothing was given to it.
pub new_plain : (room : ℕ) (queries : List TypedQuery) (tables : Tables) (entries : List Entry) (w : Works) (s : State) → w ≡ workings queries entries → s ≡ made w room s.lanes → AreLanesFor queries tables (pieces_from 0 entries) s.lanes
    → plain_state s ≡ new_state room queries tables entries
new_plain room queries tables entries w s works is are =
    ap plain_state (is ∙ ap (λ (v : Works). made v room s.lanes) works)
    ∙ ap (λ (lanes : List (Lane PipeState Item)). new_net room lanes) (lanes_made queries tables queries (map intake_of (pieces_from 0 entries)) (map source_of (pieces_from 0 entries)) (pieces_from 0 entries) s.lanes are)
