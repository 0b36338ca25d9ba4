-- serves proofs
-- How the stages of a pipe are made of operators.
use Rattle.std.specs.Prelude.{◌≡◌, ℕ, List, map}
use Rattle.sn_types.specs.declared.typed_op.TOp.{TOp}
use Rattle.sn_pipe.specs.AnyStage.{Stage}
use Rattle.sn_pipe.specs.Stages.{cleared, top_of}
use Rattle.sn_pipe.specs.Windows.{HasRegisters, HaveSizes}

-- a stage is that of an operator, with empty registers of this depth and size
pub record IsStageOf (op : TOp) (depth slots : ℕ) (s : Stage) : Type 0 where
  pub same : top_of s ≡ op
  pub fresh : cleared s ≡ s
  pub sized : HasRegisters depth slots s

-- stages are those of operators, with empty registers of this depth and these sizes
pub record AreStagesOf (ops : List TOp) (depth : ℕ) (size : ℕ → ℕ) (stages : List Stage) : Type 0 where
  pub same : map top_of stages ≡ ops
  pub fresh : map cleared stages ≡ stages
  pub sized : HaveSizes depth size 0 stages
