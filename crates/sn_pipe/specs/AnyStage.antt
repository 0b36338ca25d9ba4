-- serves proofs
-- A stage as contracts see it, over rows of any kind.
use Rattle.sn_base.specs.declared.any_fold.AnyFold.{AnyFold}
use Rattle.sn_base.specs.declared.fold.Or.{Or}
use Rattle.sn_chain.specs.Chain.{ChainState}
use Rattle.sn_pipe.specs.declared.stage.Stage.{Stage as StageOf}

abbrev pub Stage : Type 0
Stage = StageOf (ChainState Or) (ChainState AnyFold)
