-- serves proofs
-- Items that operators can be evaluated at.
use Rattle.std.specs.Prelude.{ℕ, suc, List, [], ◌∷◌, ◌++◌}
use Rattle.sn_base.specs.Groups.{Row}
use Rattle.sn_pipe_items.specs.Value.{is_at, is_partial, rows_with, taken}
use Rattle.sn_ops.specs.Flow.{ArePartsOf, Fits}
use Rattle.sn_report.specs.Items.{Item}
use Rattle.sn_types.specs.declared.typed_op.TOp.{TOp}
use Rattle.sn_types.specs.declared.typed_op.TOp.TheVariants as ops
use Rattle.sn_types.specs.Values.{op_at}

-- Partial rows of an operator
abbrev pub PartsFit : TOp → List Row → Type 0
PartsFit (ops.Filter conds) parts = Unit {0}
PartsFit (ops.Map cols) parts = Unit {0}
PartsFit ops.Distinct parts = Unit {0}
PartsFit (ops.Reduce r) parts = ArePartsOf r parts

-- the operators from number i on can be evaluated at what comes to each
abbrev pub ItemsFit : ℕ → ℕ → List TOp → List Item → List Row → Type 0
ItemsFit level i [] found into = Unit {0}
ItemsFit level i (op ∷ ops) found into =
    Fits op into × PartsFit op (rows_with (is_partial i) found)
    × ItemsFit level (suc i) ops found (taken (op_at level op) into (rows_with (is_partial i) found) ++ rows_with (is_at (suc i)) found)
