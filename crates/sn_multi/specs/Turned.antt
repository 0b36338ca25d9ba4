-- serves proofs
-- The items of several switches, by a pipe.
use Rattle.std.specs.Prelude.{ℕ, suc, List, [], ◌∷◌}
use Rattle.sn_base.specs.Operators.{Op}
use Rattle.sn_base.specs.Operators.Op.{Filter, Map, Distinct, Reduce}
use Rattle.sn_pipe_items.specs.Retagged.{retagged}
use Rattle.sn_report.specs.Items.{Item}
use Rattle.sn_report.specs.declared.frame.Tag.TheVariants.{At, Partial}

-- a prefix up to its first stateful operator
abbrev pub short : List Op → List Op
short [] = []
short (Filter t ∷ ops) = Filter t ∷ short ops
short (Map f ∷ ops) = Map f ∷ short ops
short (Distinct ∷ ops) = Distinct ∷ []
short (Reduce g ∷ ops) = Reduce g ∷ []

-- the items of a pipe that ends right after its first stateful operator, with the tags of many switches; the first operator has number i
abbrev pub turned : ℕ → List Op → Item → Item
turned i [] item = item
turned i (Filter t ∷ ops) item = turned (suc i) ops item
turned i (Map f ∷ ops) item = turned (suc i) ops item
turned i (Distinct ∷ ops) item = retagged i (At i) item
turned i (Reduce g ∷ ops) item = retagged i (Partial i) item
