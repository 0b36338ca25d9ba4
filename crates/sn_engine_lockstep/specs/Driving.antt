-- serves proofs
-- The driver of a plan.
use Rattle.std.specs.Prelude.{◌≡◌, ℕ, List, length}
use Rattle.std.specs.List.{AllByRecursion}
use Rattle.sn_emit.specs.Making.{CanMake}
use Rattle.sn_emit.specs.Plans.{pieces_from}
use Rattle.sn_plan_fit.specs.Fits.{AreEntriesOf}
use Rattle.sn_plan_grammar.specs.declared.plan.Entry.{Entry}
use Rattle.sn_types.specs.declared.typed_query.TypedQuery.{TypedQuery}
use Rattle.sn_types.specs.Typed.{IsTyped}
use Rattle.sn_engine_lockstep.specs.declared.driver.Driver.{Driver}
use Rattle.sn_engine_lockstep.specs.Sources.{sources_of}

-- the plan is one of typed queries, and the driver is that of the plan
pub record IsDriverOf (qs : List TypedQuery) (es : List Entry) (d : Driver) : Type 0 where
  pub typed_for : ℕ
  pub typed : ∥ IsTyped typed_for qs ∥₁
  pub entries : AreEntriesOf qs es
  pub can : AllByRecursion (CanMake qs) (pieces_from 0 es)
  pub queries : d.engine.t.queries ≡ qs
  pub sources : d.sources ≡ sources_of 0 es
  pub many : length d.sources ≡ length d.emitter
