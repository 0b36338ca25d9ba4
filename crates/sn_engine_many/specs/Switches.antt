-- serves proofs
-- Several switches at work on one plan.
use Rattle.std.specs.Prelude.{◌≡◌, ℕ, zero, suc, ◌<◌, List, [], ◌∷◌, ◌++◌, map, length}
use Rattle.std.specs.List.{AllByRecursion}
use Rattle.sn_emit.specs.Plans.{AreLanesOf, Placed, pieces_from}
use Rattle.sn_emit.specs.declared.tables.Tables.{Tables}
use Rattle.sn_engine_lockstep.specs.Sources.{source_of}
use Rattle.sn_engine_lockstep.specs.Work.{AreAtWork, AreIdle, AreUnread}
use Rattle.sn_engine_lockstep.specs.declared.driver.Driver.{Driver}
use Rattle.sn_engine_lockstep.specs.declared.source.Source.{Source}
use Rattle.sn_engine_many.specs.Shorts.{short_placed}
use Rattle.sn_plan_grammar.specs.declared.plan.Entry.{Entry}
use Rattle.sn_refine.specs.Steps.{Set}
use Rattle.sn_types.specs.declared.typed_query.TypedQuery.{TypedQuery}

-- ---- one switch

-- it can begin a window: it has a source for each lane, of a query that is there
pub record CanBegin (d : Driver) : Type 0 where
  pub many : length d.sources ≡ length d.emitter
  pub known : AllByRecursion (λ (source : Source). source.query < length d.engine.t.queries) d.sources

-- it can take a tuple
pub record CanTake (d : Driver) : Type 0 where
  pub begins : CanBegin d
  pub unread : AreUnread d.emitter

-- it runs these pieces, and is between two windows
pub record IsResting (queries : List TypedQuery) (tables : Tables) (pieces : List Placed) (d : Driver) : Type 0 where
  pub queries_are : d.engine.t.queries ≡ queries
  pub sources : d.sources ≡ map source_of pieces
  pub idle : AreIdle queries tables pieces d.emitter d.engine.lanes.items

-- it runs these pieces, and had these tuples in the window
pub record IsWorking (queries : List TypedQuery) (tables : Tables) (pieces : List Placed) (kept : Source → Set) (tuples : List (List ℕ))
    (d : Driver) : Type 0 where
  pub queries_are : d.engine.t.queries ≡ queries
  pub sources : d.sources ≡ map source_of pieces
  pub lanes : AreLanesOf queries tables pieces d.emitter
  pub work : AreAtWork queries tables pieces kept tuples d.emitter d.engine.lanes.items

-- ---- all switches

-- each had its own tuples in the window
abbrev pub AreWorking : List TypedQuery → Tables → List Placed → (Source → Set) → List (List (List ℕ)) → List Driver → Type 0
AreWorking queries tables pieces kept [] [] = Unit {0}
AreWorking queries tables pieces kept [] (d ∷ ds) = ⊥
AreWorking queries tables pieces kept (tuples ∷ captures) [] = ⊥
AreWorking queries tables pieces kept (tuples ∷ captures) (d ∷ ds) =
    IsWorking queries tables pieces kept tuples d × AreWorking queries tables pieces kept captures ds

-- no tuple came to any switch
abbrev pub no_tuples : List Driver → List (List (List ℕ))
no_tuples switches = map (λ d. []) switches

-- a tuple more came to the switch of this number
abbrev pub given_to : ℕ → List ℕ → List (List (List ℕ)) → List (List (List ℕ))
given_to i tuple [] = []
given_to zero tuple (tuples ∷ captures) = (tuples ++ tuple ∷ []) ∷ captures
given_to (suc i) tuple (tuples ∷ captures) = tuples ∷ given_to i tuple captures

-- what a switch of several runs of a plan
abbrev pub shorts_of : List TypedQuery → List Entry → List Placed
shorts_of queries entries = map (short_placed queries) (pieces_from 0 entries)
