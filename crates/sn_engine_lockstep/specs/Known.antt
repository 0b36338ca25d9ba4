-- serves proofs
-- The sources of lanes, and the last one of answers.
use Rattle.std.specs.Prelude.{◌<◌, List, [], ◌∷◌, length, Option, Some}
use Rattle.std.specs.List.{AllByRecursion, AllByRecursion-prop}
use Rattle.std.proofs.Math.Bridge.{le_prop}
use Rattle.sn_types.specs.declared.answers.Answers.{Answers}
use Rattle.sn_types.specs.declared.typed_query.TypedQuery.{TypedQuery}
use Rattle.sn_engine_lockstep.specs.declared.source.Source.{Source}

-- each source is of a query that is there
abbrev pub AreKnown : List TypedQuery → List Source → Type 0
AreKnown queries sources = AllByRecursion (λ (source : Source). source.query < length queries) sources

pub are_known_prop : (queries : List TypedQuery) (sources : List Source) → IsProp (AreKnown queries sources)
are_known_prop queries sources = AllByRecursion-prop (λ (source : Source). source.query < length queries) (λ source. le_prop) sources

-- the last one of answers
abbrev pub last_from : Option Answers → List Answers → Option Answers
last_from before [] = before
last_from before (a ∷ later) = last_from (Some a) later
