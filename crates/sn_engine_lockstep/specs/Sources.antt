-- serves proofs
-- Where the prefixes come from that the lanes of a plan admit.
use Rattle.std.specs.Prelude.{ℕ, ◌+◌, List, [], ◌∷◌, ◌++◌, map, ◌==◌, Option, None, Some, if◌then◌else◌}
use Rattle.std.specs.FinSet as set
use Rattle.sn_emit.specs.Plans.{Placed}
use Rattle.sn_engine.specs.Keeping.{level_prefixes}
use Rattle.sn_plan_fit.specs.Paths.{level_before}
use Rattle.sn_plan_grammar.specs.declared.plan.Entry.{Entry}
use Rattle.sn_plan_grammar.specs.declared.plan.Piece.{Piece}
use Rattle.sn_refine.specs.Steps.{Set}
use Rattle.sn_types.specs.declared.answers.Answers.{Answers}
use Rattle.sn_types.specs.declared.answers.Part.{Part}
use Rattle.sn_types.specs.declared.typed_query.TypedQuery.{TypedQuery}
use Rattle.sn_engine_lockstep.specs.declared.source.Source.{Source}

abbrev pub source_at : ℕ → Option ℕ → Source
source_at q level = record { query = q; before = level }

-- the lane of a piece admits the prefixes of the level before its own on the path, if there is one
abbrev pub source_for : ℕ → List ℕ → Piece → Source
source_for q path piece = source_at q (level_before path piece.level)

abbrev pub source_of : Placed → Source
source_of x = source_for x.query x.path x.piece

-- one for each piece, entry by entry; the first entry is that of query q
abbrev pub sources_of : ℕ → List Entry → List Source
sources_of q [] = []
sources_of q (e ∷ es) = map (source_for q e.levels) e.pieces ++ sources_of (q + 1) es

-- the prefixes that these answers have at the level of a source
abbrev pub prefixes_in : List TypedQuery → List Part → Source → Set
prefixes_in queries parts source = level_prefixes queries parts source.query source.before

-- The prefixes that a lane admits: those of the answers of the window before this one, if that was the last one. Nothing
-- was answered in a window before that was left out.
abbrev pub kept_in : List TypedQuery → Option Answers → ℕ → Source → Set
kept_in queries None window source = set.empty
kept_in queries (Some answers) window source = if answers.window + 1 == window then prefixes_in queries answers.parts source else set.empty
