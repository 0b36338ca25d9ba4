-- A plan of typed queries has a lane.
use Rattle.std.proofs.Common.{◌≡◌, ℕ, ◌+◌, ◌<◌, ◌≤◌, List, [], ◌∷◌, map, length, Some, ap, sym, ◌∙◌, arith}
use Rattle.std.proofs.Math.Bridge.{le_prop}
use Rattle.std.proofs.Math.Logic.{∥∥₁_elim}
use Rattle.std.proofs.lemmas.List.{length-append, length-map}
use Rattle.sn_engine.specs.Intakes.{intake_for, intakes_of}
use Rattle.sn_plan_fit.specs.Fits.{AreEntriesOf, IsEntryOf}
use Rattle.sn_plan_fit.specs.Paths.{last_of, piece_place, places}
use Rattle.sn_plan_grammar.specs.declared.plan.Entry.{Entry}
use Rattle.sn_query_grammar.specs.declared.ast.Branch.{Branch}
use Rattle.sn_types.specs.declared.typed_query.TypedBranch.{TypedBranch}
use Rattle.sn_types.specs.declared.typed_query.TypedQuery.{TypedQuery}
use Rattle.sn_types.specs.Typed.{IsTyped, query_at}
use Rattle.sn_types.specs.Typing.{typed_branch, typed_query}
use Rattle.sn_types.proofs.Sources.{source_of}
use Rattle.sn_ops.proofs.PacketSteps.{joined_some}

some_places : (branches : List TypedBranch) (path : List ℕ) (level : ℕ) → 1 ≤ length branches → last_of path ≡ Some level → 1 ≤ length (places branches path)
some_places branches [] level some finest = absurd cc
some_places [] (l ∷ ls) level some finest = absurd (omega (arith, some))
some_places (b ∷ bs) (l ∷ ls) level some finest = omega arith

some_pieces : (query : TypedQuery) (e : Entry) → 1 ≤ length query.branches → IsEntryOf query e → 1 ≤ length e.pieces
some_pieces query e some is =
    let places_some : 1 ≤ length (places query.branches e.levels) = some_places query.branches e.levels is.path.finest.0 some is.path.finest.1 in
    let as_many : length e.pieces ≡ length (places query.branches e.levels) = sym (length-map e.pieces piece_place) ∙ ap length is.pieces in
    omega (arith, places_some, as_many)

lanes_in : (queries : List TypedQuery) (entries : List Entry) → 1 ≤ length queries → 1 ≤ length (query_at queries 0).branches → AreEntriesOf queries entries → 0 < length (intakes_of 0 entries)
lanes_in [] entries some branches are = absurd (omega (arith, some))
lanes_in (query ∷ queries) [] some branches are = absurd are
lanes_in (query ∷ queries) (e ∷ es) some branches are =
    let pieces : 1 ≤ length e.pieces = some_pieces query e branches are.0 in
    let mine : length (map (intake_for 0 e.levels) e.pieces) ≡ length e.pieces = length-map e.pieces (intake_for 0 e.levels) in
    let all : length (intakes_of 0 (e ∷ es)) ≡ length (map (intake_for 0 e.levels) e.pieces) + length (intakes_of (0 + 1) es) = length-append (map (intake_for 0 e.levels) e.pieces) (intakes_of (0 + 1) es) in
    omega (arith, pieces, mine, all)

pub some_lanes : (typed_for : ℕ) (queries : List TypedQuery) (entries : List Entry) → ∥ IsTyped typed_for queries ∥₁ → AreEntriesOf queries entries → 0 < length (intakes_of 0 entries)
some_lanes typed_for queries entries t are =
    ∥∥₁_elim t le_prop (λ t.
    let many : length queries ≡ length t.0.queries = ap length t.1.same_queries ∙ length-map t.0.queries typed_query in
    let least = t.1.limits.count.from_least in
    let some : 1 ≤ length queries = omega (arith, many, least) in
    let s = source_of typed_for queries 0 t some in
    let branches : length (query_at queries 0).branches ≡ length s.query.branches = ap (λ (x : TypedQuery). length x.branches) s.is ∙ length-map s.query.branches (λ (x : Branch). typed_branch x.ops) in
    let joined = joined_some s.query.branches s.query.join s.limits.joined in
    lanes_in queries entries some (omega (arith, branches, joined)) are)
