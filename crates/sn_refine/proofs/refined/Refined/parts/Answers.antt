use Rattle.std.proofs.Common.{◌≡◌, ℕ, List, [], ◌∷◌, ◌++◌, map, length, slice_index, sym, ap, ◌∙◌, arith}
use Rattle.std.specs.List.{range_with_len}
use Rattle.std.proofs.lemmas.List.FromFn.{take-map-range_with_len}
use Rattle.sn_base.specs.Groups.{Row}
use Rattle.sn_types.specs.declared.answers.Part.{Part}
use Rattle.sn_types.specs.Typed.{query_at}
use Rattle.sn_refine.specs.Refined.{part_at}
use Rattle.sn_refine.specs.Steps.{kept_at, rows_at}
use Rattle.sn_refine.proofs.Places.{map_more}
use Rattle.sn_refine.proofs.refined.Refined.parts.Goals as goal

abbrev made : ℕ → ℕ → List Row → Part
made q level rows = record { query = q; level = level; rows = rows }

pub loop-place-preserved : goal.loop-place-preserved
loop-place-preserved c =
    let s = c.args.self.now in
    let place = c.loop-place.place in
    let f : ℕ → Part = part_at s.query s.path (rows_at (query_at c.args.t.now.queries s.query) s.path (kept_at s.last s.kept c.args.w) c.args.tuples.now) in
    c.in_ok-push.ensures.ok
    ∙ ap (λ (path : List ℕ). c.loop-place.parts ++ made s.query (slice_index path place) c.in_ok-rows.rows ∷ []) c.as_slice.ensures
    ∙ ap (λ (rows : List Row). c.loop-place.parts ++ made s.query (slice_index s.path place) rows ∷ []) c.in_ok-rows.ensures
    ∙ ap (λ (parts : List Part). parts ++ f place ∷ []) c.loop-place.invariant
    ∙ map_more f place

pub returns : goal.returns
returns c =
    let s = c.args.self.now in
    let f : ℕ → Part = part_at s.query s.path (rows_at (query_at c.args.t.now.queries s.query) s.path (kept_at s.last s.kept c.args.w) c.args.tuples.now) in
    let most = c.loop-place.auto.place-end in
    let least = c.loop-place-test.false in
    let all : c.loop-place.place ≡ c.args.count = omega (arith, most, least) in
    c.loop-place.invariant
    ∙ ap (λ (n : ℕ). map f (range_with_len 0 n)) all
    ∙ sym (take-map-range_with_len f 0 (length s.path) c.args.count c.requires.count)
