use Rattle.std.proofs.Common.{◌≡◌, ℕ, ◌≤◌, List, map, take, length, ap, sym, ◌∙◌, arith, length-take-le}
use Rattle.std.specs.List.{range_with_len}
use Rattle.std.proofs.lemmas.List.{take_all}
use Rattle.std.proofs.lemmas.List.FromFn.{length-map-range_with_len}
use Rattle.sn_types.specs.declared.answers.Part.{Part}
use Rattle.sn_types.specs.Typed.{query_at}
use Rattle.sn_refine.specs.Refined.{part_at}
use Rattle.sn_refine.specs.Steps.{kept_at, rows_at}
use Rattle.sn_refine.proofs.refined.Refined.answers.Goals as goal

-- the first parts, so many as there are, are all
all_parts : (path : List ℕ) (levels : ℕ) (f : ℕ → Part) (parts : List Part) → levels ≡ length path → parts ≡ take levels (map f (range_with_len 0 (length path))) → parts ≡ map f (range_with_len 0 (length path))
all_parts path levels f parts many e =
    let count = length-map-range_with_len f 0 (length path) in
    e ∙ take_all levels (map f (range_with_len 0 (length path))) (omega (arith, many, count))

pub slice_bounds-prefixes_of-end : goal.slice_bounds-prefixes_of-end
slice_bounds-prefixes_of-end c =
    let s = c.args.self.now in
    let f = part_at s.query s.path (rows_at (query_at c.args.t.now.queries s.query) s.path (kept_at s.last s.kept c.args.w) c.args.tuples.now) in
    let path = ap length c.as_slice-levels.ensures in
    let all = all_parts s.path (length c.as_slice-levels.result.now) f c.in_ok-parts.parts path c.in_ok-parts.ensures in
    let count = ap (λ (ps : List Part). length ps) (c.as_slice.ensures ∙ all) ∙ length-map-range_with_len f 0 (length s.path) in
    let less = c.saturating_sub-coarser.ensures in
    let within : c.saturating_sub-coarser.result ≤ length c.as_slice.result.now = omega (arith, count, path, less) in
    sym (length-take-le c.saturating_sub-coarser.result c.as_slice.result.now within)

pub returns-clause-parts : goal.returns-clause-parts
returns-clause-parts c =
    let s = c.args.self.now in
    let f = part_at s.query s.path (rows_at (query_at c.args.t.now.queries s.query) s.path (kept_at s.last s.kept c.args.w) c.args.tuples.now) in
    all_parts s.path (length c.as_slice-levels.result.now) f c.in_ok-parts.parts (ap length c.as_slice-levels.ensures) c.in_ok-parts.ensures
