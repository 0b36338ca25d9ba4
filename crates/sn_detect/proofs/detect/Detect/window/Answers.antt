use Rattle.std.proofs.Common.{◌≡◌, ℕ, suc, ◌-◌, List, [], ◌∷◌, ◌++◌, map, filter, length, true, slice_index, Option, Some, IsSome, ap, sym, ◌∙◌, subst, arith}
use Rattle.std.specs.List.{range_with_len}
use Rattle.sn_base.specs.Groups.{Row}
use Rattle.sn_refine_laws.specs.Monotone.{is_monotone}
use Rattle.sn_refine_laws.specs.Reported.{EndsFinest}
use Rattle.sn_refine.specs.Refined.{column_of, level_rows, part_at}
use Rattle.sn_refine.specs.Steps.{Set, kept_at, kept_of, parts_in, rows_at}
use Rattle.sn_types.specs.Typed.{finest_level, query_at}
use Rattle.sn_types.specs.declared.typed_query.TypedQuery.{TypedQuery}
use Rattle.sn_detect.specs.declared.look.Look.{Look}
use Rattle.sn_detect.specs.Keeping.{AreUpTo, InTime, OnTheWay, Rise, is_admitted}
use Rattle.sn_detect.proofs.NoFalse.{no_false}
use Rattle.sn_detect.proofs.Stepping.{last_part, rise_more, time_kept, upto_kept, way_kept}
use Rattle.sn_detect.proofs.detect.Detect.window.Goals as goal

pub invariant_of-self-in-Break-branch-5 : goal.invariant_of-self-in-Break-branch-5
invariant_of-self-in-Break-branch-5 c =
    let s = c.args.self.now in
    let its : TypedQuery = query_at s.t.queries s.refined.query in
    let looks : c.push.new.self ≡ s.looks = c.in_err-push.ensures.err in
    record {
      path = s.path;
      some = s.some;
      is_refined = s.is_refined;
      ends = s.ends;
      upto = subst (AreUpTo s.refined.last) (sym looks) s.upto;
      rise = subst Rise (sym looks) s.rise;
      way = subst (λ (ls : List Look). is_monotone its ≡ true → OnTheWay its.field s.refined.path s.refined.last s.refined.kept ls) (sym looks) s.way;
      time = subst (λ (ls : List Look). is_monotone its ≡ true → InTime s.refined.path ls) (sym looks) s.time;
    }

pub invariant_of-self-2-clause-is_refined : goal.invariant_of-self-2-clause-is_refined
invariant_of-self-2-clause-is_refined c =
    let s = c.args.self.now in
    subst (λ (n : ℕ). IsSome (query_at s.t.queries n).field) (sym c.keep.ensures.query) s.is_refined

pub invariant_of-self-2-clause-ends : goal.invariant_of-self-2-clause-ends
invariant_of-self-2-clause-ends c =
    let s = c.args.self.now in
    subst (λ (n : ℕ). EndsFinest (query_at s.t.queries n) c.keep.new.self.path) (sym c.keep.ensures.query)
    (subst (λ (p : List ℕ). EndsFinest (query_at s.t.queries s.refined.query) p) (sym c.keep.ensures.path) s.ends)

pub invariant_of-self-2-clause-way : goal.invariant_of-self-2-clause-way
invariant_of-self-2-clause-way c =
    let s = c.args.self.now in
    let q = s.refined.query in
    let path = s.refined.path in
    let its : TypedQuery = query_at s.t.queries q in
    let w = c.args.w in
    let tuples = c.args.tuples.now in
    let reported : List ℕ = c.in_ok-addresses-2.field-0 in
    let unrefined : c.in_ok-addresses.field-0 ≡ column_of its (level_rows its (finest_level its) (Some tuples)) =
    c.in_ok-addresses.ensures ∙ ap (column_of its) c.in_ok-unrefined.ensures in
    let looks : c.push.new.self ≡ s.looks ++ record { window = w; unrefined = column_of its (level_rows its (finest_level its) (Some tuples)); refined = reported } ∷ [] =
    c.in_ok-push.ensures.ok ∙ ap (λ (u : List ℕ). s.looks ++ record { window = w; unrefined = u; refined = reported } ∷ []) unrefined in
    let kept : c.keep.new.self.kept ≡ kept_of its path (parts_in q its path (kept_at s.refined.last s.refined.kept w) tuples) =
    c.keep.ensures.kept ∙ c.in_ok-parts.ensures.kept ∙ ap (kept_of its path) c.in_ok-parts.ensures.parts in
    let base = way_kept s.t.window_us q s.t.queries s.t.typed s.path.query s.is_refined path s.ends s.looks s.refined.last s.refined.kept w tuples c.requires.widths s.upto c.requires.above s.way s.time reported in
    subst (λ (n : ℕ). is_monotone (query_at s.t.queries n) ≡ true → OnTheWay (query_at s.t.queries n).field c.keep.new.self.path c.keep.new.self.last c.keep.new.self.kept c.push.new.self) (sym c.keep.ensures.query)
    (subst (λ (p : List ℕ). is_monotone its ≡ true → OnTheWay its.field p c.keep.new.self.last c.keep.new.self.kept c.push.new.self) (sym c.keep.ensures.path)
    (subst (λ (l : Option ℕ). is_monotone its ≡ true → OnTheWay its.field path l c.keep.new.self.kept c.push.new.self) (sym c.keep.ensures.last)
    (subst (λ (k : List Set). is_monotone its ≡ true → OnTheWay its.field path (Some w) k c.push.new.self) (sym kept)
    (subst (λ (ls : List Look). is_monotone its ≡ true → OnTheWay its.field path (Some w) (kept_of its path (parts_in q its path (kept_at s.refined.last s.refined.kept w) tuples)) ls) (sym looks) base))))

pub invariant_of-self-2-clause-upto : goal.invariant_of-self-2-clause-upto
invariant_of-self-2-clause-upto c =
    let s = c.args.self.now in
    let its : TypedQuery = query_at s.t.queries s.refined.query in
    let w = c.args.w in
    let tuples = c.args.tuples.now in
    let reported : List ℕ = c.in_ok-addresses-2.field-0 in
    let unrefined : c.in_ok-addresses.field-0 ≡ column_of its (level_rows its (finest_level its) (Some tuples)) =
    c.in_ok-addresses.ensures ∙ ap (column_of its) c.in_ok-unrefined.ensures in
    let looks : c.push.new.self ≡ s.looks ++ record { window = w; unrefined = column_of its (level_rows its (finest_level its) (Some tuples)); refined = reported } ∷ [] =
    c.in_ok-push.ensures.ok ∙ ap (λ (u : List ℕ). s.looks ++ record { window = w; unrefined = u; refined = reported } ∷ []) unrefined in
    subst (λ (l : Option ℕ). AreUpTo l c.push.new.self) (sym c.keep.ensures.last)
    (subst (AreUpTo (Some w)) (sym looks)
    (upto_kept s.t.window_us s.refined.query s.t.queries s.t.typed s.path.query s.is_refined s.refined.path s.ends s.looks s.refined.last s.refined.kept w tuples c.requires.widths s.upto c.requires.above s.way s.time reported))

pub invariant_of-self-2-clause-rise : goal.invariant_of-self-2-clause-rise
invariant_of-self-2-clause-rise c =
    let s = c.args.self.now in
    subst Rise (sym c.in_ok-push.ensures.ok) (rise_more s.looks (record { window = c.args.w; unrefined = c.in_ok-addresses.field-0; refined = c.in_ok-addresses-2.field-0 }) s.refined.last s.upto c.requires.above s.rise)

pub invariant_of-self-2-clause-time : goal.invariant_of-self-2-clause-time
invariant_of-self-2-clause-time c =
    let s = c.args.self.now in
    let q = s.refined.query in
    let path = s.refined.path in
    let its : TypedQuery = query_at s.t.queries q in
    let w = c.args.w in
    let tuples = c.args.tuples.now in
    let reported : List ℕ = c.in_ok-addresses-2.field-0 in
    let rows : ℕ → List Row = rows_at its path (kept_at s.refined.last s.refined.kept w) tuples in
    let parts : map (part_at q path rows) (range_with_len 0 (length path)) ≡ c.pop.new.self ++ c.in-Some.part ∷ [] = sym c.in_ok-parts.ensures.parts ∙ c.in-Some.ensures.some in
    let same : (last : ℕ) → length path ≡ suc last → reported ≡ column_of its (rows last) =
    λ last long. c.in_ok-addresses-2.ensures ∙ ap (column_of its) (last_part q path rows last c.pop.new.self c.in-Some.part long parts) in
    let unrefined : c.in_ok-addresses.field-0 ≡ column_of its (level_rows its (finest_level its) (Some tuples)) =
    c.in_ok-addresses.ensures ∙ ap (column_of its) c.in_ok-unrefined.ensures in
    let looks : c.push.new.self ≡ s.looks ++ record { window = w; unrefined = column_of its (level_rows its (finest_level its) (Some tuples)); refined = reported } ∷ [] =
    c.in_ok-push.ensures.ok ∙ ap (λ (u : List ℕ). s.looks ++ record { window = w; unrefined = u; refined = reported } ∷ []) unrefined in
    let base = time_kept s.t.window_us q s.t.queries s.t.typed s.path.query s.is_refined path s.ends s.looks s.refined.last s.refined.kept w tuples c.requires.widths s.upto c.requires.above s.way s.time reported same in
    subst (λ (n : ℕ). is_monotone (query_at s.t.queries n) ≡ true → InTime c.keep.new.self.path c.push.new.self) (sym c.keep.ensures.query)
    (subst (λ (p : List ℕ). is_monotone its ≡ true → InTime p c.push.new.self) (sym c.keep.ensures.path)
    (subst (λ (ls : List Look). is_monotone its ≡ true → InTime path ls) (sym looks) base))

pub returns-clause-refined : goal.returns-clause-refined
returns-clause-refined c =
    let s = c.args.self.now in
    let q = s.refined.query in
    let path = s.refined.path in
    let its : TypedQuery = query_at s.t.queries q in
    let rows : ℕ → List Row = rows_at its path (kept_at s.refined.last s.refined.kept c.args.w) c.args.tuples.now in
    let parts : map (part_at q path rows) (range_with_len 0 (length path)) ≡ c.pop.new.self ++ c.in-Some.part ∷ [] = sym c.in_ok-parts.ensures.parts ∙ c.in-Some.ensures.some in
    λ last long. last_part q path rows last c.pop.new.self c.in-Some.part long parts

pub returns-clause-no_false_row : goal.returns-clause-no_false_row
returns-clause-no_false_row c =
    let s = c.args.self.now in
    let q = s.refined.query in
    let path = s.refined.path in
    let its : TypedQuery = query_at s.t.queries q in
    let kept : ℕ → Set = kept_at s.refined.last s.refined.kept c.args.w in
    let tuples = c.args.tuples.now in
    let rows : ℕ → List Row = rows_at its path kept tuples in
    let parts : map (part_at q path rows) (range_with_len 0 (length path)) ≡ c.pop.new.self ++ c.in-Some.part ∷ [] = sym c.in_ok-parts.ensures.parts ∙ c.in-Some.ensures.some in
    λ last field long is_field.
    last_part q path rows (suc last) c.pop.new.self c.in-Some.part long parts
    ∙ no_false s.t.window_us q s.t.queries s.t.typed s.path.query path s.ends kept tuples last field long is_field
    ∙ ap (filter (is_admitted its field (slice_index path last) (kept last))) (sym c.in_ok-unrefined.ensures)

pub returns-clause-looked : goal.returns-clause-looked
returns-clause-looked c =
    let s = c.args.self.now in
    let q = s.refined.query in
    let path = s.refined.path in
    let its : TypedQuery = query_at s.t.queries q in
    let w = c.args.w in
    let tuples = c.args.tuples.now in
    let reported : List ℕ = c.in_ok-addresses-2.field-0 in
    let whole : List ℕ = column_of its (level_rows its (finest_level its) (Some tuples)) in
    let rows : ℕ → List Row = rows_at its path (kept_at s.refined.last s.refined.kept w) tuples in
    let parts : map (part_at q path rows) (range_with_len 0 (length path)) ≡ c.pop.new.self ++ c.in-Some.part ∷ [] = sym c.in_ok-parts.ensures.parts ∙ c.in-Some.ensures.some in
    let some = s.some in
    let long : length path ≡ suc (length path - 1) = omega (arith, some) in
    let same : reported ≡ column_of its (rows (length path - 1)) = c.in_ok-addresses-2.ensures ∙ ap (column_of its) (last_part q path rows (length path - 1) c.pop.new.self c.in-Some.part long parts) in
    let unrefined : c.in_ok-addresses.field-0 ≡ whole = c.in_ok-addresses.ensures ∙ ap (column_of its) c.in_ok-unrefined.ensures in
    c.in_ok-push.ensures.ok
    ∙ ap (λ (u : List ℕ). s.looks ++ record { window = w; unrefined = u; refined = reported } ∷ []) unrefined
    ∙ ap (λ (r : List ℕ). s.looks ++ record { window = w; unrefined = whole; refined = r } ∷ []) same
