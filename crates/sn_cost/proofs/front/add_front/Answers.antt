use Rattle.std.proofs.Common.{◌≡◌, ℕ, ◌-◌, ◌<◌, ◌^◌, List, length, nat_eq, true, slice_index, Option, IsSome, ap, sym, subst, ◌∙◌, arith}
use Rattle.std.proofs.Math.Nat.{mul-le-mul_left}
use Rattle.std.proofs.lemmas.Nat.{one_shl}
use Rattle.std.specs.FinSet as set
use Rattle.std.specs.FinSet.{len-empty}
use Rattle.std.specs.List.{list_any}
use Rattle.std.specs.Ordering.{nat_cmp}
use Rattle.sn_base.specs.Sorted.{sorted_rows}
use Rattle.sn_cost_counts.proofs.Going.{if_ok}
use Rattle.sn_ops.specs.Plain.{query_rows}
use Rattle.sn_ops.specs.declared.packets.Kept.{Kept}
use Rattle.sn_refine.specs.Steps.{Set, prefixes_of}
use Rattle.sn_types.specs.declared.typed_query.TypedQuery.{TypedQuery}
use Rattle.sn_types.specs.Typed.{query_at}
use Rattle.sn_cost.specs.Adding.{Adds, AreSmall, kept_counts, of_branches, with_fee}
use Rattle.sn_cost.specs.Training.{AddsFront, admitted, fee_of}
use Rattle.sn_cost.proofs.Bits.{top_within}
use Rattle.sn_cost.proofs.Fees.{kept_by, kept_level, size_kept}
use Rattle.sn_cost.proofs.Few.{answered_few}
use Rattle.sn_cost.proofs.Growing.{on_both}
use Rattle.sn_cost.proofs.LastLevel.{front_adds, front_answers, nothing_adds, nothing_answers}
use Rattle.sn_cost.proofs.Paths.{few_fronts, four_levels, level_known, several_refined}
use Rattle.sn_cost.proofs.front.add_front.Goals as goal

pub bounds-levels-top : goal.bounds-levels-top
bounds-levels-top c =
    let lt = top_within c.ilog2-top.result c.args.front (length (query_at c.args.t.now.queries c.args.q).levels) c.ilog2-top.ensures.power_le c.requires.front in
    omega (arith, lt, ap length c.levels-levels.ensures)

pub returns-then-sees_nothing-clause-adds : goal.returns-then-sees_nothing-clause-adds
returns-then-sees_nothing-clause-adds c =
    let a = c.args in
    let f = a.fronts.now in
    let top : ℕ = c.ilog2-top.result in
    let query : TypedQuery = query_at a.t.now.queries a.q in
    let o : Option Kept = c.kept_after-kept.result in
    let kept = kept_by query.levels c.levels-levels.result.now f.last f.sets a.w a.front top _ o c.levels-levels.ensures (one_shl top 32 c.ilog2-top.ensures.bound) c.kept_after-kept.ensures in
    nothing_adds a.s.now a.q query a.front top c.ilog2-top.ensures.power_le c.ilog2-top.ensures.next_power_gt c.requires.front f.last f.sets a.w a.tuples.now o c.requires.above kept a.table.now (sym c.sees_nothing.ensures ∙ c.if-sees_nothing.true)

pub returns-then-sees_nothing-clause-few : goal.returns-then-sees_nothing-clause-few
returns-then-sees_nothing-clause-few c = let e = len-empty nat_cmp in omega (arith, e, ap (λ (x : Set). set.len x) c.new.ensures)

pub returns-then-sees_nothing-clause-answers : goal.returns-then-sees_nothing-clause-answers
returns-then-sees_nothing-clause-answers c = λ windows next coarse.
    let a = c.args in
    let f = a.fronts.now in
    let top : ℕ = c.ilog2-top.result in
    let query : TypedQuery = query_at a.t.now.queries a.q in
    let o : Option Kept = c.kept_after-kept.result in
    let kept = kept_by query.levels c.levels-levels.result.now f.last f.sets a.w a.front top _ o c.levels-levels.ensures (one_shl top 32 c.ilog2-top.ensures.bound) c.kept_after-kept.ensures in
    c.new.ensures
    ∙ nothing_answers a.s.now a.q query a.front top c.ilog2-top.ensures.power_le c.ilog2-top.ensures.next_power_gt c.requires.front f.last f.sets a.w a.tuples.now o c.requires.above kept (sym c.sees_nothing.ensures ∙ c.if-sees_nothing.true) windows next

pub count_front-requires-clause-level : goal.count_front-requires-clause-level
count_front-requires-clause-level c =
    let levels : List ℕ = (query_at c.args.t.now.queries c.args.q).levels in
    let top : ℕ = c.ilog2-top.result in
    subst (λ xs. list_any (nat_eq (slice_index xs top)) levels ≡ true) (sym c.levels-levels.ensures)
    (level_known levels top (top_within top c.args.front (length levels) c.ilog2-top.ensures.power_le c.requires.front))

pub count_front-requires-clause-kept : goal.count_front-requires-clause-kept
count_front-requires-clause-kept c =
    let a = c.args in
    let t = a.t.now in
    let f = a.fronts.now in
    let top : ℕ = c.ilog2-top.result in
    let levels : List ℕ = (query_at t.queries a.q).levels in
    let o : Option Kept = c.kept_after-kept.result in
    let kept = kept_by levels c.levels-levels.result.now f.last f.sets a.w a.front top _ o c.levels-levels.ensures (one_shl top 32 c.ilog2-top.ensures.bound) c.kept_after-kept.ensures in
    let small : a.front - 2 ^ top < 2 ^ top = omega (arith, c.ilog2-top.ensures.power_le, c.ilog2-top.ensures.next_power_gt) in
    kept_level t.window_us t.queries a.q f.last f.sets a.w (a.front - 2 ^ top) top o t.typed c.requires.query small (top_within top a.front (length levels) c.ilog2-top.ensures.power_le c.requires.front) (omega (arith, c.requires.front)) kept

pub count_front-requires-clause-front : goal.count_front-requires-clause-front
count_front-requires-clause-front c =
    let t = c.args.t.now in
    let fronts = few_fronts (query_at t.queries c.args.q).levels (four_levels t.window_us t.queries c.args.q t.typed c.requires.query) in
    omega (arith, fronts, c.requires.front)

pub count_front-requires-clause-room : goal.count_front-requires-clause-room
count_front-requires-clause-room c = λ b of_branch option below.
    let a = c.args in
    let f = a.fronts.now in
    let top : ℕ = c.ilog2-top.result in
    let levels : List ℕ = (query_at a.t.now.queries a.q).levels in
    let o : Option Kept = c.kept_after-kept.result in
    let kept = kept_by levels c.levels-levels.result.now f.last f.sets a.w a.front top _ o c.levels-levels.ensures (one_shl top 32 c.ilog2-top.ensures.bound) c.kept_after-kept.ensures in
    let most = mul-le-mul_left a.s.now.weight (size_kept levels f.last f.sets a.w (a.front - 2 ^ top) o kept) in
    let room = c.requires.room (a.front - 2 ^ top) b of_branch option below in
    omega (arith, most, room)

pub returns-then-top-levels-clause-adds : goal.returns-then-top-levels-clause-adds
returns-then-top-levels-clause-adds c =
    let a = c.args in
    let f = a.fronts.now in
    let top : ℕ = c.ilog2-top.result in
    let query : TypedQuery = query_at a.t.now.queries a.q in
    let o : Option Kept = c.kept_after-kept.result in
    let kept = kept_by query.levels c.levels-levels.result.now f.last f.sets a.w a.front top _ o c.levels-levels.ensures (one_shl top 32 c.ilog2-top.ensures.bound) c.kept_after-kept.ensures in
    front_adds a.s.now a.q query a.front top c.ilog2-top.ensures.power_le c.ilog2-top.ensures.next_power_gt c.requires.front f.last f.sets a.w a.tuples.now o c.requires.above kept a.table.now c.count_front.new.table
    (slice_index c.levels-levels.result.now top) (ap (λ xs. slice_index xs top) c.levels-levels.ensures) c.in_ok-count_front.ensures.adds c.in_ok-count_front.ensures.small

pub returns-then-top-levels-clause-few : goal.returns-then-top-levels-clause-few
returns-then-top-levels-clause-few c = let e = len-empty nat_cmp in omega (arith, e, ap (λ (x : Set). set.len x) c.new-then-top-levels.ensures)

pub count_and_answer-requires-clause-level : goal.count_and_answer-requires-clause-level
count_and_answer-requires-clause-level c =
    let levels : List ℕ = (query_at c.args.t.now.queries c.args.q).levels in
    let top : ℕ = c.ilog2-top.result in
    subst (λ xs. list_any (nat_eq (slice_index xs top)) levels ≡ true) (sym c.levels-levels.ensures)
    (level_known levels top (top_within top c.args.front (length levels) c.ilog2-top.ensures.power_le c.requires.front))

pub count_and_answer-requires-clause-kept : goal.count_and_answer-requires-clause-kept
count_and_answer-requires-clause-kept c =
    let a = c.args in
    let t = a.t.now in
    let f = a.fronts.now in
    let top : ℕ = c.ilog2-top.result in
    let levels : List ℕ = (query_at t.queries a.q).levels in
    let o : Option Kept = c.kept_after-kept.result in
    let kept = kept_by levels c.levels-levels.result.now f.last f.sets a.w a.front top _ o c.levels-levels.ensures (one_shl top 32 c.ilog2-top.ensures.bound) c.kept_after-kept.ensures in
    let small : a.front - 2 ^ top < 2 ^ top = omega (arith, c.ilog2-top.ensures.power_le, c.ilog2-top.ensures.next_power_gt) in
    kept_level t.window_us t.queries a.q f.last f.sets a.w (a.front - 2 ^ top) top o t.typed c.requires.query small (top_within top a.front (length levels) c.ilog2-top.ensures.power_le c.requires.front) (omega (arith, c.requires.front)) kept

pub count_and_answer-requires-clause-front : goal.count_and_answer-requires-clause-front
count_and_answer-requires-clause-front c =
    let t = c.args.t.now in
    let fronts = few_fronts (query_at t.queries c.args.q).levels (four_levels t.window_us t.queries c.args.q t.typed c.requires.query) in
    omega (arith, fronts, c.requires.front)

pub count_and_answer-requires-clause-room : goal.count_and_answer-requires-clause-room
count_and_answer-requires-clause-room c = λ b of_branch option below.
    let a = c.args in
    let f = a.fronts.now in
    let top : ℕ = c.ilog2-top.result in
    let levels : List ℕ = (query_at a.t.now.queries a.q).levels in
    let o : Option Kept = c.kept_after-kept.result in
    let kept = kept_by levels c.levels-levels.result.now f.last f.sets a.w a.front top _ o c.levels-levels.ensures (one_shl top 32 c.ilog2-top.ensures.bound) c.kept_after-kept.ensures in
    let most = mul-le-mul_left a.s.now.weight (size_kept levels f.last f.sets a.w (a.front - 2 ^ top) o kept) in
    let room = c.requires.room (a.front - 2 ^ top) b of_branch option below in
    omega (arith, most, room)

pub returns-clause-adds : goal.returns-clause-adds
returns-clause-adds c =
    let a = c.args in
    let f = a.fronts.now in
    let top : ℕ = c.ilog2-top.result in
    let query : TypedQuery = query_at a.t.now.queries a.q in
    let level : ℕ = slice_index c.levels-levels.result.now top in
    let o : Option Kept = c.kept_after-kept.result in
    let x : Option Kept = admitted a.s.now.entries o in
    let table = c.count_and_answer.new.table in
    let counts : ℕ → List ℕ = kept_counts a.s.now query level x a.tuples.now in
    let kept = kept_by query.levels c.levels-levels.result.now f.last f.sets a.w a.front top _ o c.levels-levels.ensures (one_shl top 32 c.ilog2-top.ensures.bound) c.kept_after-kept.ensures in
    on_both c.count_and_answer.result (Adds a.table.now table (of_branches a.q a.front (length query.branches) (λ b. with_fee (fee_of a.s.now x) (counts b)))) ((b : ℕ) → b < length query.branches → AreSmall (counts b))
    (AddsFront a.s.now a.q query a.front f.last f.sets a.w a.tuples.now a.table.now table)
    (λ adds small. front_adds a.s.now a.q query a.front top c.ilog2-top.ensures.power_le c.ilog2-top.ensures.next_power_gt c.requires.front f.last f.sets a.w a.tuples.now o c.requires.above kept a.table.now table level
    (ap (λ xs. slice_index xs top) c.levels-levels.ensures) adds small) c.count_and_answer.ensures.adds c.count_and_answer.ensures.small

pub returns-clause-few : goal.returns-clause-few
returns-clause-few c =
    let a = c.args in
    let t = a.t.now in
    let top : ℕ = c.ilog2-top.result in
    let query : TypedQuery = query_at t.queries a.q in
    let level : ℕ = slice_index c.levels-levels.result.now top in
    let o : Option Kept = c.kept_after-kept.result in
    let within = top_within top a.front (length query.levels) c.ilog2-top.ensures.power_le c.requires.front in
    let coarser : 1 < length query.levels = omega (arith, within, c.if-top-levels.false, ap length c.levels-levels.ensures) in
    let refined : IsSome query.field = several_refined t.window_us t.queries a.q t.typed c.requires.query coarser in
    if_ok c.count_and_answer.result (λ (x : Set). x ≡ prefixes_of query (sorted_rows (query_rows query level o a.tuples.now))) _
    (λ x is. let few = answered_few t.window_us a.q level t.queries t.typed c.requires.query a.tuples.now o refined in omega (arith, few, ap (λ (y : Set). set.len y) is)) c.count_and_answer.ensures.answers

pub returns-clause-answers : goal.returns-clause-answers
returns-clause-answers c =
    let a = c.args in
    let f = a.fronts.now in
    let top : ℕ = c.ilog2-top.result in
    let query : TypedQuery = query_at a.t.now.queries a.q in
    let o : Option Kept = c.kept_after-kept.result in
    let answers : ℕ → Set = λ level. prefixes_of query (sorted_rows (query_rows query level o a.tuples.now)) in
    let kept = kept_by query.levels c.levels-levels.result.now f.last f.sets a.w a.front top _ o c.levels-levels.ensures (one_shl top 32 c.ilog2-top.ensures.bound) c.kept_after-kept.ensures in
    if_ok c.count_and_answer.result (λ (x : Set). x ≡ answers (slice_index c.levels-levels.result.now top)) _
    (λ x is windows next coarse. is ∙ ap (λ xs. answers (slice_index xs top)) c.levels-levels.ensures
    ∙ front_answers a.s.now a.q query a.front top c.ilog2-top.ensures.power_le c.ilog2-top.ensures.next_power_gt c.requires.front f.last f.sets a.w a.tuples.now o c.requires.above kept windows next) c.count_and_answer.ensures.answers
