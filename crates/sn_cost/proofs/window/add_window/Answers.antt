use Rattle.std.proofs.Common.{◌≡◌, ℕ, ◌+◌, ◌<◌, ◌≤◌, ◌^◌, List, [], ◌∷◌, ◌++◌, length, ap, sym, subst, ◌∙◌, arith}
use Rattle.std.proofs.Math.Pow.{pow_mono}
use Rattle.std.proofs.lemmas.Nat.{one_shl}
use Rattle.std.specs.FinSet as set
use Rattle.std.specs.FinSet.{len-empty}
use Rattle.std.specs.Ordering.{nat_cmp}
use Rattle.sn_refine.specs.Steps.{Set}
use Rattle.sn_types.specs.declared.typed_query.TypedQuery.{TypedQuery}
use Rattle.sn_types.specs.Typed.{query_at}
use Rattle.sn_cost.specs.Training.{AddsFronts}
use Rattle.sn_cost.proofs.Counting.{Answer, all_answer, next_answer, next_front, no_fronts, none_answer, room_left}
use Rattle.sn_cost.proofs.Paths.{few_fronts, four_levels}
use Rattle.sn_cost.proofs.window.add_window.Goals as goal

pub overflow_cast-front-end : goal.overflow_cast-front-end
overflow_cast-front-end c =
    let t = c.args.t.now in
    let few = four_levels t.window_us t.queries c.args.q t.typed c.requires.query in
    omega (arith, few, ap length c.levels.ensures)

pub overflow_shl-front-end : goal.overflow_shl-front-end
overflow_shl-front-end c =
    let t = c.args.t.now in
    let few = four_levels t.window_us t.queries c.args.q t.typed c.requires.query in
    omega (arith, few, ap length c.levels.ensures)

pub loop-front-init : goal.loop-front-init
loop-front-init c =
    let a = c.args in
    let f = a.fronts.now in
    let query : TypedQuery = query_at a.t.now.queries a.q in
    let empty = len-empty nat_cmp in
    let one : c.push.new.self ≡ c.new.result ∷ [] = c.in_ok-push.ensures.ok ∙ ap (λ (xs : List Set). xs ++ c.new.result ∷ []) c.new-sets.ensures in
    record {
      adds = no_fronts a.s.now a.q query f.last f.sets a.w a.tuples.now a.table.now;
      answer = subst (Answer a.s.now a.q query f.last f.sets a.w a.tuples.now 1) (sym one)
          (none_answer a.s.now a.q query f.last f.sets a.w a.tuples.now c.new.result (omega (arith, empty, ap (λ (x : Set). set.len x) c.new.ensures)));
    }

pub add_front-requires-clause-places : goal.add_front-requires-clause-places
add_front-requires-clause-places c = c.loop-front.invariant.adds.places (c.args.q + 1) c.requires.places

pub add_front-requires-clause-room : goal.add_front-requires-clause-room
add_front-requires-clause-room c =
    let a = c.args in
    let t = a.t.now in
    let f = a.fronts.now in
    let few = four_levels t.window_us t.queries a.q t.typed c.requires.query in
    let short : length c.levels.result.now ≤ 4 = omega (arith, few, ap length c.levels.ensures) in
    let most = few_fronts c.levels.result.now short in
    let end = one_shl (length c.levels.result.now) 32 (omega (arith, short)) in
    let of_front : c.loop-front.front < 16 = omega (arith, most, end, c.loop-front-test.true) in
    room_left a.s.now a.q (query_at t.queries a.q) f.last f.sets a.w a.tuples.now a.table.now c.loop-front.table c.loop-front.front c.requires.places of_front c.loop-front.invariant.adds (c.requires.room c.loop-front.front of_front)

pub loop-front-preserved : goal.loop-front-preserved
loop-front-preserved c =
    let a = c.args in
    let t = a.t.now in
    let f = a.fronts.now in
    let query : TypedQuery = query_at t.queries a.q in
    let front : ℕ = c.loop-front.front in
    let few = four_levels t.window_us t.queries a.q t.typed c.requires.query in
    let end = one_shl (length c.levels.result.now) 32 (omega (arith, few, ap length c.levels.ensures)) in
    let within : front < 2 ^ length query.levels = omega (arith, end, c.loop-front-test.true, ap (λ (xs : List ℕ). 2 ^ length xs) c.levels.ensures) in
    record {
      adds = next_front a.s.now a.q query f.last f.sets a.w a.tuples.now a.table.now c.loop-front.table c.add_front.new.table front c.loop-front.auto.front within c.loop-front.invariant.adds c.in_ok-answered.ensures.adds;
      answer = subst (Answer a.s.now a.q query f.last f.sets a.w a.tuples.now (front + 1)) (sym c.in_ok-push-2.ensures.ok)
          (next_answer a.s.now a.q query f.last f.sets a.w a.tuples.now front c.loop-front.sets c.in_ok-answered.answered c.loop-front.invariant.answer c.in_ok-answered.ensures.few c.in_ok-answered.ensures.answers);
    }

pub returns-clause-adds : goal.returns-clause-adds
returns-clause-adds c =
    let a = c.args in
    let t = a.t.now in
    let f = a.fronts.now in
    let query : TypedQuery = query_at t.queries a.q in
    let few = four_levels t.window_us t.queries a.q t.typed c.requires.query in
    let end = one_shl (length c.levels.result.now) 32 (omega (arith, few, ap length c.levels.ensures)) in
    let low : 0 ≤ length c.levels.result.now = omega arith in
    let some : 2 ^ 0 ≤ 2 ^ length c.levels.result.now = pow_mono low in
    let most = c.loop-front.auto.front-end (omega (arith, end, some)) in
    let done : c.loop-front.front ≡ 2 ^ length query.levels = omega (arith, end, most, c.loop-front-test.false, ap (λ (xs : List ℕ). 2 ^ length xs) c.levels.ensures) in
    subst (λ (n : ℕ). AddsFronts a.s.now a.q query n f.last f.sets a.w a.tuples.now a.table.now c.loop-front.table) done c.loop-front.invariant.adds

pub returns-clause-knows : goal.returns-clause-knows
returns-clause-knows c =
    let a = c.args in
    let t = a.t.now in
    let f = a.fronts.now in
    let query : TypedQuery = query_at t.queries a.q in
    let few = four_levels t.window_us t.queries a.q t.typed c.requires.query in
    let end = one_shl (length c.levels.result.now) 32 (omega (arith, few, ap length c.levels.ensures)) in
    let done : 2 ^ length query.levels ≤ c.loop-front.front = omega (arith, end, c.loop-front-test.false, ap (λ (xs : List ℕ). 2 ^ length xs) c.levels.ensures) in
    all_answer a.s.now a.q query f.last f.sets a.w a.tuples.now c.loop-front.front c.loop-front.sets done c.loop-front.invariant.answer
