use Rattle.std.proofs.Common.{ℕ, ◌<◌, ◌≤◌, ◌++◌, ◌^◌, List, length, ap, refl, arith}
use Rattle.std.proofs.lemmas.Nat.{one_shl}
use Rattle.sn_cost.proofs.Paths.{few_fronts, four_levels}
use Rattle.sn_plan_choices.specs.Costs.{entry_in}
use Rattle.sn_types.specs.Typed.{query_at}
use Rattle.sonata_entries.specs.Table.{branches_text, fronts_text}
use Rattle.sonata_entries.proofs.TextLemmas.{all_written, part_written}
use Rattle.sonata_entries.proofs.table.push_fronts.Goals as goal

pub overflow_cast-front-end : goal.overflow_cast-front-end
overflow_cast-front-end c =
    let t = c.args.t.now in
    let few = four_levels t.window_us t.queries c.args.q t.typed c.requires.query in
    omega (arith, few, ap length c.levels.ensures)

pub overflow_shl-front-end : goal.overflow_shl-front-end
overflow_shl-front-end c =
    let t = c.args.t.now in
    let few = four_levels t.window_us t.queries c.args.q t.typed c.requires.query in
    omega (arith, few, ap length c.levels.ensures)

pub push_branches-requires-clause-front : goal.push_branches-requires-clause-front
push_branches-requires-clause-front c =
    let t = c.args.t.now in
    let few = four_levels t.window_us t.queries c.args.q t.typed c.requires.query in
    let short : length c.levels.result.now ≤ 4 = omega (arith, few, ap length c.levels.ensures) in
    let most = few_fronts c.levels.result.now short in
    let end = one_shl (length c.levels.result.now) 32 (omega (arith, short)) in
    omega (arith, most, end, c.loop-front-test.true)

pub loop-front-preserved : goal.loop-front-preserved
loop-front-preserved c =
    let a = c.args in
    let t = a.t.now in
    let entry = entry_in a.table.now in
    let few = four_levels t.window_us t.queries a.q t.typed c.requires.query in
    let end = one_shl (length c.levels.result.now) 32 (omega (arith, few, ap length c.levels.ensures)) in
    let within : c.loop-front.front < 2 ^ length (query_at t.queries a.q).levels = omega (arith, end, c.loop-front-test.true, ap (λ (xs : List ℕ). 2 ^ length xs) c.levels.ensures) in
    part_written (branches_text a.s.now entry t.queries a.q) (a.text.now.items ++ fronts_text a.s.now entry t.queries a.q) c.loop-front.text.items c.push_branches.new.text.items
    (branches_text a.s.now entry t.queries a.q c.loop-front.front) c.loop-front.front (2 ^ length (query_at t.queries a.q).levels) (2 ^ length (query_at t.queries a.q).levels) within refl
    c.loop-front.invariant c.in_ok-push_branches.ensures refl

pub returns : goal.returns
returns c =
    let a = c.args in
    let t = a.t.now in
    let entry = entry_in a.table.now in
    let few = four_levels t.window_us t.queries a.q t.typed c.requires.query in
    let end = one_shl (length c.levels.result.now) 32 (omega (arith, few, ap length c.levels.ensures)) in
    let over : 2 ^ length (query_at t.queries a.q).levels ≤ c.loop-front.front = omega (arith, end, c.loop-front-test.false, ap (λ (xs : List ℕ). 2 ^ length xs) c.levels.ensures) in
    all_written (branches_text a.s.now entry t.queries a.q) (a.text.now.items ++ fronts_text a.s.now entry t.queries a.q) c.loop-front.text.items c.loop-front.front
    (2 ^ length (query_at t.queries a.q).levels) (2 ^ length (query_at t.queries a.q).levels) over refl c.loop-front.invariant
