use Rattle.std.proofs.Common.{◌≡◌, ◌+◌, cond, drop, get_or, ap, arith}
use Rattle.sn_cost_seats.specs.Tallies.{sum_unmarked}
use Rattle.sn_cost_seats.proofs.Blocks.{sum_drop}
use Rattle.sn_cost_seats.proofs.tally.over.Goals.{then-not-homes-place, else-not-homes-place}
use Rattle.sn_cost_seats.proofs.tally.over.Goals as goal

pub loop-place-preserved : goal.loop-place-preserved
loop-place-preserved c =
    let homes = c.args.homes.now in
    let times = c.args.times.now in
    let i = c.loop-place.place in
    let step = sum_drop homes times i c.loop-place-test.true c.requires.long in
    let so_far : c.loop-place.sum + sum_unmarked (drop i homes) (drop i times) ≡ sum_unmarked homes times = c.loop-place.invariant in
    elim c.if-not-homes-place.branch [
      | then-not-homes-place w ↦ (let e = w.sum-is in let t = ap (λ b. cond b 0 (get_or times i 0)) w.if-not-homes-place.true in omega (arith, step, so_far, e, t))
      | else-not-homes-place w ↦ (let e = w.sum-is in let t = ap (λ b. cond b 0 (get_or times i 0)) w.if-not-homes-place.false in omega (arith, step, so_far, e, t))
    ]
