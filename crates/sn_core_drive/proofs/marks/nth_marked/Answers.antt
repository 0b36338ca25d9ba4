use Rattle.std.proofs.Common.{◌≡◌, ◌+◌, ◌∙◌, length, drop, ℕ, List, ap, arith, subst}
use Rattle.std.proofs.lemmas.List.{length-drop}
use Rattle.sn_core_drive.specs.Picking.{marked, marked_from}
use Rattle.sn_core_drive.proofs.BitLemmas.{IsAfter, place_got, rest_after}
use Rattle.sn_core_drive.proofs.marks.nth_marked.Goals as goal

pub next_marked-place-requires-in-loop : goal.next_marked-place-requires-in-loop
next_marked-place-requires-in-loop c =
    let word = c.args.word in
    let passed = c.loop.counter in
    let rest : length (drop (passed + 1) (marked word)) ≡ length (marked_from word (c.loop.place + 1)) = ap (λ (xs : List ℕ). length xs) (rest_after word passed c.loop.place c.loop.invariant) in
    omega (arith, rest, length-drop (passed + 1) (marked word), c.loop-test.true, c.requires)

pub loop-preserved : goal.loop-preserved
loop-preserved c =
    let next = c.next_marked-place-in-loop.ensures in
    record { within = next.within; is = next.marked; rest = rest_after c.args.word c.loop.counter c.loop.place c.loop.invariant ∙ next.same }

pub returns : goal.returns
returns c =
    let all : c.loop.counter ≡ c.args.n = omega (arith, c.loop-test.false, c.loop.auto.counter-end) in
    place_got c.args.word c.args.n c.loop.place (subst (λ (passed : ℕ). IsAfter c.args.word passed c.loop.place) all c.loop.invariant)
