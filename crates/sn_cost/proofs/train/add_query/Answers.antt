use Rattle.std.proofs.Common.{◌≡◌, ◌+◌, ◌≤◌, ◌^◌, ℕ, List, ◌∷◌, Option, drop, length, subst, sym, arith}
use Rattle.std.proofs.lemmas.List.{drop_all}
use Rattle.sn_types.specs.Typed.{query_at}
use Rattle.sn_windows.specs.Blocks.{most_records}
use Rattle.sn_refine.specs.Refined.{Windows}
use Rattle.sn_cost_training.specs.declared.training.TrainingWindow.{TrainingWindow}
use Rattle.sn_cost.specs.Training.{AddsFronts, HaveAtMost, IsNext, Knows}
use Rattle.sn_cost.proofs.Running.{window_at}
use Rattle.sn_cost.proofs.Trained.{TrainedTo, above_next, all_trained, few_next, few_tuples, next_trained, none_trained, room_next}
use Rattle.sn_cost.proofs.train.add_query.Goals as goal

pub loop-window-init : goal.loop-window-init
loop-window-init c =
    let a = c.args in
    none_trained a.s.now a.q (query_at a.t.now.queries a.q) c.windows-windows.result.now a.table.now c.new-fronts.result.last c.new-fronts.result.sets c.windows-windows.ensures.apart c.requires.fresh c.new-fronts.ensures.last c.new-fronts.ensures.sets

pub add_window-requires-clause-above : goal.add_window-requires-clause-above
add_window-requires-clause-above c =
    let a = c.args in
    let f = c.loop-window.fronts in
    let ws : List TrainingWindow = c.windows-windows.result.now in
    let w : TrainingWindow = c.window-item.result in
    let next : drop c.loop-window.window-index ws ≡ w ∷ drop (c.loop-window.window-index + 1) ws = window_at ws c.loop-window.window-index w _ c.loop-window-test.true c.window-item.is in
    let few = few_tuples a.training.now ws c.windows-windows.ensures.all c.requires.few in
    let query = query_at a.t.now.queries a.q in
    let so_far = subst (λ (rest : List TrainingWindow). TrainedTo a.s.now a.q query ws a.table.now rest f.last f.sets c.loop-window.table) next c.loop-window.invariant in
    above_next a.s.now a.q query ws a.table.now w (drop (c.loop-window.window-index + 1) ws) f.last f.sets c.loop-window.table so_far

pub add_window-requires-clause-few : goal.add_window-requires-clause-few
add_window-requires-clause-few c =
    let a = c.args in
    let f = c.loop-window.fronts in
    let ws : List TrainingWindow = c.windows-windows.result.now in
    let w : TrainingWindow = c.window-item.result in
    let next : drop c.loop-window.window-index ws ≡ w ∷ drop (c.loop-window.window-index + 1) ws = window_at ws c.loop-window.window-index w _ c.loop-window-test.true c.window-item.is in
    let few = few_tuples a.training.now ws c.windows-windows.ensures.all c.requires.few in
    let query = query_at a.t.now.queries a.q in
    let so_far = subst (λ (rest : List TrainingWindow). TrainedTo a.s.now a.q query ws a.table.now rest f.last f.sets c.loop-window.table) next c.loop-window.invariant in
    subst (λ (ts : List (List ℕ)). length ts ≤ most_records) (sym c.as_slice.ensures) (few_next a.s.now a.q query ws a.table.now w (drop (c.loop-window.window-index + 1) ws) f.last f.sets c.loop-window.table few so_far)

pub add_window-requires-clause-places : goal.add_window-requires-clause-places
add_window-requires-clause-places c = c.loop-window.invariant.counted.places (c.args.q + 1) c.requires.places

pub add_window-requires-clause-room : goal.add_window-requires-clause-room
add_window-requires-clause-room c =
    let a = c.args in
    let f = c.loop-window.fronts in
    let ws : List TrainingWindow = c.windows-windows.result.now in
    room_next a.s.now a.q (query_at a.t.now.queries a.q) ws a.table.now (drop c.loop-window.window-index ws) f.last f.sets c.loop-window.table c.requires.switch.weight.1
    (few_tuples a.training.now ws c.windows-windows.ensures.all c.requires.few) c.requires.places c.loop-window.invariant

pub loop-window-preserved : goal.loop-window-preserved
loop-window-preserved c =
    let a = c.args in
    let f = c.loop-window.fronts in
    let ws : List TrainingWindow = c.windows-windows.result.now in
    let w : TrainingWindow = c.window-item.result in
    let next : drop c.loop-window.window-index ws ≡ w ∷ drop (c.loop-window.window-index + 1) ws = window_at ws c.loop-window.window-index w _ c.loop-window-test.true c.window-item.is in
    let few = few_tuples a.training.now ws c.windows-windows.ensures.all c.requires.few in
    let query = query_at a.t.now.queries a.q in
    let so_far = subst (λ (rest : List TrainingWindow). TrainedTo a.s.now a.q query ws a.table.now rest f.last f.sets c.loop-window.table) next c.loop-window.invariant in
    let n = c.add_window.new.fronts in
    let shown = c.as_slice.ensures in
    let last = c.in_ok-add_window.ensures.last in
    let adds : AddsFronts a.s.now a.q query (2 ^ length query.levels) f.last f.sets w.number w.tuples c.loop-window.table c.add_window.new.table =
    subst (λ (ts : List (List ℕ)). AddsFronts a.s.now a.q query (2 ^ length query.levels) f.last f.sets w.number ts c.loop-window.table c.add_window.new.table) shown c.in_ok-add_window.ensures.adds in
    let most : HaveAtMost (length w.tuples) n.sets = subst (λ (ts : List (List ℕ)). HaveAtMost (length ts) n.sets) shown c.in_ok-add_window.ensures.few in
    let knows : (windows : Windows) → IsNext query windows f.last f.sets w.number w.tuples → Knows query windows n.last n.sets =
    subst (λ (ts : List (List ℕ)). (windows : Windows) → IsNext query windows f.last f.sets w.number ts → Knows query windows n.last n.sets) shown c.in_ok-add_window.ensures.knows in
    subst (λ (o : Option ℕ). TrainedTo a.s.now a.q query ws a.table.now (drop (c.loop-window.window-index + 1) ws) o n.sets c.add_window.new.table) (sym last)
    (next_trained a.s.now a.q query ws a.table.now w (drop (c.loop-window.window-index + 1) ws) c.loop-window.table c.add_window.new.table f.last f.sets n.sets c.requires.switch.weight.1 so_far adds most
    (subst (λ (o : Option ℕ). (windows : Windows) → IsNext query windows f.last f.sets w.number w.tuples → Knows query windows o n.sets) last knows))

pub returns : goal.returns
returns c =
    let a = c.args in
    let f = c.loop-window.fronts in
    let ws : List TrainingWindow = c.windows-windows.result.now in
    let query = query_at a.t.now.queries a.q in
    let over : length ws ≤ c.loop-window.window-index = let t = c.loop-window-test.false in omega (arith, t) in
    all_trained a.s.now a.q query ws a.table.now f.last f.sets c.loop-window.table a.training.now c.windows-windows.ensures.apart c.windows-windows.ensures.all
    (subst (λ (rest : List TrainingWindow). TrainedTo a.s.now a.q query ws a.table.now rest f.last f.sets c.loop-window.table) (drop_all c.loop-window.window-index ws over) c.loop-window.invariant)
