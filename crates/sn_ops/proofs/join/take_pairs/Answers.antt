use Rattle.std.proofs.Common.{◌≡◌, ◌+◌, ◌<◌, ◌≤◌, List, [], ◌∷◌, ◌++◌, map, length, take, drop, ap, sym, subst, ◌∙◌, append_assoc, arith}
use Rattle.std.proofs.lemmas.List.{length-map}
use Rattle.sn_base.specs.Groups.{Row}
use Rattle.sn_ops.specs.Flow.{AllFit}
use Rattle.sn_ops.specs.Joins.{both}
use Rattle.sn_ops.specs.Passing.{CanTake}
use Rattle.sn_ops.specs.Standing.{Stands}
use Rattle.sn_ops.proofs.OneMore.{can_take}
use Rattle.sn_ops.proofs.Pairs.{one_pair}
use Rattle.sn_ops.proofs.Steps.{holds_at, map_step, mapped_at}
use Rattle.sn_ops.proofs.join.take_pairs.Goals as goal

pub pair-row-requires-clause-few : goal.pair-row-requires-clause-few
pair-row-requires-clause-few g c =
    let f : Row → Row = both c.args.lefts.now c.args.rights.now (g.R.Columns.columns c.args.left.now) in
    let found : List Row = map g.R.Columns.columns c.args.found.now in
    let i = c.loop-right.right-index in
    let right : Row = g.R.Columns.columns c.right-item.result in
    let is = mapped_at g.R.Columns.columns c.args.found.now i c.right-item.result c.right-item.is in
    let within : i < length found = omega (arith, length-map c.args.found.now g.R.Columns.columns, c.loop-right-test.true) in
    holds_at (λ (r : Row). length (f r) ≤ 8) found i right c.requires.few within is

pub take-requires : goal.take-requires
take-requires g c =
    let level = c.args.level in
    let ops = c.args.ops.now in
    let seen = c.loop-right.seen in
    let f : Row → Row = both c.args.lefts.now c.args.rights.now (g.R.Columns.columns c.args.left.now) in
    let found : List Row = map g.R.Columns.columns c.args.found.now in
    let i = c.loop-right.right-index in
    let right : Row = g.R.Columns.columns c.right-item.result in
    let is = mapped_at g.R.Columns.columns c.args.found.now i c.right-item.result c.right-item.is in
    let within : i < length found = omega (arith, length-map c.args.found.now g.R.Columns.columns, c.loop-right-test.true) in
    let so_far : List Row = map f (take i found) in
    let before = c.requires.can in
    let stands : Stands level ops seen (before.rows ++ so_far) c.loop-right.out = c.loop-right.invariant before.rows before.stands in
    let fit : AllFit level ops (before.rows ++ (so_far ++ f right ∷ [])) = before.fit (so_far ++ f right ∷ []) (map f (drop (i + 1) found)) (one_pair f found i right within is) in
    subst (λ (row : Row). CanTake level ops seen row) (sym c.pair-row.ensures)
    (can_take level ops seen (before.rows ++ so_far) (f right) c.loop-right.out stands (subst (AllFit level ops) (sym (append_assoc before.rows so_far (f right ∷ []))) fit))

pub loop-right-preserved : goal.loop-right-preserved
loop-right-preserved g c rows stands =
    let level = c.args.level in
    let ops = c.args.ops.now in
    let seen = c.loop-right.seen in
    let f : Row → Row = both c.args.lefts.now c.args.rights.now (g.R.Columns.columns c.args.left.now) in
    let found : List Row = map g.R.Columns.columns c.args.found.now in
    let i = c.loop-right.right-index in
    let right : Row = g.R.Columns.columns c.right-item.result in
    let is = mapped_at g.R.Columns.columns c.args.found.now i c.right-item.result c.right-item.is in
    let within : i < length found = omega (arith, length-map c.args.found.now g.R.Columns.columns, c.loop-right-test.true) in
    let so_far : List Row = map f (take i found) in
    let whole : (rows ++ so_far) ++ g.R.Columns.columns c.pair-row.result ∷ [] ≡ rows ++ map f (take (i + 1) found) =
    ap (λ (r : Row). (rows ++ so_far) ++ r ∷ []) c.pair-row.ensures ∙ append_assoc rows so_far (f right ∷ []) ∙ ap (λ (rs : List Row). rows ++ rs) (map_step f found i right within is) in
    subst (λ (rs : List Row). Stands level ops c.take.new.seen rs c.take.new.out) whole (c.in_ok-take.ensures (rows ++ so_far) (c.loop-right.invariant rows stands))
