use Rattle.std.proofs.Common.{◌≡◌, ℕ, List, ap, ◌∙◌}
use Rattle.sn_base.specs.Operators.{join}
use Rattle.sn_ops.specs.Joins.{both, lefts, meets, rights}
use Rattle.sn_ops.proofs.join.join_through.Goals as goal

pub join_at-requires-clause-fit : goal.join_at-requires-clause-fit
join_at-requires-clause-fit g c front following e =
    let keys = c.args.keys.now in
    let left = c.args.left.now in
    let right = c.args.right.now in
    let on_left : c.as_slice.result.now ≡ lefts keys = c.as_slice.ensures ∙ c.in_ok-lefts.ensures in
    let on_right : c.as_slice-2.result.now ≡ rights keys = c.as_slice-2.ensures ∙ c.in_ok-rights.ensures in
    c.requires.fit front following
    (e ∙ ap (λ (ls : List ℕ). join (meets ls c.as_slice-2.result.now) (both ls c.as_slice-2.result.now) left right) on_left
    ∙ ap (λ (rs : List ℕ). join (meets (lefts keys) rs) (both (lefts keys) rs) left right) on_right)
