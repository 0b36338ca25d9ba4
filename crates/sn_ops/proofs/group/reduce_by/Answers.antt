use Rattle.std.proofs.Common.{◌≡◌, List, ◌++◌, map, ap, ◌∙◌, append-nil}
use Rattle.sn_base.specs.Groups.{Row}
use Rattle.sn_base.specs.Operators.{Grouping, grouped, pair_of, parted}
use Rattle.sn_ops.specs.Flow.{grouping_of}
use Rattle.sn_ops.proofs.Steps.{ok_weaker}
use Rattle.sn_ops.proofs.group.reduce_by.Goals as goal

pub returns : goal.returns
returns g c =
    let by : Grouping = grouping_of c.args.r.now in
    let pairs = map (pair_of by) c.args.rows.now in
    ok_weaker (λ (out : List Row). out ≡ grouped by (pairs ++ map (parted by) c.new-none.result)) (λ (out : List Row). out ≡ grouped by pairs)
    (λ out h. h ∙ ap (λ (parts : List Row). grouped by (pairs ++ map (parted by) parts)) c.new-none.ensures ∙ ap (grouped by) (append-nil pairs)) c.reduce_with.result c.reduce_with.ensures
