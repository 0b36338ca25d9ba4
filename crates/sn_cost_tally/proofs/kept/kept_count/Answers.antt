use Rattle.std.proofs.Common.{Bool, filter, length, take, min, ap, ◌∙◌}
use Rattle.sn_cost_tally.proofs.Keeping.{count_kept}
use Rattle.sn_cost_tally.proofs.kept.kept_count.Goals as goal

pub returns : goal.returns
returns g c =
    let marks = c.args.marks.now in
    let rows = c.args.rows.now in
    c.set_count.ensures ∙ ap (λ n. length (filter (λ (mark : Bool). mark) (take n marks))) (c.min.ensures ∙ ap (min (length marks)) c.len.ensures) ∙ count_kept marks rows
