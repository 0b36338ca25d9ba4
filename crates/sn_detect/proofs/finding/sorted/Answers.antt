use Rattle.std.proofs.Common.{ap, ◌∙◌}
use Rattle.sn_base.specs.Sorted.{sorted_rows}
use Rattle.sn_base.proofs.SortLemmas.{sorted_is}
use Rattle.sn_detect.proofs.finding.sorted.Goals as goal

pub returns : goal.returns
returns c =
    c.from_vec.ensures ∙ sorted_is c.into_vec-rows.result.items c.sort.new.self.items c.sort.ensures.permutation c.in_ok-sort.ensures.sorted
    ∙ ap sorted_rows c.into_vec-rows.ensures
