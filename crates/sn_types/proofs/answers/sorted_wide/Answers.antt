use Rattle.std.proofs.Common.{sym, ap, ◌∙◌}
use Rattle.std.proofs.lemmas.List.{map-id}
use Rattle.sn_base.specs.Sorted.{sorted_rows}
use Rattle.sn_base.proofs.SortLemmas.{sorted_is}
use Rattle.sn_types.proofs.answers.sorted_wide.Goals as goal

pub returns : goal.returns
returns c =
    c.from_vec.ensures ∙ sorted_is c.into_vec-wide.result.items c.sort.new.self.items c.sort.ensures.permutation c.in_ok-sort.ensures.sorted
    ∙ ap sorted_rows (sym (map-id c.into_vec-wide.result.items) ∙ c.into_vec-wide.ensures)
