use Rattle.std.proofs.Common.{ap, sym, ◌∙◌}
use Rattle.std.specs.FinSet.{len}
use Rattle.sn_base.proofs.SizeLemmas.{sorted_len}
use Rattle.sn_base.proofs.members.Members.len.Goals as goal

pub returns : goal.returns
returns c = c.len.ensures.len ∙ sym (sorted_len c.self.inside.prefixes.keys c.len.ensures.ordered) ∙ ap (λ s. len s) c.self.view_is
