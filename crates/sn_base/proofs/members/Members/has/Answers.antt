use Rattle.std.proofs.Common.{ap, ◌∙◌}
use Rattle.std.specs.FinSet.{contains}
use Rattle.sn_base.proofs.PrefixLemmas.{has_listed}
use Rattle.sn_base.proofs.members.Members.has.Goals as goal

pub returns : goal.returns
returns c = c.contains.ensures ∙ has_listed c.self.inside.prefixes.keys c.args.prefix ∙ ap (λ s. contains s c.args.prefix) c.self.view_is
