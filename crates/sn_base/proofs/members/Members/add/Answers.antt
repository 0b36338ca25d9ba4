use Rattle.std.proofs.Common.{ap, ◌∙◌}
use Rattle.std.specs.FinSet.{insert}
use Rattle.sn_base.proofs.PrefixLemmas.{put_listed}
use Rattle.sn_base.proofs.members.Members.add.Goals as goal
use Rattle.sn_base.proofs.members.Members.add.Goals.{in-Ok, in-Err}

pub returns-clause-ok : goal.returns-clause-ok
returns-clause-ok c =
    elim c.match-insert.branch [
      | in-Ok w ↦ rw w.result-is (put_listed c.self.inside.prefixes.keys c.insert.new.self.keys c.args.prefix w.in-Ok.ensures.updates.0 ∙ ap (λ s. insert s c.args.prefix) c.self.view_is)
      | in-Err w ↦ rw w.result-is tt
    ]
