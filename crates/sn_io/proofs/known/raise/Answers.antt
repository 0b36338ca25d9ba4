use Rattle.std.proofs.Common.{sym, subst}
use Rattle.sn_io.specs.Counts.{OnlyRises, RoseAt}
use Rattle.sn_io.specs.Known.{Known, counts_of}
use Rattle.sn_io.specs.Entries.{entries}
use Rattle.sn_io.proofs.Raised.{raised_rises, raised_rose}
use Rattle.sn_io.proofs.known.raise.Goals as goal

pub returns-clause-others : goal.returns-clause-others
returns-clause-others c =
    let old = entries c.args.known.now.items in
    subst (λ (new : Known). OnlyRises c.args.name.now (counts_of old) (counts_of new)) (sym c.raise_first.ensures) (raised_rises c.args.name.now old)

pub returns-clause-rose : goal.returns-clause-rose
returns-clause-rose c is =
    let old = entries c.args.known.now.items in
    let name = c.args.name.now in
    subst (λ (new : Known). RoseAt name (counts_of old) (counts_of new)) (sym c.raise_first.ensures) (raised_rose name old is)
