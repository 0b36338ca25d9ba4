use Rattle.std.proofs.Common.{ap, ◌∙◌}
use Rattle.sn_prices_bound.specs.Walks.{known_stages}
use Rattle.sn_prices_bound.proofs.Having.{option_has}
use Rattle.sn_prices_bound.proofs.bound.option_price.Goals as goal

pub returns-clause-value : goal.returns-clause-value
returns-clause-value c = λ entry t x e.
    option_has c.args.s.now entry c.args.p.now c.requires.switch.bits t x c.args.option.now c.from.result c.from-2.result c.metadata_price.result c.stages_price.result c.from.ensures c.from-2.ensures
    c.metadata_price.ensures.value (c.stages_price.ensures.value ∙ ap (known_stages c.args.s.now c.args.p.now 0) c.as_slice.ensures.value) e
