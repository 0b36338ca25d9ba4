use Rattle.sn_command_prices.proofs.Makes.{priced_as_is}
use Rattle.sn_command_prices.proofs.make.priced.Goals as goal

pub returns : goal.returns
returns c = λ given counted.
    let shown = c.in_ok-cost.ensures given counted in
    record { fits = c.requires.fits; shows = priced_as_is c.args.s.now c.args.t.now.queries given c.args.plan (record { cost = c.in_ok-cost.cost; prices = c.args.prices; least = c.in_ok-cost.least }) shown.0 shown.1; reported = c.requires.reported }
