use Rattle.sn_cost_tally.proofs.Renumbering.{one_numbered}
use Rattle.sn_cost_tally.proofs.numbered.add_number.Goals as goal

pub returns : goal.returns
returns g c = λ rows h.
    one_numbered c.args.numbers.now.keys c.number.new.self.keys rows (g.R.Columns.columns c.args.key.now) c.args.of_rows.now.items c.push.new.self.items c.in_ok-number.number c.in_ok-number.ensures.keys
    c.in_ok-number.ensures.within c.in_ok-number.ensures.row c.in_ok-push.ensures.items h
