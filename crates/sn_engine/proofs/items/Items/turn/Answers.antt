use Rattle.std.proofs.Common.{Option, map, ap, sym, ◌∙◌}
use Rattle.sn_engine.proofs.Moves.{none_turned}
use Rattle.sn_engine.specs.Turns.{turn}
use Rattle.sn_report.specs.declared.frame.Tag.{Tag}
use Rattle.sn_engine.proofs.items.Items.turn.Goals as goal

pub returns-in_default : goal.returns-in_default
returns-in_default c = none_turned c.args.self.now ∙ ap (λ (held : Option Tag). map (turn held) c.args.self.now) (sym c.in_default.is)
