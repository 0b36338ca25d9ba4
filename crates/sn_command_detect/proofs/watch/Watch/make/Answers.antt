use Rattle.std.proofs.Common.{List, [], subst, sym}
use Rattle.sn_command_detect.specs.Detected.{watched_from}
use Rattle.sn_command_detect.specs.Watching.{AreAfter}
use Rattle.sn_plan_fit.specs.Fits.{AreEntriesOf}
use Rattle.sn_plan_grammar.specs.declared.plan.Entry.{Entry}
use Rattle.sn_command_detect.proofs.watch.Watch.make.Goals as goal

pub detects-requires : goal.detects-requires
detects-requires c = subst (λ (es : List Entry). AreEntriesOf c.args.typed.queries es) (sym c.as_slice.ensures) c.requires.paths

pub returns-clause-begun : goal.returns-clause-begun
returns-clause-begun c = record {
  kept = c.new.ensures;
  widths = tt;
  after = subst (λ (es : List Entry). AreAfter c.args.typed.queries [] (watched_from c.args.typed.queries 0 es) c.in_ok-detects.detects.items) c.as_slice.ensures c.in_ok-detects.ensures;
  rising = (tt, tt);
}
