use Rattle.std.proofs.Common.{map, ap, refl, sym, ◌∙◌}
use Rattle.sn_core_net.specs.States.{State}
use Rattle.sn_emit.specs.declared.tables.Tables.{Tables}
use Rattle.sn_command_run.specs.Along.{answers_for}
use Rattle.sn_command_run.proofs.along.Along.make.Goals as goal

pub returns-clause-begun : goal.returns-clause-begun
returns-clause-begun g c =
    let e = c.in_ok-machine.ensures in
    record {
      fed = record {
        typed_for = c.args.typed.window_us;
        typed = c.args.typed.typed;
        entries = c.requires.fits.paths;
        stands = e.stands;
        taken = ap (λ (s : State). s.waiting) e.state;
        sound = tt;
        owes = λ following falls widths.
            ap (map g.M.Machine.reported)
            (e.due following falls widths ∙ ap (λ (tables : Tables). answers_for (record { queries = c.args.typed.queries; tables = tables; entries = c.args.plan.entries }) following) (sym c.of.ensures));
        emitted = refl;
      };
      used = (ap (λ (s : State). s.held) e.state, ap (λ (s : State). s.window) e.state);
      rising = (tt, tt);
    }
