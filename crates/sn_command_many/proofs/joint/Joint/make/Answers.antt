use Rattle.std.proofs.Common.{◌≡◌, ◌≤◌, ℕ, Option, ap, length, refl, subst, sym}
use Rattle.std.specs.List.{AllByRecursion}
use Rattle.sn_command_captures.specs.Answered.{Shared}
use Rattle.sn_command_many.specs.Together.{held_in}
use Rattle.sn_emit.specs.Plans.{tables_of}
use Rattle.sn_emit.specs.declared.tables.Tables.{Tables}
use Rattle.sn_engine_lockstep.proofs.Laws.{plan_made}
use Rattle.sn_engine_lockstep.specs.Windows.{Remembers, window_of}
use Rattle.sn_engine_many.specs.Phases.{AreBetween}
use Rattle.sn_types.specs.declared.answers.Answers.{Answers}
use Rattle.sn_command_many.proofs.joint.Joint.make.Goals as goal

pub returns-clause-begun : goal.returns-clause-begun
returns-clause-begun c = λ all each rises.
    let t = c.args.typed in
    let e = c.in_ok-many.ensures in
    record {
      typed_for = t.window_us;
      typed = t.typed;
      entries = c.requires.fits.paths;
      can = plan_made t.window_us t.queries c.args.switch.now c.args.plan.entries t.typed c.requires.switch c.requires.fits;
      queries = e.queries;
      few = subst (λ n. n ≤ 8) (sym e.count) c.requires.few;
      each = subst (λ (n : ℕ). AllByRecursion (λ (w : Shared). length w.1 ≡ n) all) (sym e.count) each;
      rises = rises;
      phase = e.phase;
      between = subst (λ (tables : Tables). AreBetween t.queries tables c.args.plan.entries c.in_ok-many.many.last c.in_ok-many.many.switches.items c.in_ok-many.many.engine) (sym c.of.ensures)
          (subst (λ (o : Option Answers). AreBetween t.queries (tables_of c.args.switch.now) c.args.plan.entries o c.in_ok-many.many.switches.items c.in_ok-many.many.engine) (sym e.last) e.between);
      remembers = subst (Remembers t.queries c.args.plan.entries (held_in all)) (sym e.last) tt;
      last = ap window_of e.last;
      emitted = refl;
    }
