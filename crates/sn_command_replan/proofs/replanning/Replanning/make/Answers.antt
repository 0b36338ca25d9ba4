use Rattle.std.proofs.Common.{ℕ, Option, refl, ap, sym, subst}
use Rattle.sn_command_replan.specs.Replan.{Followed}
use Rattle.sn_windows.specs.Rising.{IsAbove}
use Rattle.sn_command_replan.proofs.replanning.Replanning.make.Goals as goal

pub returns-clause-followed : goal.returns-clause-followed
returns-clause-followed c = ap (made c.args.nodes) c.in_ok-epochs.ensures.most
  where
    made : ℕ → ℕ → Followed
    made nodes most = record { queries = c.args.certified.typed.queries; limits = c.args.certified.limits; nodes = nodes; most = most; first = c.args.certified.certificate }

pub returns-clause-begun : goal.returns-clause-begun
returns-clause-begun c =
    let e = c.in_ok-epochs.ensures in
    record {
      switch = c.requires.switch;
      held = c.new-2.ensures;
      widths = tt;
      stands = record {
        none = refl;
        runs = e.runs;
        above = subst (λ (o : Option ℕ). IsAbove o 0) (sym e.last) tt;
        entries = c.requires.fits.paths;
        count = refl;
        heading = c.new.ensures;
      };
      sent = refl;
      new = λ same. refl;
      rising = (tt, tt);
    }
