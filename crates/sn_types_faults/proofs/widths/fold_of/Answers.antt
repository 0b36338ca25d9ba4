use Rattle.std.proofs.Common.{arith, ap, sym, ◌∙◌}
use Rattle.sn_base.specs.declared.any_fold.AnyFold.TheVariants.{SatSum, Max, Min, Or}
use Rattle.sn_types_faults.specs.Widths.{fold_of, lawful, lawful_range}
use Rattle.sn_types_faults.proofs.Folds.{same_fold}
use Rattle.sn_types_faults.proofs.widths.fold_of.Goals as goal

pub returns-in-Sum : goal.returns-in-Sum
returns-in-Sum c =
    same_fold (λ v r. SatSum (record { v = v; in_range = r })) c.clamp-v.result (lawful c.args.width) _ (lawful_range c.args.width) (omega (arith, c.clamp-v.ensures))
    ∙ ap (λ w. fold_of w c.args.width) (sym c.in-Sum.is)

pub returns-in-Max : goal.returns-in-Max
returns-in-Max c =
    same_fold (λ v r. Max (record { v = v; in_range = r })) c.clamp-v.result (lawful c.args.width) _ (lawful_range c.args.width) (omega (arith, c.clamp-v.ensures))
    ∙ ap (λ w. fold_of w c.args.width) (sym c.in-Max.is)

pub returns-in-Min : goal.returns-in-Min
returns-in-Min c =
    same_fold (λ v r. Min (record { v = v; in_range = r })) c.clamp-v.result (lawful c.args.width) _ (lawful_range c.args.width) (omega (arith, c.clamp-v.ensures))
    ∙ ap (λ w. fold_of w c.args.width) (sym c.in-Min.is)

pub returns-in-Or : goal.returns-in-Or
returns-in-Or c =
    same_fold (λ v r. Or (record { v = v; in_range = r })) c.clamp-v.result (lawful c.args.width) _ (lawful_range c.args.width) (omega (arith, c.clamp-v.ensures))
    ∙ ap (λ w. fold_of w c.args.width) (sym c.in-Or.is)
