use Rattle.std.proofs.Common.{◌≤◌, sym, subst}
use Rattle.sn_table.proofs.Digits.{share_is, share_most}
use Rattle.sn_table.proofs.narrow.width_of.Goals as goal

pub returns-clause-value : goal.returns-clause-value
returns-clause-value c = share_is c.args.columns c.requires

pub returns-clause-most : goal.returns-clause-most
returns-clause-most c = λ several. subst (λ n. n ≤ 64) (sym (share_is c.args.columns c.requires)) (share_most c.args.columns c.requires several)
