use Rattle.std.proofs.Common.{sym, subst}
use Rattle.sn_base.specs.Groups.{Apart, same_row}
use Rattle.sn_table.specs.HeldKeys.{IsSound, keys_of}
use Rattle.sn_table.proofs.ApartKeys.{numbers_apart, rows_apart}
use Rattle.sn_table.proofs.keys.count.Goals as goal

pub returns-in-Narrow-clause-apart : goal.returns-in-Narrow-clause-apart
returns-in-Narrow-clause-apart g c =
    subst (λ held. Apart same_row (keys_of g.R.Columns.columns held)) (sym c.in-Narrow.is)
    (numbers_apart g.R.Number.Number.limit c.in-Narrow.field-0 c.in-Narrow.numbers.keys (subst (IsSound g.R.Number.Number.limit) c.in-Narrow.is c.requires) c.len.ensures.unique)

pub returns-in-Wide-clause-apart : goal.returns-in-Wide-clause-apart
returns-in-Wide-clause-apart g c =
    subst (λ held. Apart same_row (keys_of g.R.Columns.columns held)) (sym c.in-Wide.is)
    (rows_apart g.R.PartialEq.eq g.R.Columns.columns g.met.R.AnyRow.same c.in-Wide.rows.keys c.len-in-Wide.ensures.unique)
