use Rattle.std.proofs.Common.{sym, ap, ◌∙◌, suc, Some}
use Rattle.sn_engine.specs.Moving.{keeps_columns}
use Rattle.sn_types.specs.Typed.{schema_at}
use Rattle.sn_engine.proofs.Moves.{own_widths}
use Rattle.sn_engine.proofs.moving.keeps_columns.Goals as goal

pub returns-in-Partial : goal.returns-in-Partial
returns-in-Partial c =
    let schemas = c.args.schemas.now in
    sym (ap (keeps_columns schemas) (c.in-Some.is ∙ ap Some c.in-Partial.is) ∙ own_widths (schema_at schemas (suc c.in-Partial.field-0)))
