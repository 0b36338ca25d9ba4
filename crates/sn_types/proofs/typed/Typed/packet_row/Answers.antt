use Rattle.sn_types.proofs.Facts.{level_of_field}
use Rattle.std.proofs.Common.{◌≤◌, List, sym, IfSome, subst, Option}
use Rattle.sn_fields.specs.declared.field.Field.{Field}
use Rattle.sn_fields.specs.Fields.{width_of}
use Rattle.sn_types.specs.Kinds.{AreBelow}
use Rattle.sn_types.proofs.TypedRows.{of_fields}
use Rattle.sn_types.proofs.typed.Typed.packet_row.Goals as goal

pub row_of-requires-clause-level : goal.row_of-requires-clause-level
row_of-requires-clause-level g c = subst (λ (o : Option Field). IfSome o (λ other. c.args.level ≤ width_of other)) (sym c.refine_field.ensures) (level_of_field c.args.self.now.window_us c.args.self.now.queries c.args.q c.args.level c.args.self.now.typed c.requires.query c.requires.level)

pub row_of-requires-clause-below : goal.row_of-requires-clause-below
row_of-requires-clause-below g c = subst (λ (fields : List Field). AreBelow g.R.Number.Number.limit fields) (sym c.packet_fields.ensures.fields) c.requires.below

pub returns-clause-columns : goal.returns-clause-columns
returns-clause-columns g c =
    of_fields c.args.self.now.window_us c.args.self.now.queries c.args.q c.args.b c.packet_fields.result.now (g.R.Columns.columns c.row_of.result) c.args.self.now.typed c.requires.query c.requires.branch c.packet_fields.ensures.fields c.row_of.ensures.columns
