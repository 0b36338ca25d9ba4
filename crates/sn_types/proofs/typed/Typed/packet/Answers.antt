use Rattle.std.proofs.Common.{List, ◌∙◌, sym, subst}
use Rattle.sn_fields.specs.declared.field.Field.{Field}
use Rattle.sn_types.specs.Kinds.{AreBelow}
use Rattle.sn_types.specs.Typed.{query_at, branch_at}
use Rattle.sn_types.proofs.TypedRows.{of_fields, same_packet_row}
use Rattle.sn_types.proofs.typed.Typed.packet.Goals as goal

pub row-requires : goal.row-requires
row-requires g c = subst (λ (fields : List Field). AreBelow g.N.Number.limit fields) (sym c.packets.ensures.fields) c.requires.below

pub returns-clause-row : goal.returns-clause-row
returns-clause-row g c =
    let queries = c.args.self.now.queries in
    let made = c.packets.result in
    c.row.ensures.row
    ∙ same_packet_row made.refined (query_at queries c.args.q).field made.level c.args.level made.fields.now (branch_at queries c.args.q c.args.b).fields c.args.tuple.now
    c.packets.ensures.refined c.packets.ensures.level c.packets.ensures.fields

pub returns-clause-columns : goal.returns-clause-columns
returns-clause-columns g c =
    of_fields c.args.self.now.window_us c.args.self.now.queries c.args.q c.args.b c.packets.result.fields.now c.row.result c.args.self.now.typed c.requires.query c.requires.branch
    c.packets.ensures.fields c.row.ensures.columns
