use Rattle.std.proofs.Common.{◌≡◌, ℕ, List, Option, Some, ap, sym, ◌∙◌, subst}
use Rattle.sn_fields.specs.declared.field.Field.{Field}
use Rattle.sn_types.specs.Typed.{packet_row}
use Rattle.sn_types.proofs.WholeLevels.{whole_level}
use Rattle.sn_types.proofs.packet.masking.Goals as goal

pub returns-in-Some-clause-same : goal.returns-in-Some-clause-same
returns-in-Some-clause-same c fields tuple =
    let field = c.in-Some.field in
    subst (λ (o : Option Field). packet_row o 0 fields tuple ≡ packet_row o c.args.level fields tuple) (sym c.in-Some.is)
    (whole_level field fields tuple ∙ ap (λ (l : ℕ). packet_row (Some field) l fields tuple) (sym c.width.ensures ∙ c.if-width-level.true))
