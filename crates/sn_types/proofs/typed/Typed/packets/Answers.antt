use Rattle.std.proofs.Common.{◌≤◌, sym, IfSome, subst, Option}
use Rattle.sn_fields.specs.declared.field.Field.{Field}
use Rattle.sn_fields.specs.Fields.{width_of}
use Rattle.sn_types.proofs.Facts.{level_of_field}
use Rattle.sn_types.proofs.WholeLevels.{lower_fits}
use Rattle.sn_types.proofs.typed.Typed.packets.Goals as goal

pub invariant_of-result : goal.invariant_of-result
invariant_of-result c =
    let refined = c.refine_field-refined.result in
    let fits : IfSome refined (λ other. c.args.level ≤ width_of other) =
    subst (λ (o : Option Field). IfSome o (λ other. c.args.level ≤ width_of other)) (sym c.refine_field-refined.ensures)
    (level_of_field c.args.self.now.window_us c.args.self.now.queries c.args.q c.args.level c.args.self.now.typed c.requires.query c.requires.level) in
    record {
      few = c.packet_fields.ensures.few;
      within = lower_fits refined c.args.level c.masking.result c.masking.ensures.least fits;
      same = c.masking.ensures.same c.packet_fields.result.now;
    }
