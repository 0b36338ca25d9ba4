use Rattle.std.proofs.Common.{ap, ◌∙◌, sym, subst, slice_index, ℕ, ◌<◌, ◌^◌, List}
use Rattle.sn_fields.specs.Fields.{number_of, width_of}
use Rattle.sn_fields.proofs.Ranges.{all_bytes, tuple_below}
use Rattle.sn_fields.proofs.Walked.{field_at}
use Rattle.sn_fields.proofs.Fronts.{tuple_front}
use Rattle.sn_fields.proofs.tuple.tuple_of.Goals as goal

pub returns-clause-fields : goal.returns-clause-fields
returns-clause-fields c = c.after_link.ensures c.args.link c.link_part-frame.ensures

pub returns-clause-each : goal.returns-clause-each
returns-clause-each c field =
    ap (λ numbers. slice_index numbers (number_of field)) (returns-clause-fields c) ∙ field_at c.args.link c.args.wire c.args.bytes.now field

pub returns-clause-front : goal.returns-clause-front
returns-clause-front c = returns-clause-fields c ∙ sym (tuple_front c.args.link c.args.wire c.args.bytes.now)

pub returns-clause-widths : goal.returns-clause-widths
returns-clause-widths c field =
    let bytes : List ℕ = c.args.bytes.now in
    subst (λ (numbers : List ℕ). slice_index numbers (number_of field) < 2 ^ width_of field) (sym (returns-clause-fields c))
    (tuple_below c.args.link c.args.wire bytes c.ranges.wire.fits (all_bytes bytes (λ i. (c.type_inv.bytes i).fits)) field)
