use Rattle.std.proofs.Common.{Some, option_map, ap, sym, ◌∙◌}
use Rattle.sn_fields.specs.Tuples.{field_of}
use Rattle.sn_test_callers.proofs.fields.number_named.Goals as goal

pub returns-in-Some : goal.returns-in-Some
returns-in-Some c =
    ap Some (c.get.ensures.value ∙ c.tuple_of.ensures.each c.in-Some.field)
    ∙ sym (ap (option_map (field_of c.args.link c.args.wire c.args.bytes.now)) (sym c.field_named.ensures.found ∙ c.in-Some.is))
