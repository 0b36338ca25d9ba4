use Rattle.std.proofs.Common.{rules, sym, ◌∙◌}
use Rattle.std.proofs.lemmas.Bool.{eqb-true}
use Rattle.sn_fields.specs.contracts.field.Field.{the_type as field_type}
use Rattle.sn_query_grammar.specs.contracts.ast.Cmp.{the_type as cmp_type}
use Rattle.sn_lanes_narrow.proofs.MarkLemmas.{same_condition}
use Rattle.sn_lanes_narrow.proofs.condition.Condition.is.Goals as goal
use denote.Enum.Bare.{differs_false, tag_one}

pub returns-then-self-other : goal.returns-then-self-other
returns-then-self-other c e =
    let one = c.args.self.now in
    let other = c.args.other.now in
    same_condition one other
    (tag_one field_type (search rules) one.field other.field (sym c.number.ensures.number ∙ c.if-number.false ∙ c.number-2.ensures.number))
    c.if-self-other.true
    (differs_false cmp_type (search rules) one.cmp other.cmp (sym c.if-ne.ensures))
    (eqb-true one.constant other.constant e)
