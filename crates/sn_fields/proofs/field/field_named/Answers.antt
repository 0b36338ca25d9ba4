use Rattle.sn_fields.proofs.Naming.{with_name_all, with_name_none}
use Rattle.sn_fields.proofs.field.field_named.Goals as goal

pub returns-clause-all : goal.returns-clause-all
returns-clause-all c field same = with_name_all c.args.name.now c.first_named.result c.first_named.ensures.found field same

pub returns-clause-none : goal.returns-clause-none
returns-clause-none c =
    with_name_none c.args.name.now c.first_named.result c.first_named.ensures.named
    (λ field same. with_name_all c.args.name.now c.first_named.result c.first_named.ensures.found field same)
