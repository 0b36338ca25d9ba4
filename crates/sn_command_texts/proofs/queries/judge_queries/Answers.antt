use Rattle.std.proofs.Common.{Ok, Err, refl, subst}
use Rattle.sn_types_read.specs.declared.fault.Refused.{Refused}
use Rattle.sn_types_read.specs.Texts.{IsRead, IsRefusedFor}
use Rattle.sn_command_texts.specs.Queries.{queries_of}
use Rattle.sn_command_texts.proofs.queries.judge_queries.Goals as goal

pub returns-in-Ok : goal.returns-in-Ok
returns-in-Ok c = record { found = Ok (queries_of c.in-Ok.typed); is = c.in-Ok.ensures.found; same = refl }

pub returns-in-Err-Fault : goal.returns-in-Err-Fault
returns-in-Err-Fault c =
    let refused : IsRead c.args.text.now (Err c.in-Err-Fault.fault) = subst (λ (r : Refused). IsRefusedFor c.args.text.now r) c.in-Err-Fault.field-0-is c.in-Err-Fault.ensures.refused in
    record { found = Err c.in-Err-Fault.fault; is = refused; same = refl }
