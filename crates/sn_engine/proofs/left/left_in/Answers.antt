use Rattle.std.proofs.Common.{◌≡◌, Option, None, Some, ap, sym, ◌∙◌}
use Rattle.sn_fields.specs.declared.field.Field.{Field}
use Rattle.sn_types.specs.Typed.{branch_of, query_at}
use Rattle.sn_engine_split.specs.Opened.{keeps_in}
use Rattle.sn_pipe_items.specs.Left.{left_of}
use Rattle.sn_engine.proofs.Lefts.{all_dropped}
use Rattle.sn_engine.proofs.left.left_in.Goals as goal

pub returns-in-None : goal.returns-in-None
returns-in-None c =
    let query = query_at c.args.t.now.queries c.args.q in
    let branch = branch_of query c.args.b in
    let none : query.field ≡ None = sym c.refine_field.ensures ∙ c.in-None.is in
    c.new.ensures ∙ sym (ap (λ (field : Option Field). left_of (keeps_in field branch (Some (c.args.bits, c.args.members.now))) c.args.items.now) none
    ∙ all_dropped branch (c.args.bits, c.args.members.now) c.args.items.now)
