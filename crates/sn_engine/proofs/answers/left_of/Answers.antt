use Rattle.std.proofs.Common.{ℕ, Option, ap, sym, ◌∙◌}
use Rattle.sn_types.specs.Typed.{branch_of, query_at}
use Rattle.sn_engine_split.specs.Opened.{left_in}
use Rattle.sn_engine.specs.Keeping.{with_bits}
use Rattle.sn_engine.proofs.Lefts.{nothing_dropped}
use Rattle.sn_engine.proofs.answers.left_of.Goals as goal

pub returns-in-None : goal.returns-in-None
returns-in-None c =
    let x = c.args.x.now in
    let query = query_at c.args.t.now.queries x.query in
    sym (ap (λ (o : Option ℕ). left_in query x.branch (with_bits o c.args.members.now) x.items) c.in-None.is ∙ nothing_dropped query.field (branch_of query x.branch) x.items)
