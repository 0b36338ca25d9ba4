use Rattle.std.proofs.Common.{ℕ, ap, ◌∙◌}
use Rattle.sn_out.specs.Text.{answer_text}
use Rattle.sn_types.specs.Typed.{query_at}
use Rattle.sn_top.specs.Answers.{plain_rows}
use Rattle.sn_top.proofs.answers.part.Goals as goal

pub returns-clause-text : goal.returns-clause-text
returns-clause-text c tuples taken =
    let s = c.args.stream in
    let query = query_at c.args.t.now.queries s.q in
    ap (answer_text query s.level) (c.in_ok-rows.ensures.rows tuples taken) ∙ ap (λ (level : ℕ). answer_text query level (plain_rows query tuples)) c.requires.level
