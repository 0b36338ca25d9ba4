use Rattle.std.proofs.Common.{ℕ, List, ◌++◌, true, ap, ap₂, ◌∙◌}
use Rattle.sn_out.specs.Text.{block_text}
use Rattle.sn_command_run.specs.Planned.{Planned}
use Rattle.sn_types.specs.declared.answers.Answers.{Answers}
use Rattle.sn_types.specs.declared.typed_query.TypedQuery.{TypedQuery}
use Rattle.sn_command_run.proofs.trace_answering.TracedAnswering.close.Goals as goal

pub returns-clause-text : goal.returns-clause-text
returns-clause-text g c = λ closed tuples some h.
    let e = c.in_ok-lines.ensures in
    c.in_ok-text.ensures ∙ ap₂ (λ (before block : List ℕ). before ++ block) (e.lines closed tuples some h)
    (ap₂ (λ (asked : List TypedQuery) (reported : Answers). block_text asked reported true) (ap (λ (p : Planned). p.queries) e.plan) (e.answers closed tuples some h))
