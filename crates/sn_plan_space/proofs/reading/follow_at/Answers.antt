use Rattle.std.proofs.Common.{◌∙◌, ap}
use Rattle.std.proofs.lemmas.List.{nil_from_length}
use Rattle.sn_tree_space.specs.declared.follow.Follow.TheVariants.{Choices}
use Rattle.sn_plan_space.proofs.Reaching.{follow_piece, follow_query}
use Rattle.sn_plan_space.proofs.reading.follow_at.Goals as goal

pub returns-in-Some-split_first-clause-value : goal.returns-in-Some-split_first-clause-value
returns-in-Some-split_first-clause-value c = λ s entry a e h.
    ap (λ k. Choices 0 k) c.options_in.ensures
    ∙ follow_piece s entry a c.args.position c.in-Some-split_first.piece.now c.in-Some-split_first.field-0-1.now c.in_default.is c.in-Some-split_first.ensures.cases.0 h

pub returns-in-Some-split_first-2-clause-value : goal.returns-in-Some-split_first-2-clause-value
returns-in-Some-split_first-2-clause-value c = λ s entry a e h.
    ap (λ k. Choices 0 k) c.paths_in.ensures
    ∙ follow_query s entry a c.args.position c.in-Some-split_first-2.query.now c.in-Some-split_first-2.field-0-1.now c.in_default.is
    (nil_from_length c.args.position.pieces.now c.in_default-split_first.ensures.cases) c.in-Some-split_first-2.ensures.cases.0 h
