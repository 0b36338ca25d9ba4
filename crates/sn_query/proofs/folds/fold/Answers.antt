use Rattle.std.proofs.Common.{true, false, sym, ap, subst, ◌∙◌}
use Rattle.std.specs.Prelude.{codes}
use Rattle.std.proofs.lemmas.Result.{err_from_is_err_and}
use Rattle.sn_text_rules.specs.Rules.{kept}
use Rattle.sn_text_rules.specs.Words.{is_word}
use Rattle.sn_text.specs.Lexing.{left}
use Rattle.sn_text.specs.Reading.{Peeked, Halts}
use Rattle.sn_query.specs.Parts.{column_rule}
use Rattle.sn_query.proofs.FoldParts.{sum_no_number, sum_value, other_no_column}
use Rattle.sn_query.proofs.folds.fold.Goals as goal

pub returns-in_err-width : goal.returns-in_err-width
returns-in_err-width c =
    let p : Peeked true (is_word (codes "sum")) (left c.args.at) = subst (λ b. Peeked b (is_word (codes "sum")) (left c.args.at)) c.if-next_is_word.true c.next_is_word.ensures in
    let r = err_from_is_err_and c.from_residual-in_err-width.result c.from_residual-in_err-width.ensures.1 in
    let column = ap (λ k. (column_rule k).read kept (left c.in_ok-rest.rest)) (sym c.as_slice.ensures) ∙ c.in-Ok.ensures in
    rw (r.1, r.2) (sum_no_number c.args.keys (left c.args.at) p (left c.in_ok-rest.rest) (left c.in-Ok.found.1) (left c.in_ok-rest-2.rest) c.in-Ok.found.0 c.in_err-width.field-0.0 c.in_ok-rest.ensures column c.in_ok-rest-2.ensures c.in_err-width.ensures.value)

pub returns-then-next_is_word : goal.returns-then-next_is_word
returns-then-next_is_word c =
    let p : Peeked true (is_word (codes "sum")) (left c.args.at) = subst (λ b. Peeked b (is_word (codes "sum")) (left c.args.at)) c.if-next_is_word.true c.next_is_word.ensures in
    let column = ap (λ k. (column_rule k).read kept (left c.in_ok-rest.rest)) (sym c.as_slice.ensures) ∙ c.in-Ok.ensures in
    sum_value c.args.keys (left c.args.at) p (left c.in_ok-rest.rest) (left c.in-Ok.found.1) (left c.in_ok-rest-2.rest) (left c.in_ok-width.rest) c.in-Ok.found.0 c.in_ok-width.width c.in_ok-rest.ensures column c.in_ok-rest-2.ensures c.in_ok-width.ensures.value

pub returns-in-Err-column : goal.returns-in-Err-column
returns-in-Err-column c =
    let p : Peeked false (is_word (codes "sum")) (left c.args.at) = subst (λ b. Peeked b (is_word (codes "sum")) (left c.args.at)) c.if-next_is_word.false c.next_is_word.ensures in
    other_no_column c.args.keys (left c.args.at) p (left c.in_ok-fold.rest) c.in_ok-fold.fold c.in-Err-column.stop c.in_ok-fold.ensures
    (subst (λ k. Halts c.in-Err-column.stop ((column_rule k).read kept (left c.in_ok-fold.rest))) c.as_slice-2.ensures c.in-Err-column.ensures)
