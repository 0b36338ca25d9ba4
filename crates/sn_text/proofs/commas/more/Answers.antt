use Rattle.std.proofs.Common.{◌≡◌, true, false, [], sym, ap, subst, ◌∙◌, arith, length}
use Rattle.std.specs.Prelude.{nat_le}
use Rattle.std.proofs.lemmas.Result.{err_from_is_err_and}
use Rattle.sn_text_rules.specs.Rules.{kept, links}
use Rattle.sn_text_rules.specs.Tokens.{fails}
use Rattle.sn_text_rules.specs.Words.{is_symbol, never, after_comma}
use Rattle.sn_text.specs.Lexing.{left, seen, token_of}
use Rattle.sn_text.specs.Reading.{Halts}
use Rattle.sn_text.proofs.Turns.{comma_over, comma_turns, comma_stops, comma_past, comma_shorter}
use Rattle.sn_text.proofs.Loops.{halts_as}
use Rattle.sn_text.proofs.commas.more.Goals as goal

pub returns-then-not-is_the_symbol : goal.returns-then-not-is_the_symbol
returns-then-not-is_the_symbol g c =
    let L = g.L.Commas in
    let d : is_symbol 3 (seen c.scan.result.0.piece) ≡ false = cc in
    sym c.items.invariant ∙ comma_over L.limit L.begun L.rule g.met.L.Commas.laws c.items.items (left c.items.place) (left c.scan.result.1) (token_of c.scan.result.0) c.scan.ensures d

pub returns-then-is_full : goal.returns-then-is_full
returns-then-is_full g c =
    let L = g.L.Commas in
    let d : is_symbol 3 (seen c.scan.result.0.piece) ≡ true = cc in
    let f : nat_le L.limit (length c.items.items) ≡ true = ap (λ xs. nat_le L.limit (length xs)) (sym c.as_slice.ensures) ∙ sym c.is_full.ensures ∙ c.if-is_full.true in
    sym c.items.invariant
    ∙ comma_past L.limit L.begun L.rule g.met.L.Commas.laws c.items.items (left c.items.place) (left c.scan.result.1) (left c.scan-then-is_full.result.1) (token_of c.scan.result.0) (token_of c.scan-then-is_full.result.0) [] c.scan.ensures d f c.scan-then-is_full.ensures
    ∙ ap (λ x. fails x (left c.scan.result.1)) (sym c.past.ensures)

pub returns-in_err-item : goal.returns-in_err-item
returns-in_err-item g c =
    let L = g.L.Commas in
    let r = err_from_is_err_and c.from_residual.result c.from_residual.ensures.1 in
    let d : is_symbol 3 (seen c.scan.result.0.piece) ≡ true = cc in
    let f : nat_le L.limit (length c.items.items) ≡ false = ap (λ xs. nat_le L.limit (length xs)) (sym c.as_slice.ensures) ∙ sym c.is_full.ensures ∙ c.if-is_full.false in
    rw (r.1, r.2) (halts_as c.in_err-item.field-0.0 (links (is_symbol 3) never (after_comma L.limit L.begun L.rule) kept c.items.items (left c.items.place)) (links (is_symbol 3) never (after_comma L.limit L.begun L.rule) kept c.args.first (left c.args.at)) (sym c.items.invariant)
    (comma_stops L.limit L.begun L.rule g.met.L.Commas.laws c.items.items (left c.items.place) (left c.scan.result.1) (token_of c.scan.result.0) c.in_err-item.field-0.0 c.scan.ensures d f
    (subst (λ x. Halts c.in_err-item.field-0.0 ((L.rule x).read kept (left c.scan.result.1))) c.as_slice-in-items.ensures c.in_err-item.ensures)))

pub items-smaller : goal.items-smaller
items-smaller g c =
    let L = g.L.Commas in
    let d : is_symbol 3 (seen c.scan.result.0.piece) ≡ true = cc in
    let f : nat_le L.limit (length c.items.items) ≡ false = ap (λ xs. nat_le L.limit (length xs)) (sym c.as_slice.ensures) ∙ sym c.is_full.ensures ∙ c.if-is_full.false in
    let less = comma_shorter L.limit L.begun L.rule g.met.L.Commas.laws c.items.items (left c.items.place) (left c.scan.result.1) (left c.in_ok-item.rest) (token_of c.scan.result.0) c.in_ok-item.item c.scan.ensures d f
    (ap (λ x. (L.rule x).read kept (left c.scan.result.1)) (sym c.as_slice-in-items.ensures) ∙ c.in_ok-item.ensures) in
    omega (arith, less)

pub items-preserved : goal.items-preserved
items-preserved g c =
    let L = g.L.Commas in
    let d : is_symbol 3 (seen c.scan.result.0.piece) ≡ true = cc in
    let f : nat_le L.limit (length c.items.items) ≡ false = ap (λ xs. nat_le L.limit (length xs)) (sym c.as_slice.ensures) ∙ sym c.is_full.ensures ∙ c.if-is_full.false in
    rw c.in_ok-push.ensures.ok (sym (comma_turns L.limit L.begun L.rule g.met.L.Commas.laws c.items.items (left c.items.place) (left c.scan.result.1) (left c.in_ok-item.rest) (token_of c.scan.result.0) c.in_ok-item.item c.scan.ensures d f
    (ap (λ x. (L.rule x).read kept (left c.scan.result.1)) (sym c.as_slice-in-items.ensures) ∙ c.in_ok-item.ensures)) ∙ c.items.invariant)
