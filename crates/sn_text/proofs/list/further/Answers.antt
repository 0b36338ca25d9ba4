use Rattle.std.proofs.Common.{◌≡◌, true, false, Some, None, sym, ap, subst, ◌∙◌, arith}
use Rattle.std.proofs.lemmas.Result.{err_from_is_err_and}
use Rattle.sn_text_rules.specs.Rules.{kept, links}
use Rattle.sn_text.specs.Lexing.{left}
use Rattle.sn_text.specs.Reading.{Peeked, Halts}
use Rattle.sn_text.proofs.Loops.{over, turns, stops_at, shuts, shorter, halts_as}
use Rattle.sn_text.proofs.list.further.Goals as goal

pub returns-then-not-begins : goal.returns-then-not-begins
returns-then-not-begins g c =
    let L = g.L.Items in
    let b : c.begins.result ≡ false = cc in
    let p : Peeked false (L.goes c.args.list.now) (left c.items.place) = subst (λ x. Peeked x (L.goes c.args.list.now) (left c.items.place)) b c.begins.ensures in
    sym c.items.invariant ∙ over (g.met.L.Items.laws c.args.list.now) c.items.items (left c.items.place) p

pub returns-in-Some : goal.returns-in-Some
returns-in-Some g c =
    let L = g.L.Items in
    let b : c.begins.result ≡ true = cc in
    let p : Peeked true (L.goes c.args.list.now) (left c.items.place) = subst (λ x. Peeked x (L.goes c.args.list.now) (left c.items.place)) b c.begins.ensures in
    let s : L.shut c.args.list.now c.items.items ≡ Some c.in-Some.flaw = ap (L.shut c.args.list.now) (sym c.as_slice.ensures) ∙ sym c.shut_by.ensures ∙ c.in-Some.is in
    sym c.items.invariant ∙ shuts (g.met.L.Items.laws c.args.list.now) c.items.items (left c.items.place) c.in-Some.flaw p s

pub returns-in_err-item-in-None : goal.returns-in_err-item-in-None
returns-in_err-item-in-None g c =
    let L = g.L.Items in
    let r = err_from_is_err_and c.from_residual.result c.from_residual.ensures.1 in
    let b : c.begins.result ≡ true = cc in
    let p : Peeked true (L.goes c.args.list.now) (left c.items.place) = subst (λ x. Peeked x (L.goes c.args.list.now) (left c.items.place)) b c.begins.ensures in
    let s : L.shut c.args.list.now c.items.items ≡ None = ap (L.shut c.args.list.now) (sym c.as_slice.ensures) ∙ sym c.shut_by.ensures ∙ c.in-None.is in
    rw (r.1, r.2) (halts_as c.in_err-item-in-None.field-0.0 (links (L.goes c.args.list.now) (L.shut c.args.list.now) (L.rule c.args.list.now) kept c.items.items (left c.items.place)) (links (L.goes c.args.list.now) (L.shut c.args.list.now) (L.rule c.args.list.now) kept c.args.first (left c.args.at)) (sym c.items.invariant)
    (stops_at (g.met.L.Items.laws c.args.list.now) c.items.items (left c.items.place) c.in_err-item-in-None.field-0.0 p s (subst (λ x. Halts c.in_err-item-in-None.field-0.0 ((L.rule c.args.list.now x).read kept (left c.items.place))) c.as_slice-in-None.ensures c.in_err-item-in-None.ensures)))

pub items-smaller : goal.items-smaller
items-smaller g c =
    let L = g.L.Items in
    let less = shorter (g.met.L.Items.laws c.args.list.now) c.items.items (left c.items.place) (left c.in_ok-item-in-None.after) c.in_ok-item-in-None.item (ap (λ x. (L.rule c.args.list.now x).read kept (left c.items.place)) (sym c.as_slice-in-None.ensures) ∙ c.in_ok-item-in-None.ensures) in
    omega (arith, less)

pub items-preserved : goal.items-preserved
items-preserved g c =
    let L = g.L.Items in
    let b : c.begins.result ≡ true = cc in
    let p : Peeked true (L.goes c.args.list.now) (left c.items.place) = subst (λ x. Peeked x (L.goes c.args.list.now) (left c.items.place)) b c.begins.ensures in
    let s : L.shut c.args.list.now c.items.items ≡ None = ap (L.shut c.args.list.now) (sym c.as_slice.ensures) ∙ sym c.shut_by.ensures ∙ c.in-None.is in
    rw c.in_ok-push-in-None.ensures.ok (sym (turns (g.met.L.Items.laws c.args.list.now) c.items.items (left c.items.place) (left c.in_ok-item-in-None.after) c.in_ok-item-in-None.item p s (ap (λ x. (L.rule c.args.list.now x).read kept (left c.items.place)) (sym c.as_slice-in-None.ensures) ∙ c.in_ok-item-in-None.ensures)) ∙ c.items.invariant)
