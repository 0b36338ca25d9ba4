use Rattle.std.proofs.Common.{◌≡◌, ℕ, ◌^◌, ◌<◌, List, [], ◌∷◌, Bool, true, Some, None, cond, ap, sym, ◌∙◌, arith}
use Rattle.sn_base.proofs.Lists.{not_true}
use Rattle.sn_table.specs.Narrow.{is_narrow, number_of}
use Rattle.sn_table.proofs.ShortRows.{two_fit, two_within, two_joined}
use Rattle.sn_table.proofs.narrow.number_of_two.Goals as goal
use Rattle.sn_table.proofs.narrow.number_of_two.Goals.{then-first-ge-LIMIT-via-then-first-ge-LIMIT, then-first-ge-LIMIT-via-else-first-ge-LIMIT+then-second-ge-LIMIT}

pub returns-then-first-ge-LIMIT : goal.returns-then-first-ge-LIMIT
returns-then-first-ge-LIMIT c =
    let row : List ℕ = c.args.first ∷ c.args.second ∷ [] in
    let wide = not_true (is_narrow 2 row) (λ (fit : is_narrow 2 row ≡ true).
    let within = two_within c.args.first c.args.second fit in
    elim c.then-first-ge-LIMIT.branch [
      | then-first-ge-LIMIT-via-then-first-ge-LIMIT w ↦ omega (arith, within.first_within)
      | then-first-ge-LIMIT-via-else-first-ge-LIMIT+then-second-ge-LIMIT w ↦ omega (arith, within.second_within)
    ]) in
    sym (ap (λ (b : Bool). cond b (Some (number_of 2 row)) None) wide)

pub returns : goal.returns
returns c =
    let row : List ℕ = c.args.first ∷ c.args.second ∷ [] in
    let low : c.args.first < 2 ^ 64 = c.if-first-ge-LIMIT.false in
    let high : c.args.second < 2 ^ 64 = c.if-second-ge-LIMIT.false in
    ap Some (two_joined c.args.first c.args.second low high)
    ∙ sym (ap (λ (b : Bool). cond b (Some (number_of 2 row)) None) (two_fit c.args.first c.args.second low high))
