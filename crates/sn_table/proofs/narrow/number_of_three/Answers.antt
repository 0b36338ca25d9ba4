use Rattle.std.proofs.Common.{◌≡◌, ℕ, ◌^◌, ◌<◌, List, [], ◌∷◌, Bool, true, Some, None, cond, ap, sym, ◌∙◌, arith}
use Rattle.sn_base.proofs.Lists.{not_true}
use Rattle.sn_table.specs.Narrow.{is_narrow, number_of}
use Rattle.sn_table.proofs.ShortRows.{three_fit, three_within, three_joined}
use Rattle.sn_table.proofs.narrow.number_of_three.Goals as goal
use Rattle.sn_table.proofs.narrow.number_of_three.Goals.{then-first-ge-LIMIT-via-then-first-ge-LIMIT, then-first-ge-LIMIT-via-else-first-ge-LIMIT+then-second-ge-LIMIT, then-first-ge-LIMIT-via-else-first-ge-LIMIT+else-second-ge-LIMIT+then-third-ge-LIMIT}

pub returns-then-first-ge-LIMIT : goal.returns-then-first-ge-LIMIT
returns-then-first-ge-LIMIT c =
    let row : List ℕ = c.args.first ∷ c.args.second ∷ c.args.third ∷ [] in
    let wide = not_true (is_narrow 3 row) (λ (fit : is_narrow 3 row ≡ true).
    let within = three_within c.args.first c.args.second c.args.third fit in
    elim c.then-first-ge-LIMIT.branch [
      | then-first-ge-LIMIT-via-then-first-ge-LIMIT w ↦ omega (arith, within.first_within)
      | then-first-ge-LIMIT-via-else-first-ge-LIMIT+then-second-ge-LIMIT w ↦ omega (arith, within.second_within)
      | then-first-ge-LIMIT-via-else-first-ge-LIMIT+else-second-ge-LIMIT+then-third-ge-LIMIT w ↦ omega (arith, within.third_within)
    ]) in
    sym (ap (λ (b : Bool). cond b (Some (number_of 3 row)) None) wide)

pub returns : goal.returns
returns c =
    let row : List ℕ = c.args.first ∷ c.args.second ∷ c.args.third ∷ [] in
    let low : c.args.first < 2 ^ 42 = c.if-first-ge-LIMIT.false in
    let middle : c.args.second < 2 ^ 42 = c.if-second-ge-LIMIT.false in
    let high : c.args.third < 2 ^ 42 = c.if-third-ge-LIMIT.false in
    ap Some (three_joined c.args.first c.args.second c.args.third low middle high)
    ∙ sym (ap (λ (b : Bool). cond b (Some (number_of 3 row)) None) (three_fit c.args.first c.args.second c.args.third low middle high))
