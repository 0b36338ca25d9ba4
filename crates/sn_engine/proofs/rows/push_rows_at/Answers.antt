use Rattle.std.proofs.Common.{List, ◌++◌, sym, ap, ◌∙◌, append-nil, inl, inr}
use Rattle.sn_base.specs.Groups.{Row}
use Rattle.sn_engine.specs.Spans.{IsOutside}
use Rattle.sn_engine.proofs.rows.push_rows_at.Goals as goal
use Rattle.sn_engine.proofs.rows.push_rows_at.Goals.{then-operator-span-via-then-operator-span, then-operator-span-via-else-operator-span+then-span-operator}

pub returns-then-operator-span : goal.returns-then-operator-span
returns-then-operator-span g c =
    let rows = c.args.rows.now in
    let outside : IsOutside c.args.operator c.args.span =
    elim c.then-operator-span.branch [
      | then-operator-span-via-then-operator-span w ↦ inl w.if-operator-span.true
      | then-operator-span-via-else-operator-span+then-span-operator w ↦ inr w.if-span-operator.true
    ] in
    sym (ap (λ (found : List Row). rows ++ found) (c.requires c.args.operator outside) ∙ append-nil rows)
