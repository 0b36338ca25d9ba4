use Rattle.std.proofs.Common.{◌≡◌, drop, map, nat_eq}
use Rattle.std.specs.List.{find}
use Rattle.std.specs.Cmp.Lexicographic.{pointwise}
use Rattle.sn_fields.specs.Fields.{name_of}
use Rattle.sn_fields.proofs.field.first_named.Given as goal

-- what is found is found among the rows that are left
abbrev pub invariant-loop-row : goal.invariant-loop-row
invariant-loop-row l =
    find (λ f. pointwise nat_eq (name_of f) l.name) (map (λ row. row.0) l.rows)
    ≡ find (λ f. pointwise nat_eq (name_of f) l.name) (map (λ row. row.0) (drop l.row-index l.rows))
