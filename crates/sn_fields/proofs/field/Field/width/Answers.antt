use Rattle.std.proofs.Common.{◌≡◌, ℕ, zero, suc, List, [], ◌∷◌, map, get_or, refl, ap, sym, ◌∙◌}
use Rattle.sn_fields.specs.Fields.{Row, rows, number_of, row_of}
use Rattle.sn_fields.proofs.field.Field.width.Goals as goal

-- the width in the row at a place of the table is that at this place of all widths
width_at : {A B C : Type 0} (xs : List (A × B × ℕ × C)) (i : ℕ) (d : A × B × ℕ × C) → (get_or xs i d).2 ≡ get_or (map (λ r. r.2) xs) i d.2
width_at [] i d = refl
width_at (x ∷ xs) zero d = refl
width_at (x ∷ xs) (suc i) d = width_at xs i d

row_width : (xs : List Row) (i : ℕ) (d : Row) → (get_or xs i d).width ≡ get_or (map (λ (r : Row). r.width) xs) i d.width
row_width [] i d = refl
row_width (x ∷ xs) zero d = refl
row_width (x ∷ xs) (suc i) d = row_width xs i d

pub returns : goal.returns
unfolding row_of
returns c =
    width_at c.table.result.now c.number.result _
    ∙ ap (λ widths. get_or widths c.number.result 0) c.table.ensures.widths
    ∙ ap (λ i. get_or (map (λ (r : Row). r.width) rows) i 0) c.number.ensures.number
    ∙ sym (row_width rows (number_of c.args.self) _)
