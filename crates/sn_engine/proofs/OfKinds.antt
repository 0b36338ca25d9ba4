-- Items over rows that are lists of numbers are themselves by their columns.
use Rattle.std.proofs.Common.{◌≡◌, List, [], ◌∷◌, map, refl, ap}
use Rattle.sn_base.specs.Groups.{Row}
use Rattle.sn_report.specs.Items.{Item, item_by}

pub same_items : (items : List Item) → map (item_by (λ (row : Row). row)) items ≡ items
same_items [] = refl
same_items (x ∷ xs) = ap (λ (ys : List Item). x ∷ ys) (same_items xs)
