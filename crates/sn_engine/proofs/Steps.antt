-- One item more, as the loops take it.
use Rattle.std.proofs.Common.{◌≡◌, ℕ, ◌+◌, ◌<◌, List, [], ◌∷◌, ◌++◌, map, filter, take, length, get_or, Bool, true, false, ap, sym, ◌∙◌}
use Rattle.std.proofs.lemmas.List.{map-append}
use Rattle.sn_pipe_items.specs.Value.{rows_with}
use Rattle.sn_ops.proofs.Steps.{filter_passed, filter_refused}
use Rattle.sn_report.specs.Items.{Item}
use Rattle.sn_report.specs.declared.frame.Tag.{Tag}

pub rows_passed : (t : Tag → Bool) (items : List Item) (i : ℕ) (item : Item) → i < length items → item ≡ get_or items i item → t item.tag ≡ true → rows_with t (take i items) ++ item.row ∷ [] ≡ rows_with t (take (i + 1) items)
rows_passed t items i item within at is =
    sym (map-append (λ (x : Item). x.row) (filter (λ x. t x.tag) (take i items)) (item ∷ [])) ∙ ap (map (λ (x : Item). x.row)) (filter_passed (λ (x : Item). t x.tag) items i item within at is)

pub rows_refused : (t : Tag → Bool) (items : List Item) (i : ℕ) (item : Item) → i < length items → item ≡ get_or items i item → t item.tag ≡ false → rows_with t (take i items) ≡ rows_with t (take (i + 1) items)
rows_refused t items i item within at isnt = ap (map (λ (x : Item). x.row)) (filter_refused (λ (x : Item). t x.tag) items i item within at isnt)
