-- No two keys of a set stand for one row.
use Rattle.std.proofs.Common.{◌≡◌, ℕ, List, [], ◌∷◌, map, Bool, false, nat_eq, sym, ◌∙◌}
use Rattle.std.specs.List.{AllByRecursion, IsDistinct}
use Rattle.std.proofs.lemmas.Map.Keys.{IsDistinct-head, IsDistinct-tail}
use Rattle.sn_base.specs.Groups.{Row, Apart, same_row}
use Rattle.sn_table.specs.Narrow.{columns_of, IsShort, AreShort}
use Rattle.sn_table.proofs.NarrowKeys.{held_alone, held_for}

-- none of these stands for the same
none_decoded : {A : Type 0} (here : A → A → Bool) (seen : A → Row) (P : A → Type 0) (a : A) → ((b : A) → P b → same_row (seen a) (seen b) ≡ here a b)
    → (ks : List A) → AllByRecursion P ks → AllByRecursion (λ b. here a b ≡ false) ks → AllByRecursion (λ row. same_row (seen a) row ≡ false) (map seen ks)
none_decoded here seen P a agree [] all none = tt
none_decoded here seen P a agree (k ∷ ks) all none = (agree k all.0 ∙ none.0, none_decoded here seen P a agree ks all.1 none.1)

apart_decoded : {A : Type 0} (here : A → A → Bool) (seen : A → Row) (P : A → Type 0) → ((a b : A) → P a → P b → same_row (seen a) (seen b) ≡ here a b)
    → (ks : List A) → AllByRecursion P ks → IsDistinct here ks → Apart same_row (map seen ks)
apart_decoded here seen P agree [] all apart = tt
apart_decoded here seen P agree (k ∷ ks) all apart =
    (none_decoded here seen P k (λ b. agree k b all.0) ks all.1 (IsDistinct-head here k ks apart), apart_decoded here seen P agree ks all.1 (IsDistinct-tail here k ks apart))

-- numbers that differ stand for rows that differ
pub numbers_apart : (limit columns : ℕ) (ns : List ℕ) → AreShort limit columns ns → IsDistinct nat_eq ns → Apart same_row (map (columns_of columns) ns)
numbers_apart limit columns ns short apart =
    apart_decoded nat_eq (columns_of columns) (IsShort limit columns)
    (λ a b one other. held_alone columns a (columns_of columns a) (held_for columns a one.below) b other.below) ns short.each apart

-- rows that differ have columns that differ
pub rows_apart : {R : Type 0} (eq : R → R → Bool) (seen : R → Row) → ((a b : R) → eq a b ≡ same_row (seen a) (seen b)) → (ks : List R) → IsDistinct eq ks → Apart same_row (map seen ks)
rows_apart eq seen same ks apart =
    apart_decoded eq seen (λ k. Unit {0}) (λ a b one other. sym (same a b)) ks (any_kind ks) apart
  where
    any_kind : {R : Type 0} (ks : List R) → AllByRecursion (λ k. Unit {0}) ks
    any_kind [] = tt
    any_kind (k ∷ ks) = (tt, any_kind ks)
