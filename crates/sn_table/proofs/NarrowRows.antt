-- The rows of a set, held as numbers.
use Rattle.std.proofs.Common.{◌≡◌, ℕ, ◌+◌, ◌<◌, ◌≤◌, List, [], ◌∷◌, ◌++◌, length, map, take, slice_get, cond, Some, nat_eq, ap, sym, subst, ◌∙◌}
use Rattle.std.specs.List.{AllByRecursion, IsDistinct, list_any, position_or_len}
use Rattle.indexmap.specs.IndexSet.{insert_key}
use Rattle.sn_base.specs.Groups.{Row, same_row}
use Rattle.sn_base.proofs.Lists.{map_one}
use Rattle.sn_table.specs.Narrow.{columns_of, IsShort, AreShort}
use Rattle.sn_table.proofs.Decoded.{any_decoded, insert_key_decoded, all_inserted_key}
use Rattle.sn_table.proofs.NarrowKeys.{IsHeldAs, new_as_row, held_back, held_short, held_agrees, nil_of_length}
use Rattle.sn_table.proofs.Places.{place_decoded}

-- numbers that stand for rows
pub record StandFor (limit columns : ℕ) (ns : List ℕ) (rows : List Row) : Type 0 where
  pub short : AreShort limit columns ns
  pub rows_are : rows ≡ map (columns_of columns) ns

-- no numbers are those of any number of columns
pub stand_for_no_row : (limit columns before : ℕ) (ns : List ℕ) (rows : List Row) → columns ≤ 8 → length ns ≡ 0 → rows ≡ map (columns_of before) ns → StandFor limit columns ns rows
stand_for_no_row limit columns before ns rows few none are =
    let nil = nil_of_length ns none in
    record {
      short = record { few = few; each = subst (AllByRecursion (IsShort limit columns)) (sym nil) tt };
      rows_are = are ∙ ap (map (columns_of before)) nil ∙ sym (ap (map (columns_of columns)) nil);
    }

pub stand_for_the_same : (limit columns before : ℕ) (ns : List ℕ) (rows : List Row) → columns ≡ before → AreShort limit before ns → rows ≡ map (columns_of before) ns → StandFor limit columns ns rows
stand_for_the_same limit columns before ns rows same short are = record {
  short = subst (λ n. AreShort limit n ns) (sym same) short;
  rows_are = are ∙ ap (λ n. map (columns_of n) ns) (sym same);
}

module _ (limit columns number : ℕ) (row : Row) (h : IsHeldAs columns row number) (ns : List ℕ) (rows : List Row) (s : StandFor limit columns ns rows) where
  -- the number is one of them exactly where the row is
  pub member_by_number : list_any (same_row row) rows ≡ list_any (nat_eq number) ns
  member_by_number = ap (list_any (same_row row)) s.rows_are ∙ any_decoded nat_eq same_row (columns_of columns) number row ns (held_agrees columns number row h limit ns s.short.each)

  -- and at the same place
  pub place_by_number : position_or_len (same_row row) rows ≡ position_or_len (nat_eq number) ns
  place_by_number = ap (position_or_len (same_row row)) s.rows_are ∙ place_decoded nat_eq same_row (columns_of columns) number row ns (held_agrees columns number row h limit ns s.short.each)

  pub inserted_by_number : map (columns_of columns) (insert_key nat_eq ns number) ≡ insert_key same_row rows row
  inserted_by_number =
      insert_key_decoded nat_eq same_row (columns_of columns) number row (held_back columns number row h) ns (held_agrees columns number row h limit ns s.short.each)
      ∙ ap (λ ks. insert_key same_row ks row) (sym s.rows_are)

  pub short_with_number : (columns ≡ 1 → number < limit) → AreShort limit columns (insert_key nat_eq ns number)
  short_with_number single = record {
    few = s.short.few;
    each = all_inserted_key (IsShort limit columns) nat_eq number (held_short columns number row h limit single) ns s.short.each;
  }

-- one more number is one more row after the others
pub one_row_widened : (limit columns : ℕ) (ns : List ℕ) (place n : ℕ) → AreShort limit columns ns → IsDistinct nat_eq ns → slice_get ns place ≡ Some n
    → insert_key same_row (map (columns_of columns) (take place ns)) (columns_of columns n) ≡ map (columns_of columns) (take (place + 1) ns)
one_row_widened limit columns ns place n short apart at =
    let rows = map (columns_of columns) (take place ns) in
    ap (λ b. cond b rows (rows ++ columns_of columns n ∷ [])) (new_as_row limit columns ns place n short apart at) ∙ sym (map_one (columns_of columns) ns place n at)
