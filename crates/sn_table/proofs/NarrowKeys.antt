-- Rows that are held as numbers.
use Rattle.std.proofs.Common.{◌≡◌, ℕ, zero, suc, ◌+◌, ◌^◌, ◌<◌, ◌≤◌, List, [], ◌∷◌, ◌++◌, length, map, take, slice_get, true, false, ◌||◌, cond, Some, None, nat_eq, refl, ap, ap₂, sym, subst, ◌∙◌, arith}
use Rattle.std.specs.List.{AllByRecursion, IsDistinct, list_any}
use Rattle.std.specs.Option.{option_map}
use Rattle.std.proofs.lemmas.Option.{slice_get-map}
use Rattle.std.specs.Map.{lookup}
use Rattle.std.proofs.lemmas.Bool.{false≢true, eqb-true, eq-eqb}
use Rattle.std.proofs.lemmas.Map.Keys.{IsDistinct-head, IsDistinct-tail}
use Rattle.std.proofs.lemmas.Nat.{pow_pos}
use Rattle.std.specs.Cmp.Lexicographic.{nat_list_eq_equiv}
use Rattle.std.proofs.lemmas.Cmp.{nat_eq_equiv}
use Rattle.indexmap.specs.IndexMap.{insert_entry}
use Rattle.sn_base.specs.Groups.{Row, same_row}
use Rattle.sn_base.proofs.Lists.{by_test, not_true, and_parts, and_both, or_none, all_weaker, some_same, map_one}
use Rattle.sn_base.proofs.FoldedLemmas.{same_row_exact}
use Rattle.sn_table.specs.Narrow.{number_in, digits_in, are_digits, width_of, base_of, is_narrow, number_of, columns_of, IsShort, AreShort}
use Rattle.sn_table.specs.HeldEntries.{row_entry}
use Rattle.sn_table.proofs.Digits.{row_back, number_back, number_below, are_digits_in, length_digits_in}
use Rattle.sn_table.proofs.Decoded.{Agree, keys, lookup_decoded, insert_decoded, any_decoded, all_inserted}

-- a row and the number that stands for it
pub record IsHeldAs (columns : ℕ) (row : Row) (number : ℕ) : Type 0 where
  pub narrow : is_narrow columns row ≡ true
  pub number_is : number ≡ number_of columns row

-- the number that stands for a row
pub reported : (columns : ℕ) (row : Row) (number : ℕ) → cond (is_narrow columns row) (Some (number_of columns row)) None ≡ Some number → IsHeldAs columns row number
reported columns row number is =
    by_test (is_narrow columns row)
    (λ yes. record { narrow = yes; number_is = some_is (sym (ap (λ b. cond b (Some (number_of columns row)) None) yes) ∙ is) })
    (λ no. absurd (none_is (sym (ap (λ b. cond b (Some (number_of columns row)) None) no) ∙ is)))
  where
    some_is : Some (number_of columns row) ≡ Some number → number ≡ number_of columns row
    some_is e = cc

    none_is : None ≡ Some number → ⊥
    none_is e = cc

module _ (columns number : ℕ) (row : Row) (h : IsHeldAs columns row number) where
  long : length row ≡ columns
  long = eqb-true (length row) columns (and_parts (nat_eq (length row) columns) (are_digits (base_of columns) row) h.narrow).0

  digits : are_digits (base_of columns) row ≡ true
  digits = (and_parts (nat_eq (length row) columns) (are_digits (base_of columns) row) h.narrow).1

  -- the number stands for the row
  pub held_back : columns_of columns number ≡ row
  held_back = ap (columns_of columns) h.number_is ∙ ap (λ n. digits_in (base_of columns) n (number_of columns row)) (sym long) ∙ row_back (base_of columns) row digits

  pub held_below : number < base_of columns ^ columns
  held_below =
      subst (λ n. number < base_of columns ^ n) long
      (subst (λ n. n < base_of columns ^ length row) (sym h.number_is) (number_below (base_of columns) row digits))

  -- it is the number of no other row
  pub held_alone : (m : ℕ) → m < base_of columns ^ columns → same_row row (columns_of columns m) ≡ nat_eq number m
  held_alone m below =
      by_test (nat_eq number m)
      (λ same. ap (same_row row) (ap (columns_of columns) (sym (eqb-true number m same)) ∙ held_back) ∙ nat_list_eq_equiv.refl row ∙ sym same)
      (λ other. not_true (same_row row (columns_of columns m)) (λ same.
      let base = base_of columns in
      let is : row ≡ columns_of columns m = same_row_exact row (columns_of columns m) same in
      let equal : number ≡ m = h.number_is ∙ ap (number_in base) is ∙ number_back base columns m (pow_pos (width_of columns)) below in
      false≢true (sym other ∙ eq-eqb number m equal)) ∙ sym other)

  pub held_agrees : (limit : ℕ) (ns : List ℕ) → AllByRecursion (IsShort limit columns) ns → Agree nat_eq same_row (columns_of columns) number row ns
  held_agrees limit ns each = all_weaker (IsShort limit columns) (λ n. same_row row (columns_of columns n) ≡ nat_eq number n) (λ n short. held_alone n short.below) ns each

  -- a look-up by the number is one by the row
  pub found_by_number : (limit : ℕ) (es : List (ℕ × ℕ)) → AreShort limit columns (keys es) → lookup (same_row row) (map (row_entry columns) es) ≡ lookup (nat_eq number) es
  found_by_number limit es short = lookup_decoded nat_eq same_row (columns_of columns) number row es (held_agrees limit (keys es) short.each)

  -- and so is an insertion
  pub put_by_number : (limit v : ℕ) (es : List (ℕ × ℕ)) → AreShort limit columns (keys es) → map (row_entry columns) (insert_entry nat_eq es number v) ≡ insert_entry same_row (map (row_entry columns) es) row v
  put_by_number limit v es short = insert_decoded nat_eq same_row (columns_of columns) number row held_back v es (held_agrees limit (keys es) short.each)

  pub held_short : (limit : ℕ) → (columns ≡ 1 → number < limit) → IsShort limit columns number
  held_short limit single = record { below = held_below; single = single }

  pub still_short : (limit v : ℕ) (es : List (ℕ × ℕ)) → (columns ≡ 1 → number < limit) → AreShort limit columns (keys es) → AreShort limit columns (keys (insert_entry nat_eq es number v))
  still_short limit v es single short = record {
    few = short.few;
    each = all_inserted (IsShort limit columns) nat_eq number v (held_short limit single) es short.each;
  }

-- entries by number that stand for entries by row
pub record Stand (limit columns : ℕ) (es : List (ℕ × ℕ)) (rows : List (Row × ℕ)) : Type 0 where
  pub short : AreShort limit columns (keys es)
  pub rows_are : rows ≡ map (row_entry columns) es

pub nil_of_length : {A : Type 0} (xs : List A) → length xs ≡ 0 → xs ≡ []
nil_of_length [] none = refl
nil_of_length (x ∷ xs) none = absurd (omega arith)

-- no entries are those of any number of columns
pub stand_for_none : (limit columns before : ℕ) (es : List (ℕ × ℕ)) (rows : List (Row × ℕ)) → columns ≤ 8 → length es ≡ 0 → rows ≡ map (row_entry before) es → Stand limit columns es rows
stand_for_none limit columns before es rows few none are =
    let nil = nil_of_length es none in
    record {
      short = record { few = few; each = subst (λ (ds : List (ℕ × ℕ)). AllByRecursion (IsShort limit columns) (keys ds)) (sym nil) tt };
      rows_are = are ∙ ap (map (row_entry before)) nil ∙ sym (ap (map (row_entry columns)) nil);
    }

pub stand_as_before : (limit columns before : ℕ) (es : List (ℕ × ℕ)) (rows : List (Row × ℕ)) → columns ≡ before → AreShort limit before (keys es) → rows ≡ map (row_entry before) es → Stand limit columns es rows
stand_as_before limit columns before es rows same short are = record {
  short = subst (λ n. AreShort limit n (keys es)) (sym same) short;
  rows_are = are ∙ ap (λ n. map (row_entry n) es) (sym same);
}

module _ (limit columns number : ℕ) (row : Row) (h : IsHeldAs columns row number) (es : List (ℕ × ℕ)) (rows : List (Row × ℕ)) (s : Stand limit columns es rows) where
  pub stand_found : lookup (same_row row) rows ≡ lookup (nat_eq number) es
  stand_found = ap (lookup (same_row row)) s.rows_are ∙ found_by_number columns number row h limit es s.short

  pub stand_put : (v w : ℕ) → v ≡ w → map (row_entry columns) (insert_entry nat_eq es number v) ≡ insert_entry same_row rows row w
  stand_put v w is =
      put_by_number columns number row h limit v es s.short ∙ ap (λ ds. insert_entry same_row ds row v) (sym s.rows_are)
      ∙ ap (insert_entry same_row rows row) is

-- ---- numbers turned to rows, one by one

-- a number that is not too large is held for its row
pub held_for : (columns number : ℕ) → number < base_of columns ^ columns → IsHeldAs columns (columns_of columns number) number
held_for columns number below =
    let base = base_of columns in
    let some = pow_pos (width_of columns) in
    record {
      narrow = and_both (nat_eq (length (columns_of columns number)) columns) (are_digits base (columns_of columns number))
          (eq-eqb (length (columns_of columns number)) columns (length_digits_in base columns number)) (are_digits_in base columns number some);
      number_is = sym (number_back base columns number some below);
    }

one_at : (P : ℕ → Type 0) (ns : List ℕ) (place n : ℕ) → slice_get ns place ≡ Some n → AllByRecursion P ns → P n
one_at P [] place n at h = cc
one_at P (m ∷ ns) zero n at h = subst P (some_same m n at) h.0
one_at P (m ∷ ns) (suc place) n at h = one_at P ns place n at h.1

none_before : (ns : List ℕ) (place n : ℕ) → IsDistinct nat_eq ns → slice_get ns place ≡ Some n → list_any (nat_eq n) (take place ns) ≡ false
none_before [] place n apart at = cc
none_before (m ∷ ns) zero n apart at = refl
none_before (m ∷ ns) (suc place) n apart at =
    ap₂ (λ a b. a || b) (nat_eq_equiv.symm n m ∙ one_at (λ k. nat_eq m k ≡ false) ns place n at (IsDistinct-head nat_eq m ns apart))
    (none_before ns place n (IsDistinct-tail nat_eq m ns apart) at)

front_short : (P : ℕ → Type 0) (ns : List ℕ) (place : ℕ) → AllByRecursion P ns → AllByRecursion P (take place ns)
front_short P ns zero h = tt
front_short P [] (suc place) h = tt
front_short P (n ∷ ns) (suc place) h = (h.0, front_short P ns place h.1)

-- each of them is short
pub short_at : (limit columns : ℕ) (ns : List ℕ) (place n : ℕ) → AreShort limit columns ns → slice_get ns place ≡ Some n → IsShort limit columns n
short_at limit columns ns place n short at = one_at (IsShort limit columns) ns place n at short.each

-- a number's row is none of those before it
pub new_as_row : (limit columns : ℕ) (ns : List ℕ) (place n : ℕ) → AreShort limit columns ns → IsDistinct nat_eq ns → slice_get ns place ≡ Some n
    → list_any (same_row (columns_of columns n)) (map (columns_of columns) (take place ns)) ≡ false
new_as_row limit columns ns place n short apart at =
    let row = columns_of columns n in
    let h = held_for columns n (short_at limit columns ns place n short at).below in
    any_decoded nat_eq same_row (columns_of columns) n row (take place ns)
    (held_agrees columns n row h limit (take place ns) (front_short (IsShort limit columns) ns place short.each))
    ∙ none_before ns place n apart at

-- a key that is none of those there goes last
put_last : (key : Row) (v : ℕ) (es : List (Row × ℕ)) → list_any (same_row key) (keys es) ≡ false → insert_entry same_row es key v ≡ es ++ (key, v) ∷ []
put_last key v [] none = refl
put_last key v (e ∷ es) none =
    let p = or_none (same_row key e.0) (list_any (same_row key) (keys es)) none in
    ap (λ b. cond b ((e.0, v) ∷ es) (e ∷ insert_entry same_row es key v)) p.0 ∙ ap (λ ds. e ∷ ds) (put_last key v es p.1)

keys_as_rows : (columns : ℕ) (es : List (ℕ × ℕ)) (place : ℕ) → keys (map (row_entry columns) (take place es)) ≡ map (columns_of columns) (take place (keys es))
keys_as_rows columns es zero = refl
keys_as_rows columns [] (suc place) = refl
keys_as_rows columns (e ∷ es) (suc place) = ap (λ ks. columns_of columns e.0 ∷ ks) (keys_as_rows columns es place)

pub key_at : (es : List (ℕ × ℕ)) (place : ℕ) (e : ℕ × ℕ) → slice_get es place ≡ Some e → slice_get (keys es) place ≡ Some e.0
key_at es place e at = slice_get-map (λ (d : ℕ × ℕ). d.0) es place ∙ ap (option_map (λ (d : ℕ × ℕ). d.0)) at

-- one more number is one more row after the others
pub one_widened : (limit columns : ℕ) (es : List (ℕ × ℕ)) (place : ℕ) (e : ℕ × ℕ) → AreShort limit columns (keys es) → IsDistinct nat_eq (keys es) → slice_get es place ≡ Some e
    → insert_entry same_row (map (row_entry columns) (take place es)) (columns_of columns e.0) e.1 ≡ map (row_entry columns) (take (place + 1) es)
one_widened limit columns es place e short apart at =
    let row = columns_of columns e.0 in
    let own = key_at es place e at in
    put_last row e.1 (map (row_entry columns) (take place es))
    (ap (list_any (same_row row)) (keys_as_rows columns es place) ∙ new_as_row limit columns (keys es) place e.0 short apart own)
    ∙ sym (map_one (row_entry columns) es place e at)
