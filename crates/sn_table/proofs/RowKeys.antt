-- Keys that are rows of any kind: what a look-up and an insertion do to them is what they do to their columns.
use Rattle.std.proofs.Common.{◌≡◌, ℕ, List, [], ◌∷◌, map, slice_get, Bool, Option, refl, ap, sym, ◌∙◌}
use Rattle.std.specs.Option.{option_map}
use Rattle.std.proofs.lemmas.Option.{slice_get-map}
use Rattle.std.specs.List.{list_any, position_or_len}
use Rattle.std.specs.Map.{lookup}
use Rattle.indexmap.specs.IndexMap.{insert_entry}
use Rattle.indexmap.specs.IndexSet.{insert_key}
use Rattle.sn_base.specs.Groups.{Row, same_row}
use Rattle.sn_table.proofs.Decoded.{Agree, keys, lookup_decoded, insert_decoded, any_decoded, insert_key_decoded}
use Rattle.sn_table.proofs.Places.{place_decoded}

-- an entry with its key as its columns
abbrev row_of : {R : Type 0} → (R → Row) → R × ℕ → Row × ℕ
row_of seen e = (seen e.0, e.1)

pub row_at : {R : Type 0} (seen : R → Row) (es : List (R × ℕ)) (place : ℕ) (o : Option (R × ℕ)) → slice_get es place ≡ o
    → slice_get {X = Row × ℕ} (map (λ e. (seen e.0, e.1)) es) place ≡ option_map (λ e. (seen e.0, e.1)) o
row_at seen es place o at = slice_get-map (row_of seen) es place ∙ ap (option_map (row_of seen)) at

-- keys are equal where their columns are
module _ {R : Type 0} (eq : R → R → Bool) (seen : R → Row) (same : (a b : R) → eq a b ≡ same_row (seen a) (seen b)) (key : R) where
  agree : (ks : List R) → Agree eq same_row seen key (seen key) ks
  agree [] = tt
  agree (k ∷ ks) = (sym (same key k), agree ks)

  pub found_by_row : (es : List (R × ℕ)) → lookup (same_row (seen key)) (map (λ e. (seen e.0, e.1)) es) ≡ lookup (eq key) es
  found_by_row es = lookup_decoded eq same_row seen key (seen key) es (agree (keys es))

  pub put_by_row : (v : ℕ) (es : List (R × ℕ)) → map (λ e. (seen e.0, e.1)) (insert_entry eq es key v) ≡ insert_entry same_row (map (λ e. (seen e.0, e.1)) es) (seen key) v
  put_by_row v es = insert_decoded eq same_row seen key (seen key) refl v es (agree (keys es))

  pub any_by_row : (ks : List R) → list_any (same_row (seen key)) (map seen ks) ≡ list_any (eq key) ks
  any_by_row ks = any_decoded eq same_row seen key (seen key) ks (agree ks)

  pub place_by_row : (ks : List R) → position_or_len (same_row (seen key)) (map seen ks) ≡ position_or_len (eq key) ks
  place_by_row ks = place_decoded eq same_row seen key (seen key) ks (agree ks)

  pub put_key_by_row : (ks : List R) → map seen (insert_key eq ks key) ≡ insert_key same_row (map seen ks) (seen key)
  put_key_by_row ks = insert_key_decoded eq same_row seen key (seen key) refl ks (agree ks)
