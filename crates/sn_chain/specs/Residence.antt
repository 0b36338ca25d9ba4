-- to be believed
-- Where keys reside: a definition over the whole list of keys that come, each distinct key placed once.
use Rattle.std.specs.Prelude.{ℕ, List, [], ◌∷◌, map, fold, Bool, not, nat_eq, Option, Some, None}
use Rattle.std.specs.List.{find, list_any}
use Rattle.sn_base.specs.Groups.{once}

module _ {K : Type 0} (same : K → K → Bool) (places : K → List ℕ) where
  -- the first of a key's places that isn't taken
  abbrev pub free_place : List (ℕ × K) → K → Option ℕ
  free_place taken k = find (λ p. not (list_any (nat_eq p) (map (λ h. h.0) taken))) (places k)

  -- a key takes this place, or none
  abbrev pub seated_at : List (ℕ × K) → K → Option ℕ → List (ℕ × K)
  seated_at taken k None = taken
  seated_at taken k (Some p) = (p, k) ∷ taken

  abbrev pub seated : List (ℕ × K) → K → List (ℕ × K)
  seated taken k = seated_at taken k (free_place taken k)

  -- the resident keys of a list, each beside its place. Each later repeat of a key is dropped. The others, in
  -- order, take each the first of its places that isn't taken; a key without such a place is an overflow key.
  abbrev pub residents : List K → List (ℕ × K)
  residents keys = fold seated [] (once same keys)

  -- whether a key is a resident of the list
  abbrev pub resides : List K → K → Bool
  resides keys k = list_any (same k) (map (λ h. h.1) (residents keys))
