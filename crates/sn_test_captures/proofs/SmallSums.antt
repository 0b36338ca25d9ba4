-- Sums that are all below 2^64 stay so.
use Rattle.std.proofs.Common.{◌≡◌, ℕ, ◌^◌, ◌<◌, List, [], ◌∷◌, true, false, Some, Result, Ok, Err, cond, unwrap_or, OnOk, OnErr, sym, subst, arith}
use Rattle.std.specs.List.{AllByRecursion}
use Rattle.std.specs.Map.{lookup}
use Rattle.indexmap.specs.IndexMap.{insert_entry}
use Rattle.sn_base.specs.Groups.{Row, same_row}

abbrev pub AreSmall : List (Row × ℕ) → Type 0
AreSmall es = AllByRecursion (λ e. e.1 < 2 ^ 64) es

pub found_small : (key : Row) (es : List (Row × ℕ)) → AreSmall es → unwrap_or (lookup (same_row key) es) 0 < 2 ^ 64
found_small key [] h = omega arith
found_small key (e ∷ es) h =
    elim (same_row key e.0) as (λ b. unwrap_or (cond b (Some e.1) (lookup (same_row key) es)) 0 < 2 ^ 64) [ true ↦ h.0 | false ↦ found_small key es h.1 ]

pub put_small : (key : Row) (v : ℕ) → v < 2 ^ 64 → (es : List (Row × ℕ)) → AreSmall es → AreSmall (insert_entry same_row es key v)
put_small key v small [] h = (small, tt)
put_small key v small (e ∷ es) h =
    elim (same_row key e.0) as (λ b. AreSmall (cond b ((e.0, v) ∷ es) (e ∷ insert_entry same_row es key v))) [
      | true ↦ (small, h.1)
      | false ↦ (h.0, put_small key v small es h.1)
    ]

pub either : {X T E : Type 0} (P : X → Type 0) (r : Result T E) (old grown new : X) → OnOk r (new ≡ grown) → OnErr r (new ≡ old) → P old → P grown → P new
either P (Ok t) old grown new ok err before after = subst P (sym ok) after
either P (Err e) old grown new ok err before after = subst P (sym err) before
