-- How often keys come, as a table counts them.
use Rattle.std.proofs.Common.{◌≡◌, ℕ, suc, ◌+◌, ◌≤◌, List, [], ◌∷◌, map, filter, fold, length, true, false, cond, unwrap_or, refl, ap, sym, subst, ◌∙◌, arith}
use Rattle.std.specs.List.{AllByRecursion}
use Rattle.std.specs.Map.{lookup}
use Rattle.std.specs.Cmp.Lexicographic.{nat_list_eq_equiv}
use Rattle.sn_base.specs.Folds.{HasBits, capped_sum, capped_sum_laws}
use Rattle.sn_base.specs.Groups.{Row, once, paired, same_row, values_at}
use Rattle.sn_base.proofs.FoldLemmas.{fold_had}
use Rattle.sn_base.proofs.FoldedLemmas.{folded_at, same_row_exact}
use Rattle.sn_base.proofs.Lists.{all_filter, all_map, all_of, map_agree, map_both}
use Rattle.sn_cost_seats.specs.Tallies.{tallied, times_in}
use Rattle.sn_cost_tally.specs.Counts.{counted, one}

-- so far the sum of a key's ones is a number of 64 bits
pub counted_had : (keys : List Row) (entries : List (Row × ℕ)) (key : Row) → entries ≡ counted keys → HasBits 64 (unwrap_or (lookup (same_row key) entries) 0)
counted_had keys entries key is =
    let P : ℕ → Type 0 = HasBits 64 in
    let ones : AllByRecursion P (values_at same_row key (map one keys)) =
    all_map P (λ (p : Row × ℕ). p.1) (filter (λ (p : Row × ℕ). same_row key p.0) (map one keys))
    (all_filter (λ (p : Row × ℕ). P p.1) (λ (p : Row × ℕ). same_row key p.0) (map one keys) (all_map (λ (p : Row × ℕ). P p.1) one keys (all_of (λ (k : Row). P 1) (λ k. omega arith) keys))) in
    subst P (sym (ap (λ es. unwrap_or (lookup (same_row key) es) 0) is ∙ folded_at nat_list_eq_equiv same_row_exact (capped_sum 64) 0 (map one keys) key))
    (fold_had (capped_sum_laws 64) 0 (values_at same_row key (map one keys)) (omega arith) ones)

-- ---- keys and sums

as_is : (keys : List Row) → map (λ k. k) keys ≡ keys
as_is [] = refl
as_is (key ∷ keys) = ap (λ ks. key ∷ ks) (as_is keys)

first_of : (keys : List Row) → map (λ (p : Row × ℕ). p.0) (map one keys) ≡ keys
first_of keys = map_both one (λ (p : Row × ℕ). p.0) keys ∙ as_is keys

-- the sum of ones is how many there are
ones_summed : (key : Row) (keys : List Row) (a : ℕ) → a + length keys ≤ 4194304 → fold (capped_sum 64) a (values_at same_row key (map one keys)) ≡ a + times_in keys key
ones_summed key [] a few = omega arith
ones_summed key (k ∷ keys) a few =
    let pairs : List (Row × ℕ) = filter (λ (p : Row × ℕ). same_row key p.0) (map one keys) in
    let rest : List Row = filter (same_row key) keys in
    (elim (same_row key k) as (λ b. fold (capped_sum 64) a (map (λ (p : Row × ℕ). p.1) (cond b (one k ∷ pairs) pairs)) ≡ a + length (cond b (k ∷ rest) rest)) [
      | true ↦
          (let next : capped_sum 64 a 1 ≡ suc a = omega (arith, few) in
          let more = ones_summed key keys (suc a) (omega (arith, few)) in
          ap (λ n. fold (capped_sum 64) n (map (λ (p : Row × ℕ). p.1) pairs)) next ∙ omega (arith, more))
      | false ↦ ones_summed key keys a (omega (arith, few))
    ])

pub keys_of : (keys : List Row) → map (λ (e : Row × ℕ). e.0) (counted keys) ≡ once same_row keys
keys_of keys =
    let f : Row → ℕ = λ k. fold (capped_sum 64) 0 (values_at same_row k (map one keys)) in
    map_both (paired f) (λ (e : Row × ℕ). e.0) (once same_row (map (λ (p : Row × ℕ). p.0) (map one keys)))
    ∙ as_is (once same_row (map (λ (p : Row × ℕ). p.0) (map one keys))) ∙ ap (once same_row) (first_of keys)

pub times_of : (keys : List Row) → length keys ≤ 4194304 → map (λ (e : Row × ℕ). e.1) (counted keys) ≡ tallied keys
times_of keys few =
    let f : Row → ℕ = λ k. fold (capped_sum 64) 0 (values_at same_row k (map one keys)) in
    map_both (paired f) (λ (e : Row × ℕ). e.1) (once same_row (map (λ (p : Row × ℕ). p.0) (map one keys)))
    ∙ ap (λ ks. map f (once same_row ks)) (first_of keys)
    ∙ map_agree f (times_in keys) (λ k. let e = ones_summed k keys 0 (omega (arith, few)) in omega (arith, e)) (once same_row keys)
