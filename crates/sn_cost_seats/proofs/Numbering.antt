-- Rows by the numbers of distinct keys.
use Rattle.std.proofs.Common.{◌≡◌, ℕ, zero, suc, ◌<◌, List, [], ◌∷◌, filter, length, Bool, true, false, not, cond, nat_eq, refl, ap, sym, ◌∙◌, arith}
use Rattle.std.specs.List.{AllByRecursion}
use Rattle.std.specs.Cmp.Lexicographic.{nat_list_eq_equiv}
use Rattle.std.proofs.lemmas.Bool.{false≢true}
use Rattle.sn_base.specs.Groups.{Apart, Row, once, same_row}
use Rattle.sn_base.proofs.Lists.{by_test, nat_same, nat_self}
use Rattle.sn_base.proofs.Lists as lists
use Rattle.sn_base.proofs.OnceLemmas.{all_once}
use Rattle.sn_cost_seats.specs.Seats.{row_at, rows_at}

far_at : (key : Row) (keys : List Row) (j : ℕ) → j < length keys → AllByRecursion (λ x. same_row key x ≡ false) keys → same_row key (row_at keys j) ≡ false
far_at key [] j lt h = absurd (omega (arith, lt))
far_at key (x ∷ keys) zero lt h = h.0
far_at key (x ∷ keys) (suc j) lt h = far_at key keys j (omega (arith, lt)) h.1

-- keys at other places are other keys
apart_at : (keys : List Row) (i j : ℕ) → Apart same_row keys → i < length keys → j < length keys → (i ≡ j → ⊥) → same_row (row_at keys i) (row_at keys j) ≡ false
apart_at [] i j h a b other = absurd (omega (arith, a))
apart_at (key ∷ keys) zero zero h a b other = absurd (other refl)
apart_at (key ∷ keys) zero (suc j) h a b other = far_at key keys j (omega (arith, b)) h.0
apart_at (key ∷ keys) (suc i) zero h a b other = nat_list_eq_equiv.symm (row_at keys i) key ∙ far_at key keys i (omega (arith, a)) h.0
apart_at (key ∷ keys) (suc i) (suc j) h a b other = apart_at keys i j h.1 (omega (arith, a)) (omega (arith, b)) (λ e. other (ap suc e))

-- so keys are the same where their numbers are
same_at : (keys : List Row) (i j : ℕ) → Apart same_row keys → i < length keys → j < length keys → same_row (row_at keys i) (row_at keys j) ≡ nat_eq i j
same_at keys i j h a b =
    by_test (nat_eq i j)
    (λ is. ap (λ n. same_row (row_at keys i) (row_at keys n)) (sym (nat_same i j is)) ∙ nat_list_eq_equiv.refl (row_at keys i) ∙ sym is)
    (λ isnt. apart_at keys i j h a b (λ e. false≢true (sym isnt ∙ ap (nat_eq i) (sym e) ∙ nat_self i)) ∙ sym isnt)

filter_where : (p q : ℕ → Bool) (P : ℕ → Type 0) → ((n : ℕ) → P n → p n ≡ q n) → (ns : List ℕ) → AllByRecursion P ns → filter p ns ≡ filter q ns
filter_where p q P e [] h = refl
filter_where p q P e (n ∷ ns) h = ap (λ b. cond b (n ∷ filter p ns) (filter p ns)) (e n h.0) ∙ ap (λ xs. cond (q n) (n ∷ xs) xs) (filter_where p q P e ns h.1)

-- the distinct rows are those of the distinct numbers
pub once_numbers : (keys : List Row) → Apart same_row keys → (ids : List ℕ) → AllByRecursion (λ id. id < length keys) ids → once same_row (rows_at keys ids) ≡ rows_at keys (once nat_eq ids)
once_numbers keys apart [] h = refl
once_numbers keys apart (id ∷ ids) h =
    let key : Row = row_at keys id in
    let rest : List ℕ = once nat_eq ids in
    ap (λ rows. key ∷ filter (λ x. not (same_row key x)) rows) (once_numbers keys apart ids h.1)
    ∙ ap (λ rows. key ∷ rows) (sym (lists.filter_map (row_at keys) (λ x. not (same_row key x)) rest))
    ∙ ap (λ ns. key ∷ rows_at keys ns)
    (filter_where (λ n. not (same_row key (row_at keys n))) (λ n. not (nat_eq id n)) (λ n. n < length keys) (λ n lt. ap not (same_at keys id n apart h.0 lt)) rest
    (all_once nat_eq (λ n. n < length keys) ids h.1))

-- a key comes as often as its number
pub times_numbers : (keys : List Row) → Apart same_row keys → (ids : List ℕ) → AllByRecursion (λ id. id < length keys) ids → (id : ℕ) → id < length keys → length (filter (same_row (row_at keys id)) (rows_at keys ids)) ≡ length (filter (nat_eq id) ids)
times_numbers keys apart [] h id lt = refl
times_numbers keys apart (n ∷ ids) h id lt =
    let rest = times_numbers keys apart ids h.1 id lt in
    ap (λ b. length (cond b (row_at keys n ∷ filter (same_row (row_at keys id)) (rows_at keys ids)) (filter (same_row (row_at keys id)) (rows_at keys ids)))) (same_at keys id n apart lt h.0)
    ∙ elim (nat_eq id n) as (λ b. length (cond b (row_at keys n ∷ filter (same_row (row_at keys id)) (rows_at keys ids)) (filter (same_row (row_at keys id)) (rows_at keys ids))) ≡ length (cond b (n ∷ filter (nat_eq id) ids) (filter (nat_eq id) ids))) [ true ↦ ap suc rest | false ↦ rest ]
