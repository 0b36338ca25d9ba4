-- Rows that go through operators without state one by one.
use Rattle.std.proofs.Common.{◌≡◌, ℕ, zero, suc, ◌≤◌, List, [], ◌∷◌, map, filter, take, length, Bool, true, false, cond, nat_le, Option, Some, None, refl, ap, sym, ◌∙◌, arith}
use Rattle.std.specs.List.{cons_option, filter_map}
use Rattle.std.proofs.lemmas.Bool.{le-leb, leb-true, lt-leb}
use Rattle.sn_base.specs.Groups.{Row}
use Rattle.sn_base.specs.Operators.{Op, through}
use Rattle.sn_base.specs.Operators.Op.{Filter, Map, Distinct, Reduce}
use Rattle.sn_base.proofs.Lists.{by_test}
use Rattle.sn_cost_seats.specs.Ways.{AreStateless, come, reach}

-- ---- as which rows they come

all_come : (rows : List Row) → filter_map Some rows ≡ rows
all_come [] = refl
all_come (row ∷ rows) = ap (λ rs. row ∷ rs) (all_come rows)

filtered : (t : Row → Bool) (next : Row → Option Row) (rows : List Row) → filter_map next (filter t rows) ≡ filter_map (λ row. cond (t row) (next row) None) rows
filtered t next [] = refl
filtered t next (row ∷ rows) =
    elim (t row) as (λ b. filter_map next (cond b (row ∷ filter t rows) (filter t rows)) ≡ cons_option (cond b (next row) None) (filter_map (λ r. cond (t r) (next r) None) rows)) [
      | true ↦ ap (cons_option (next row)) (filtered t next rows)
      | false ↦ filtered t next rows
    ]

mapped : (f : Row → Row) (next : Row → Option Row) (rows : List Row) → filter_map next (map f rows) ≡ filter_map (λ row. next (f row)) rows
mapped f next [] = refl
mapped f next (row ∷ rows) = ap (cons_option (next (f row))) (mapped f next rows)

-- operators without state go row by row
pub through_come : (ops : List Op) → AreStateless ops → (rows : List Row) → through ops rows ≡ filter_map (come ops) rows
through_come [] h rows = sym (all_come rows)
through_come (Filter t ∷ ops) h rows = through_come ops h (filter t rows) ∙ filtered t (come ops) rows
through_come (Map f ∷ ops) h rows = through_come ops h (map f rows) ∙ mapped f (come ops) rows
through_come (Distinct ∷ ops) h rows = absurd h
through_come (Reduce g ∷ ops) h rows = absurd h

-- ---- how far they come

none_left : (n : ℕ) → nat_le 0 n ≡ true
none_left n = le-leb 0 n (omega arith)

too_far : (c : ℕ) → nat_le (suc c) 0 ≡ false
too_far c = lt-leb (suc c) 0 (omega arith)

one_further : (c n : ℕ) → nat_le (suc c) (suc n) ≡ nat_le c n
one_further c n =
    by_test (nat_le c n)
    (λ is. let le = leb-true c n is in le-leb (suc c) (suc n) (omega (arith, le)) ∙ sym is)
    (λ isnt. by_test (nat_le (suc c) (suc n)) (λ more. let le = leb-true (suc c) (suc n) more in more ∙ sym (le-leb c n (omega (arith, le)))) (λ less. less ∙ sym isnt))

keeps_all : (p : Row → Bool) → ((row : Row) → p row ≡ true) → (rows : List Row) → filter p rows ≡ rows
keeps_all p e [] = refl
keeps_all p e (row ∷ rows) = ap (λ b. cond b (row ∷ filter p rows) (filter p rows)) (e row) ∙ ap (λ rs. row ∷ rs) (keeps_all p e rows)

filters_both : (c : ℕ) (t : Row → Bool) (far : Row → ℕ) (rows : List Row) → filter (λ row. nat_le c (far row)) (filter t rows) ≡ filter (λ row. nat_le (suc c) (cond (t row) (suc (far row)) 0)) rows
filters_both c t far [] = refl
filters_both c t far (row ∷ rows) =
    let p : Row → Bool = λ r. nat_le c (far r) in
    let q : Row → Bool = λ r. nat_le (suc c) (cond (t r) (suc (far r)) 0) in
    let rest : filter p (filter t rows) ≡ filter q rows = filters_both c t far rows in
    elim (t row) as (λ b. filter p (cond b (row ∷ filter t rows) (filter t rows)) ≡ cond (nat_le (suc c) (cond b (suc (far row)) 0)) (row ∷ filter q rows) (filter q rows)) [
      | true ↦ ap (λ b. cond b (row ∷ filter p (filter t rows)) (filter p (filter t rows))) (sym (one_further c (far row))) ∙ ap (λ rs. cond (nat_le (suc c) (suc (far row))) (row ∷ rs) rs) rest
      | false ↦ rest ∙ sym (ap (λ b. cond b (row ∷ filter q rows) (filter q rows)) (too_far c))
    ]

maps_alike : (c : ℕ) (f : Row → Row) (far : Row → ℕ) (rows : List Row) → length (filter (λ row. nat_le c (far row)) (map f rows)) ≡ length (filter (λ row. nat_le (suc c) (suc (far (f row)))) rows)
maps_alike c f far [] = refl
maps_alike c f far (row ∷ rows) =
    let p : Row → Bool = λ r. nat_le c (far r) in
    let q : Row → Bool = λ r. nat_le (suc c) (suc (far (f r))) in
    let rest : length (filter p (map f rows)) ≡ length (filter q rows) = maps_alike c f far rows in
    ap (λ b. length (cond b (f row ∷ filter p (map f rows)) (filter p (map f rows)))) (sym (one_further c (far (f row))))
    ∙ elim (q row) as (λ b. length (cond b (f row ∷ filter p (map f rows)) (filter p (map f rows))) ≡ length (cond b (row ∷ filter q rows) (filter q rows))) [ true ↦ ap suc rest | false ↦ rest ]

-- as many rows come out of the first operators as come through them
pub reached : (ops : List Op) (c : ℕ) → AreStateless ops → c ≤ length ops → (rows : List Row) → length (through (take c ops) rows) ≡ length (filter (λ row. nat_le c (reach ops row)) rows)
reached ops zero h le rows = sym (ap length (keeps_all (λ row. nat_le 0 (reach ops row)) (λ row. none_left (reach ops row)) rows))
reached [] (suc c) h le rows = absurd (omega (arith, le))
reached (Filter t ∷ ops) (suc c) h le rows = reached ops c h (omega (arith, le)) (filter t rows) ∙ ap length (filters_both c t (reach ops) rows)
reached (Map f ∷ ops) (suc c) h le rows = reached ops c h (omega (arith, le)) (map f rows) ∙ maps_alike c f (reach ops) rows
reached (Distinct ∷ ops) (suc c) h le rows = absurd h
reached (Reduce g ∷ ops) (suc c) h le rows = absurd h
