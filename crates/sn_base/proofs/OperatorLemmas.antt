-- Operators over bags of rows.
use Rattle.std.proofs.Common.{◌≡◌, ℕ, List, [], ◌∷◌, ◌++◌, map, filter, slice_index, Bool, true, false, cond, refl, sym, subst}
use Rattle.std.specs.List.{AllByRecursion}
use Rattle.std.specs.Cmp.Lexicographic.{nat_list_eq_equiv}
use Rattle.sn_base.specs.Bags.{SameBag}
use Rattle.sn_base.specs.AnyFold.{any_has}
use Rattle.sn_base.specs.Groups.{Row, once, same_row}
use Rattle.sn_base.specs.Operators.{Grouping, Op, row_for, key_of, pair_of, apply, through, Had, join}
use Rattle.sn_base.specs.Operators.Op.{Filter, Map, Distinct, Reduce}
use Rattle.sn_base.proofs.Lists.{all_map, all_weaker}
use Rattle.sn_base.proofs.BagLemmas.{bag_map, bag_filter, bag_then, flat_bag, flat_each}
use Rattle.sn_base.proofs.OnceLemmas.{all_once, bag_once}
use Rattle.sn_base.proofs.FoldedLemmas.{same_row_exact}
use Rattle.sn_base.proofs.GroupLemmas.{keys, keys_of, AllHad, total, total_had, grouped_bag}

abbrev pub AllOf : List Op → List Row → Type 0
AllOf ops rows = AllByRecursion (Had ops) rows

-- the pairs of rows bring a reduce numbers that its fold has
pub pairs_had : (g : Grouping) (ops : List Op) (rows : List Row) → AllOf (Reduce g ∷ ops) rows → AllHad g (map (pair_of g) rows)
pairs_had g ops rows h =
    all_map (λ (p : Row × ℕ). any_has g.by p.1) (pair_of g) rows (all_weaker (Had (Reduce g ∷ ops)) (λ row. any_has g.by (slice_index row g.value)) (λ row had. had.0) rows h)

had_filter : (t : Row → Bool) (ops : List Op) (rows : List Row) → AllOf (Filter t ∷ ops) rows → AllOf ops (filter t rows)
had_filter t ops [] h = tt
had_filter t ops (row ∷ rows) h =
    let rest = had_filter t ops rows h.1 in
    (elim (t row) as (λ b. (b ≡ true → Had ops row) → AllOf ops (cond b (row ∷ filter t rows) (filter t rows))) [ true ↦ λ had. (had refl, rest) | false ↦ λ had. rest ]) h.0

-- rows of keys, with any numbers of the fold
pub had_rows_for : (g : Grouping) (ops : List Op) (pairs : List (Row × ℕ)) → AllHad g pairs → (ks : List Row) → AllByRecursion (λ k. (a : ℕ) → any_has g.by a → Had ops (k ++ a ∷ [])) ks → AllOf ops (map (row_for g pairs) ks)
had_rows_for g ops pairs had ks h =
    all_map (Had ops) (row_for g pairs) ks (all_weaker (λ k. (a : ℕ) → any_has g.by a → Had ops (k ++ a ∷ [])) (λ k. Had ops (row_for g pairs k)) (λ k of_any. of_any (total g pairs k) (total_had g pairs k had)) ks h)

pub keys_had : (g : Grouping) (ops : List Op) (rows : List Row) → AllOf (Reduce g ∷ ops) rows → AllByRecursion (λ k. (a : ℕ) → any_has g.by a → Had ops (k ++ a ∷ [])) (map (key_of g) rows)
keys_had g ops rows h =
    all_map (λ k. (a : ℕ) → any_has g.by a → Had ops (k ++ a ∷ [])) (key_of g) rows
    (all_weaker (Had (Reduce g ∷ ops)) (λ row. (a : ℕ) → any_has g.by a → Had ops (key_of g row ++ a ∷ [])) (λ row had. had.1) rows h)

-- what an operator gives brings the folds after it numbers that they have
pub had_after : (op : Op) (ops : List Op) (rows : List Row) → AllOf (op ∷ ops) rows → AllOf ops (apply op rows)
had_after (Filter t) ops rows h = had_filter t ops rows h
had_after (Map f) ops rows h = all_map (Had ops) f rows h
had_after Distinct ops rows h = all_once same_row (Had ops) rows h
had_after (Reduce g) ops rows h =
    let P : Row → Type 0 = λ k. (a : ℕ) → any_has g.by a → Had ops (k ++ a ∷ []) in
    had_rows_for g ops (map (pair_of g) rows) (pairs_had g ops rows h) (once same_row (keys (map (pair_of g) rows)))
    (all_once same_row P (keys (map (pair_of g) rows)) (subst (λ (ks : List Row). AllByRecursion P ks) (sym (keys_of g rows)) (keys_had g ops rows h)))

-- an operator maps equal bags to equal bags
pub apply_bag : (op : Op) (ops : List Op) (xs ys : List Row) → AllOf (op ∷ ops) xs → SameBag xs ys → SameBag (apply op xs) (apply op ys)
apply_bag (Filter t) ops xs ys h b = bag_filter t xs ys b
apply_bag (Map f) ops xs ys h b = bag_map f xs ys b
apply_bag Distinct ops xs ys h b = bag_once nat_list_eq_equiv same_row_exact xs ys b
apply_bag (Reduce g) ops xs ys h b = grouped_bag g (map (pair_of g) xs) (map (pair_of g) ys) (bag_map (pair_of g) xs ys b) (pairs_had g ops xs h)

-- and so does a branch
pub through_bag : (ops : List Op) (xs ys : List Row) → AllOf ops xs → SameBag xs ys → SameBag (through ops xs) (through ops ys)
through_bag [] xs ys h b = b
through_bag (op ∷ ops) xs ys h b = through_bag ops (apply op xs) (apply op ys) (had_after op ops xs h) (apply_bag op ops xs ys h b)

-- a join of equal bags
pub join_bag : (meets : Row → Row → Bool) (both : Row → Row → Row) (xs xs' ys ys' : List Row) → SameBag xs xs' → SameBag ys ys' → SameBag (join meets both xs ys) (join meets both xs' ys')
join_bag meets both xs xs' ys ys' b c =
    bag_then
    (flat_bag (λ l. map (both l) (filter (meets l) ys)) xs xs' b)
    (flat_each (λ l. map (both l) (filter (meets l) ys)) (λ l. map (both l) (filter (meets l) ys')) (λ l. bag_map (both l) (filter (meets l) ys) (filter (meets l) ys') (bag_filter (meets l) ys ys' c)) xs')
