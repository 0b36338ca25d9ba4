-- After a reduce stand thresholds alone: what passes them passes with a greater value.
use Rattle.std.proofs.Common.{◌≡◌, ℕ, ◌<◌, ◌≤◌, List, [], ◌∷◌, ◌++◌, map, filter, length, slice_index, Bool, true, false, ◌&&◌, ◌||◌, cond, nat_eq, refl, ap, sym, ◌∙◌, subst}
use Rattle.std.specs.List.{list_any}
use Rattle.std.specs.Cmp.Lexicographic.{nat_list_eq_equiv}
use Rattle.std.proofs.lemmas.Bool.{false≢true}
use Rattle.sn_base.specs.AnyFold.{any_has}
use Rattle.sn_base.specs.Groups.{Row, once, same_row}
use Rattle.sn_base.specs.Operators.{Grouping, Op, apply, grouped, pair_of, row_for, through}
use Rattle.sn_base.specs.Operators.Op.{Filter, Map, Distinct, Reduce}
use Rattle.sn_base.proofs.Lists.{and_both, and_parts, by_test, nat_same, nat_self, or_left, or_right}
use Rattle.sn_base.proofs.OnceLemmas.{any_once}
use Rattle.sn_base.proofs.FoldedLemmas.{same_row_exact}
use Rattle.sn_base.proofs.GroupLemmas.{AllHad, key_long, keys, keys_of, total, total_had}
use Rattle.sn_refine_laws.specs.Carrying.{CarriesTo}
use Rattle.sn_refine_laws.specs.Masking.{AllFollow, KeyFollows, changed_at, shown, AreThresholds, keeps_row}
use Rattle.sn_refine_laws.proofs.Changed.{changed_long, read_changed}
use Rattle.sn_refine_laws.proofs.Coarser.{front_within, key_occurs, total_rises}
use Rattle.sn_refine_laws.proofs.Filtering.{read_key}
use Rattle.sn_refine_laws.proofs.Within.{IsWithin, Rises}

-- ---- lists

-- one that passes
pub one_found : (t : Row → Bool) (ks : List Row) → list_any t ks ≡ true → (k : Row) × (list_any (same_row k) ks ≡ true) × (t k ≡ true)
one_found t [] is = absurd (false≢true is)
one_found t (x ∷ xs) is =
    by_test (t x)
    (λ here. (x, or_left (same_row x x) (list_any (same_row x) xs) (nat_list_eq_equiv.refl x), here))
    (λ isnt. let later = one_found t xs (sym (ap (λ b. b || list_any t xs) isnt) ∙ is) in
    (later.0, or_right (same_row later.0 x) (list_any (same_row later.0) xs) later.1, later.2))

pub any_member : (t : Row → Bool) (k : Row) (ks : List Row) → list_any (same_row k) ks ≡ true → t k ≡ true → list_any t ks ≡ true
any_member t k [] is passes = absurd (false≢true is)
any_member t k (x ∷ xs) is passes =
    by_test (same_row k x)
    (λ here. or_left (t x) (list_any t xs) (ap t (sym (same_row_exact k x here)) ∙ passes))
    (λ isnt. or_right (t x) (list_any t xs) (any_member t k xs (sym (ap (λ b. b || list_any (same_row k) xs) isnt) ∙ is) passes))

-- a number among those that are read of rows that pass
pub any_read : (u : ℕ → Bool) (read : Row → ℕ) (t : Row → Bool) (f : Row → Row) (ks : List Row) → list_any u (map read (filter t (map f ks))) ≡ list_any (λ k. t (f k) && u (read (f k))) ks
any_read u read t f [] = refl
any_read u read t f (k ∷ ks) =
    let rest = filter t (map f ks) in
    elim (t (f k)) as (λ b. list_any u (map read (cond b (f k ∷ rest) rest)) ≡ ((b && u (read (f k))) || list_any (λ x. t (f x) && u (read (f x))) ks)) [
      | true ↦ ap (λ c. u (read (f k)) || c) (any_read u read t f ks)
      | false ↦ any_read u read t f ks
    ]

filter_every : (rows : List Row) → filter (λ row. true) rows ≡ rows
filter_every [] = refl
filter_every (row ∷ rows) = ap (λ xs. row ∷ xs) (filter_every rows)

filter_and : (s t : Row → Bool) (rows : List Row) → filter s (filter t rows) ≡ filter (λ row. t row && s row) rows
filter_and s t [] = refl
filter_and s t (row ∷ rows) =
    let rest = filter (λ x. t x && s x) rows in
    elim (t row) as (λ b. filter s (cond b (row ∷ filter t rows) (filter t rows)) ≡ cond (b && s row) (row ∷ rest) rest) [
      | true ↦ ap (λ xs. cond (s row) (row ∷ xs) xs) (filter_and s t rows)
      | false ↦ filter_and s t rows
    ]

-- ---- operators

pub through_both : (os ns : List Op) (rows : List Row) → through (os ++ ns) rows ≡ through ns (through os rows)
through_both [] ns rows = refl
through_both (o ∷ os) ns rows = through_both os ns (apply o rows)

pub through_kept : (os : List Op) → AreThresholds os → (rows : List Row) → through os rows ≡ filter (keeps_row os) rows
through_kept [] only rows = sym (filter_every rows)
through_kept (Filter t ∷ os) only rows = through_kept os only (filter t rows) ∙ filter_and (keeps_row os) t rows
through_kept (Map f ∷ os) only rows = absurd only
through_kept (Distinct ∷ os) only rows = absurd only
through_kept (Reduce g ∷ os) only rows = absurd only

module _ (m : ℕ → ℕ) (zeros : m 0 ≡ 0) (a : ℕ) where
  abbrev number_at : ℕ → Row → ℕ
  number_at q row = slice_index row q

  -- the rows of a reduce that pass what stands after it have this number, changed
  reduced : (g : Grouping) (finer coarser : List Op) (p q : ℕ) → CarriesTo (Reduce g) p q → KeyFollows m g p q → Rises g.by → AreThresholds finer → AreThresholds coarser
      → ((k l : Row) (v w : ℕ) → length k ≡ length g.places → length l ≡ length g.places → v ≤ w → any_has g.by w → keeps_row finer (k ++ v ∷ []) ≡ true → keeps_row coarser (l ++ w ∷ []) ≡ true)
      → (xs ys : List Row) → IsWithin (shown m a p xs) ys → AllHad g (map (pair_of g) ys)
      → list_any (nat_eq a) (map (number_at q) (through finer (apply (Reduce g) xs))) ≡ true
      → list_any (nat_eq (m a)) (map (number_at q) (through coarser (apply (Reduce g) ys))) ≡ true
  reduced g finer coarser p q c f rises of of' more xs ys h had is =
      let xp = map (pair_of g) xs in
      let yp = map (pair_of g) ys in
      let test : Row → Bool = λ k. keeps_row finer (row_for g xp k) && nat_eq a (number_at q (row_for g xp k)) in
      let test' : Row → Bool = λ k. keeps_row coarser (row_for g yp k) && nat_eq (m a) (number_at q (row_for g yp k)) in
      let there = one_found test (once same_row (keys xp)) (sym (ap (λ rows. list_any (nat_eq a) (map (number_at q) rows)) (through_kept finer of (grouped g xp)) ∙ any_read (nat_eq a) (number_at q) (keeps_row finer) (row_for g xp) (once same_row (keys xp))) ∙ is) in
      let k : Row = there.0 in
      let parts = and_parts (keeps_row finer (row_for g xp k)) (nat_eq a (number_at q (row_for g xp k))) there.2 in
      let occurs : list_any (same_row k) (keys xp) ≡ true = sym (any_once nat_list_eq_equiv same_row_exact k (keys xp)) ∙ there.1 in
      let long : length k ≡ length g.places = key_long g k xs (sym (ap (list_any (same_row k)) (keys_of g xs)) ∙ occurs) in
      let lt : q < length k = subst (λ (n : ℕ). q < n) (sym long) c.0 in
      let e : slice_index k q ≡ a = sym (nat_same a (number_at q (row_for g xp k)) parts.1 ∙ read_key k (total g xp k) q lt) in
      let l : Row = changed_at m k q in
      let long' : length l ≡ length g.places = changed_long m k q ∙ long in
      let lt' : q < length l = subst (λ (n : ℕ). q < n) (sym long') c.0 in
      let passes : keeps_row coarser (row_for g yp l) ≡ true = more k l (total g xp k) (total g yp l) long long' (total_rises m a g p q c f xs ys h rises had k e) (total_had g yp l had) parts.0 in
      let reads : number_at q (row_for g yp l) ≡ m a = read_key l (total g yp l) q lt' ∙ read_changed m zeros k q ∙ ap m e in
      let whole : test' l ≡ true = and_both (keeps_row coarser (row_for g yp l)) (nat_eq (m a) (number_at q (row_for g yp l))) passes (ap (nat_eq (m a)) reads ∙ nat_self (m a)) in
      ap (λ rows. list_any (nat_eq (m a)) (map (number_at q) rows)) (through_kept coarser of' (grouped g yp))
      ∙ any_read (nat_eq (m a)) (number_at q) (keeps_row coarser) (row_for g yp) (once same_row (keys yp))
      ∙ any_member test' l (once same_row (keys yp)) (any_once nat_list_eq_equiv same_row_exact l (keys yp) ∙ key_occurs m a g p q c f xs ys h k e occurs) whole

  -- A number that a monotone branch answers is answered, changed, by the branch that does the same with changed numbers, on
  -- more rows.
  pub coarser_answers : (os ns : List Op) (g : Grouping) (finer coarser : List Op) (p r q : ℕ) → AllFollow m os ns p r → CarriesTo (Reduce g) r q → KeyFollows m g r q → Rises g.by → AreThresholds finer → AreThresholds coarser
      → ((k l : Row) (v w : ℕ) → length k ≡ length g.places → length l ≡ length g.places → v ≤ w → any_has g.by w → keeps_row finer (k ++ v ∷ []) ≡ true → keeps_row coarser (l ++ w ∷ []) ≡ true)
      → (xs ys : List Row) → IsWithin (shown m a p xs) ys → AllHad g (map (pair_of g) (through ns ys))
      → list_any (nat_eq a) (map (number_at q) (through (os ++ Reduce g ∷ finer) xs)) ≡ true
      → list_any (nat_eq (m a)) (map (number_at q) (through (ns ++ Reduce g ∷ coarser) ys)) ≡ true
  coarser_answers os ns g finer coarser p r q f c key rises of of' more xs ys h had is =
      ap (λ rows. list_any (nat_eq (m a)) (map (number_at q) rows)) (through_both ns (Reduce g ∷ coarser) ys)
      ∙ reduced g finer coarser r q c key rises of of' more (through os xs) (through ns ys) (front_within m a os ns p r f xs ys h) had
      (sym (ap (λ rows. list_any (nat_eq a) (map (number_at q) rows)) (through_both os (Reduce g ∷ finer) xs)) ∙ is)
