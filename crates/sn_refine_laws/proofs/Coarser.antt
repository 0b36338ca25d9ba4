-- What operators make of the rows of a number is within what they make of more rows in which that number is changed.
use Rattle.std.proofs.Common.{◌≡◌, ℕ, ◌≤◌, List, [], ◌∷◌, map, filter, fold, slice_index, Bool, true, false, cond, nat_eq, ap, sym, ◌∙◌, subst}
use Rattle.std.specs.List.{AllByRecursion, list_any}
use Rattle.std.specs.Cmp.Lexicographic.{nat_list_eq_equiv}
use Rattle.sn_base.specs.AnyFold.{any_has}
use Rattle.sn_base.specs.Groups.{Row, once, same_row, values_at}
use Rattle.sn_base.specs.Operators.{Grouping, Op, apply, pair_of, through}
use Rattle.sn_base.specs.Operators.Op.{Filter, Map, Distinct, Reduce}
use Rattle.sn_base.proofs.Lists.{filter_map, filter_turned, filter_within, map_agree, map_both, nat_same, nat_self, filter_same}
use Rattle.sn_base.proofs.OnceLemmas.{once_filter}
use Rattle.sn_base.proofs.FoldedLemmas.{same_row_exact}
use Rattle.sn_base.proofs.GroupLemmas.{AllHad, keys, total}
use Rattle.sn_refine_laws.specs.Carrying.{CarriesTo}
use Rattle.sn_refine_laws.specs.Masking.{AllFollow, Follows, KeyFollows, changed_at, shown}
use Rattle.sn_refine_laws.proofs.Changed.{all_numbered, all_passing, occurs_changed, once_changed, same_changed}
use Rattle.sn_refine_laws.proofs.Filtering.{all_same, filter_where, pairs_filtered}
use Rattle.sn_refine_laws.proofs.Within.{IsWithin, Rises, fold_within, within_any, within_filter, within_map, within_once, within_same}

abbrev pair_up : Row → ℕ → Row × ℕ
pair_up k v = (k, v)

pair_same : {k l : Row} {v w : ℕ} → k ≡ l → v ≡ w → pair_up k v ≡ pair_up l w
pair_same {k = k} {w = w} e f = ap (pair_up k) f ∙ ap (λ (z : Row). pair_up z w) e

module _ (m : ℕ → ℕ) (a : ℕ) where
  abbrev at : ℕ → Row → Bool
  at p row = nat_eq a (slice_index row p)

  abbrev to : ℕ → Row → Row
  to p row = changed_at m row p

  abbrev moved : ℕ → List Row → List Row
  moved p rows = shown m a p rows

  -- ---- one operator

  filter_shown : (t u : Row → Bool) (p : ℕ) → ((row : Row) → u (to p row) ≡ t row) → (rows : List Row) → filter u (moved p rows) ≡ moved p (filter t rows)
  filter_shown t u p same rows =
      sym (filter_map (to p) u (filter (at p) rows))
      ∙ ap (map (to p)) (filter_same (λ row. u (to p row)) t same (filter (at p) rows))
      ∙ ap (map (to p)) (filter_turned t (at p) rows)

  map_shown : (f h : Row → Row) (p q : ℕ) → ((row : Row) → slice_index (f row) q ≡ slice_index row p) → ((row : Row) → h (to p row) ≡ to q (f row)) → (rows : List Row) → map h (moved p rows) ≡ moved q (map f rows)
  map_shown f h p q reads same rows =
      map_both (to p) h (filter (at p) rows)
      ∙ map_agree (λ row. h (to p row)) (λ row. to q (f row)) same (filter (at p) rows)
      ∙ sym (map_both f (to q) (filter (at p) rows))
      ∙ ap (map (to q)) (ap (map f) (filter_same (at p) (λ row. at q (f row)) (λ row. ap (nat_eq a) (sym (reads row))) rows) ∙ filter_map f (at q) rows)

  once_shown : (p : ℕ) (rows : List Row) → once same_row (moved p rows) ≡ moved p (once same_row rows)
  once_shown p rows =
      once_changed m a p (filter (at p) rows) (all_numbered a p rows)
      ∙ ap (map (to p)) (once_filter nat_list_eq_equiv same_row_exact (at p) rows)

  step_within : (o n : Op) (p q : ℕ) → CarriesTo o p q → Follows m o n p q → (xs ys : List Row) → IsWithin (moved p xs) ys → IsWithin (moved q (apply o xs)) (apply n ys)
  step_within (Filter t) (Filter u) p q c f xs ys h =
      subst (λ (k : ℕ). IsWithin (moved k (filter t xs)) (filter u ys)) c (within_same (filter_shown t u p f.1 xs) (within_filter u (moved p xs) ys h))
  step_within (Filter t) (Map k) p q c f xs ys h = absurd f
  step_within (Filter t) Distinct p q c f xs ys h = absurd f
  step_within (Filter t) (Reduce g) p q c f xs ys h = absurd f
  step_within (Map f) (Filter t) p q c s xs ys h = absurd s
  step_within (Map f) (Map k) p q c s xs ys h = within_same (map_shown f k p q c s xs) (within_map k (moved p xs) ys h)
  step_within (Map f) Distinct p q c s xs ys h = absurd s
  step_within (Map f) (Reduce g) p q c s xs ys h = absurd s
  step_within Distinct (Filter t) p q c f xs ys h = absurd f
  step_within Distinct (Map k) p q c f xs ys h = absurd f
  step_within Distinct Distinct p q c f xs ys h =
      subst (λ (k : ℕ). IsWithin (moved k (once same_row xs)) (once same_row ys)) c (within_same (once_shown p xs) (within_once (moved p xs) ys h))
  step_within Distinct (Reduce g) p q c f xs ys h = absurd f
  step_within (Reduce g) (Filter t) p q c f xs ys h = absurd f
  step_within (Reduce g) (Map k) p q c f xs ys h = absurd f
  step_within (Reduce g) Distinct p q c f xs ys h = absurd f
  step_within (Reduce g) (Reduce g') p q c f xs ys h = absurd f

  -- ---- a reduce

  abbrev pair_to : ℕ → Row × ℕ → Row × ℕ
  pair_to q x = (changed_at m x.0 q, x.1)

  abbrev pair_at : ℕ → Row × ℕ → Bool
  pair_at q x = nat_eq a (slice_index x.0 q)

  pairs_shown : (g : Grouping) (p q : ℕ) → CarriesTo (Reduce g) p q → KeyFollows m g p q → (rows : List Row) → map (pair_of g) (moved p rows) ≡ map (pair_to q) (filter (pair_at q) (map (pair_of g) rows))
  pairs_shown g p q c f rows =
      map_both (to p) (pair_of g) (filter (at p) rows)
      ∙ map_agree (λ row. pair_of g (to p row)) (λ row. pair_to q (pair_of g row)) (λ row. pair_same (f.key row) (f.value row)) (filter (at p) rows)
      ∙ sym (map_both (pair_of g) (pair_to q) (filter (at p) rows))
      ∙ ap (map (pair_to q)) (pairs_filtered (nat_eq a) g p q c rows)

  -- a key's values are among those of the changed key
  values_shown : (q : ℕ) (k : Row) → slice_index k q ≡ a → (pairs : List (Row × ℕ)) → values_at same_row (changed_at m k q) (map (pair_to q) (filter (pair_at q) pairs)) ≡ values_at same_row k pairs
  values_shown q k e pairs =
      let kept = filter (pair_at q) pairs in
      ap (map (λ (x : Row × ℕ). x.1))
      (sym (filter_map (pair_to q) (λ (x : Row × ℕ). same_row (changed_at m k q) x.0) kept)
      ∙ ap (map (pair_to q)) (filter_where (λ (x : Row × ℕ). same_row (changed_at m k q) (changed_at m x.0 q)) (λ x. same_row k x.0) kept
      (all_same (λ (x : Row × ℕ). pair_at q x ≡ true) (λ x. same_row (changed_at m k q) (changed_at m x.0 q) ≡ same_row k x.0) (λ x is. same_changed m a k x.0 q e (sym (nat_same a (slice_index x.0 q) is))) kept (all_passing (pair_at q) pairs))
      ∙ filter_within (λ (x : Row × ℕ). same_row k x.0) (pair_at q) (λ x is. ap (nat_eq a) (ap (λ (z : Row). slice_index z q) (sym (same_row_exact k x.0 is)) ∙ e) ∙ nat_self a) pairs))
      ∙ map_both (pair_to q) (λ (x : Row × ℕ). x.1) (filter (λ x. same_row k x.0) pairs)

  module _ (g : Grouping) (p q : ℕ) (c : CarriesTo (Reduce g) p q) (f : KeyFollows m g p q) (xs ys : List Row) (h : IsWithin (moved p xs) ys) where
    pairs_within : IsWithin (map (pair_to q) (filter (pair_at q) (map (pair_of g) xs))) (map (pair_of g) ys)
    pairs_within = within_same (pairs_shown g p q c f xs) (within_map (pair_of g) (moved p xs) ys h)

    -- a key of this number occurs changed
    pub key_occurs : (k : Row) → slice_index k q ≡ a → list_any (same_row k) (keys (map (pair_of g) xs)) ≡ true → list_any (same_row (changed_at m k q)) (keys (map (pair_of g) ys)) ≡ true
    key_occurs k e is =
        let xp = map (pair_of g) xs in
        within_any (same_row (changed_at m k q)) _ (keys (map (pair_of g) ys)) (within_map (λ (x : Row × ℕ). x.0) _ (map (pair_of g) ys) pairs_within)
        (ap (list_any (same_row (changed_at m k q)))
        (map_both (pair_to q) (λ (x : Row × ℕ). x.0) (filter (pair_at q) xp)
        ∙ sym (map_both (λ (x : Row × ℕ). x.0) (λ z. changed_at m z q) (filter (pair_at q) xp))
        ∙ ap (map (λ z. changed_at m z q)) (filter_map (λ (x : Row × ℕ). x.0) (λ z. nat_eq a (slice_index z q)) xp))
        ∙ occurs_changed m a q k (keys xp) e is)

    -- and its fold is at least what it was
    pub total_rises : Rises g.by → AllHad g (map (pair_of g) ys) → (k : Row) → slice_index k q ≡ a → total g (map (pair_of g) xs) k ≤ total g (map (pair_of g) ys) (changed_at m k q)
    total_rises rises had k e =
        let xp = map (pair_of g) xs in
        let yp = map (pair_of g) ys in
        let mk = changed_at m k q in
        let part = within_map (λ (x : Row × ℕ). x.1) _ _ (within_filter (λ (x : Row × ℕ). same_row mk x.0) _ yp pairs_within) in
        fold_within g.by rises (values_at same_row k xp) (values_at same_row mk yp) (within_same (values_shown q k e xp) part) (values_of mk yp had)
      where
        values_of : (key : Row) (pairs : List (Row × ℕ)) → AllHad g pairs → AllByRecursion (any_has g.by) (values_at same_row key pairs)
        values_of key [] had = tt
        values_of key (x ∷ pairs) had =
            elim (same_row key x.0) as (λ b. AllByRecursion (any_has g.by) (map (λ (y : Row × ℕ). y.1) (cond b (x ∷ filter (λ y. same_row key y.0) pairs) (filter (λ y. same_row key y.0) pairs)))) [
              | true ↦ (had.0, values_of key pairs had.1)
              | false ↦ values_of key pairs had.1
            ]

  -- ---- operators up to a reduce

  pub front_within : (os ns : List Op) (p q : ℕ) → AllFollow m os ns p q → (xs ys : List Row) → IsWithin (moved p xs) ys → IsWithin (moved q (through os xs)) (through ns ys)
  front_within [] [] p q f xs ys h = subst (λ (k : ℕ). IsWithin (moved k xs) ys) f h
  front_within [] (n ∷ ns) p q f xs ys h = absurd f
  front_within (o ∷ os) [] p q f xs ys h = absurd f
  front_within (o ∷ os) (n ∷ ns) p q f xs ys h = front_within os ns f.0 q f.3 (apply o xs) (apply n ys) (step_within o n p f.0 f.1 f.2 xs ys h)
