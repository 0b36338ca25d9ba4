-- Filters by the numbers of a carried column, before and after operators.
use Rattle.std.proofs.Common.{◌≡◌, ℕ, ◌<◌, List, [], ◌∷◌, ◌++◌, map, filter, fold, length, slice_index, Bool, cond, refl, ap, sym, ◌∙◌, subst}
use Rattle.std.specs.List.{AllByRecursion}
use Rattle.std.specs.Cmp.Lexicographic.{nat_list_eq_equiv}
use Rattle.std.proofs.lemmas.List.{get_or_append_left, get_or-map, length-map}
use Rattle.sn_base.specs.AnyFold.{any_unit, any_step}
use Rattle.sn_base.specs.Groups.{Row, once, same_row}
use Rattle.sn_base.specs.Operators.{Grouping, Op, apply, grouped, key_of, pair_of, row_for, through}
use Rattle.sn_base.specs.Operators.Op.{Filter, Map, Distinct, Reduce}
use Rattle.sn_base.proofs.Lists.{filter_map, filter_turned, map_where, filter_same}
use Rattle.sn_base.proofs.OnceLemmas.{all_once, once_filter}
use Rattle.sn_base.proofs.FoldedLemmas.{same_row_exact}
use Rattle.sn_base.proofs.GroupLemmas.{keys, keys_of, total, values_kept}
use Rattle.sn_refine_laws.specs.Carrying.{CarriesTo, CarryTo, passes}

-- two tests that agree on the elements of a list
pub filter_where : {A : Type 0} (p q : A → Bool) (xs : List A) → AllByRecursion (λ x. p x ≡ q x) xs → filter p xs ≡ filter q xs
filter_where p q [] h = refl
filter_where p q (x ∷ xs) h = ap (λ ys. cond (p x) (x ∷ ys) ys) (filter_where p q xs h.1) ∙ ap (λ b. cond b (x ∷ filter q xs) (filter q xs)) h.0

pub all_same : {A : Type 0} (P Q : A → Type 0) → ((x : A) → P x → Q x) → (xs : List A) → AllByRecursion P xs → AllByRecursion Q xs
all_same P Q f [] h = tt
all_same P Q f (x ∷ xs) h = (f x h.0, all_same P Q f xs h.1)

abbrev row_with : Row → ℕ → Row
row_with key n = key ++ n ∷ []

-- a key's number stands in its row
pub read_key : (key : Row) (n q : ℕ) → q < length key → slice_index (key ++ n ∷ []) q ≡ slice_index key q
read_key key n q lt = get_or_append_left key (n ∷ []) 0 q lt

module _ (keep : ℕ → Bool) (g : Grouping) (q : ℕ) where
  -- the groups of the pairs whose keys pass are the groups that pass
  pub grouped_filtered : (pairs : List (Row × ℕ)) → AllByRecursion (λ (k : Row). q < length k) (keys pairs) →
      grouped g (filter (λ p. passes keep q p.0) pairs) ≡ filter (passes keep q) (grouped g pairs)
  grouped_filtered pairs long =
      let test : Row → Bool = passes keep q in
      let out = filter (λ (p : Row × ℕ). test p.0) pairs in
      let ks = once same_row (keys pairs) in
      let passing : once same_row (keys out) ≡ filter test ks =
      ap (once same_row) (filter_map (λ (p : Row × ℕ). p.0) test pairs) ∙ once_filter nat_list_eq_equiv same_row_exact test (keys pairs) in
      ap (map (row_for g out)) passing
      ∙ map_where (row_for g out) (row_for g pairs) test (λ k is. ap (λ vs. row_with k (fold (any_step g.by) (any_unit g.by) vs)) (values_kept test k is pairs)) ks
      ∙ ap (map (row_for g pairs)) (filter_where test (λ k. test (row_for g pairs k)) ks
      (all_same (λ (k : Row). q < length k) (λ k. test k ≡ test (row_for g pairs k)) (λ k lt. ap keep (sym (read_key k (total g pairs k) q lt))) ks (all_once same_row (λ (k : Row). q < length k) (keys pairs) long)))
      ∙ filter_map (row_for g pairs) test ks

  pub keys_long : q < length g.places → (rows : List Row) → AllByRecursion (λ (k : Row). q < length k) (map (key_of g) rows)
  keys_long lt [] = tt
  keys_long lt (row ∷ rows) = (subst (λ (n : ℕ). q < n) (sym (length-map g.places (λ place. slice_index row place))) lt, keys_long lt rows)

-- the number at a place of a key
pub key_reads : (g : Grouping) (p q : ℕ) → CarriesTo (Reduce g) p q → (row : Row) → slice_index (key_of g row) q ≡ slice_index row p
key_reads g p q c row = get_or-map (λ place. slice_index row place) g.places q 0 0 c.0 ∙ ap (slice_index row) c.1

-- the pairs of the rows that pass
pub pairs_filtered : (keep : ℕ → Bool) (g : Grouping) (p q : ℕ) → CarriesTo (Reduce g) p q → (rows : List Row) →
    map (pair_of g) (filter (passes keep p) rows) ≡ filter (λ x. passes keep q x.0) (map (pair_of g) rows)
pairs_filtered keep g p q c rows =
    ap (map (pair_of g)) (filter_same (passes keep p) (λ row. passes keep q (pair_of g row).0) (λ row. ap keep (sym (key_reads g p q c row))) rows)
    ∙ filter_map (pair_of g) (λ (x : Row × ℕ). passes keep q x.0) rows

pub apply_filtered : (keep : ℕ → Bool) (op : Op) (p q : ℕ) → CarriesTo op p q → (rows : List Row) → apply op (filter (passes keep p) rows) ≡ filter (passes keep q) (apply op rows)
apply_filtered keep (Filter t) p q c rows = filter_turned t (passes keep p) rows ∙ ap (λ (n : ℕ). filter (passes keep n) (filter t rows)) c
apply_filtered keep (Map f) p q c rows = ap (map f) (filter_same (passes keep p) (λ row. passes keep q (f row)) (λ row. ap keep (sym (c row))) rows) ∙ filter_map f (passes keep q) rows
apply_filtered keep Distinct p q c rows = once_filter nat_list_eq_equiv same_row_exact (passes keep p) rows ∙ ap (λ (n : ℕ). filter (passes keep n) (once same_row rows)) c
apply_filtered keep (Reduce g) p q c rows =
    ap (grouped g) (pairs_filtered keep g p q c rows)
    ∙ grouped_filtered keep g q (map (pair_of g) rows) (subst (λ (ks : List Row). AllByRecursion (λ (k : Row). q < length k) ks) (sym (keys_of g rows)) (keys_long keep g q c.0 rows))

pub through_filtered : (keep : ℕ → Bool) (ops : List Op) (p q : ℕ) → CarryTo ops p q → (rows : List Row) → through ops (filter (passes keep p) rows) ≡ filter (passes keep q) (through ops rows)
through_filtered keep [] p q c rows = ap (λ (n : ℕ). filter (passes keep n) rows) c
through_filtered keep (op ∷ ops) p q c rows = ap (through ops) (apply_filtered keep op p c.0 c.1 rows) ∙ through_filtered keep ops c.0 q c.2 (apply op rows)
