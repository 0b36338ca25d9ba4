-- Reduces over bags, and over rows of which a part was reduced before.
use Rattle.std.proofs.Common.{◌≡◌, ℕ, List, [], ◌∷◌, ◌++◌, map, filter, fold, take, length, slice_index, Bool, true, false, not, ◌||◌, cond, refl, ap, sym, ◌∙◌, append-nil}
use Rattle.std.specs.List.{list_any, AllByRecursion}
use Rattle.std.specs.Cmp.Lexicographic.{nat_list_eq_equiv}
use Rattle.std.proofs.lemmas.Bool.{false≢true}
use Rattle.std.proofs.lemmas.List.{map-append, length-map, take_at, get_or_at}
use Rattle.std.proofs.lemmas.List.Elements.{filter-append}
use Rattle.std.proofs.lemmas.List.Folds.{list_any-append}
use Rattle.std.proofs.lemmas.List.Sums.{fold-append}
use Rattle.sn_base.specs.Bags.{SameBag}
use Rattle.sn_base.specs.AnyFold.{any_has, any_unit, any_step, any_laws}
use Rattle.sn_base.specs.Groups.{Row, once, Apart, values_at, paired, folded, same_row}
use Rattle.sn_base.specs.Operators.{Grouping, row_for, grouped, key_of, pair_of, parted}
use Rattle.sn_base.proofs.Lists.{by_test, or_right, or_true, or_false, filter_within, filter_never, filter_map, filter_none, any_some, map_agree, map_where, map_both}
use Rattle.sn_base.proofs.BagLemmas.{bag_map, fold_bag, bag_same, bag_then, bag_before, bag_parted, bag_filter}
use Rattle.sn_base.proofs.FoldLemmas.{fold_had, fold_from}
use Rattle.sn_base.proofs.OnceLemmas.{once_apart, any_once, once_filter, filter_one, apart_bag, bag_once}
use Rattle.sn_base.proofs.FoldedLemmas.{same_row_exact}

-- a reduce is the fold at each key, each as one row
pub grouped_folded : (g : Grouping) (pairs : List (Row × ℕ)) → grouped g pairs ≡ map (λ e. e.0 ++ e.1 ∷ []) (folded same_row (any_step g.by) (any_unit g.by) pairs)
grouped_folded g pairs = sym (map_both (paired (λ k. fold (any_step g.by) (any_unit g.by) (values_at same_row k pairs))) (λ e. e.0 ++ e.1 ∷ []) (once same_row (map (λ p. p.0) pairs)))

pub same_self : (x : Row) → same_row x x ≡ true
same_self x = nat_list_eq_equiv.refl x

abbrev pub keys : List (Row × ℕ) → List Row
keys pairs = map (λ p. p.0) pairs

-- the fold at a key
abbrev pub total : Grouping → List (Row × ℕ) → Row → ℕ
total g pairs key = fold (any_step g.by) (any_unit g.by) (values_at same_row key pairs)

abbrev with_total : Row → ℕ → Row
with_total key n = key ++ n ∷ []

-- each value is one of the fold's
abbrev pub AllHad : Grouping → List (Row × ℕ) → Type 0
AllHad g pairs = AllByRecursion (λ (p : Row × ℕ). any_has g.by p.1) pairs

pub values_append : (k : Row) (ps qs : List (Row × ℕ)) → values_at same_row k (ps ++ qs) ≡ values_at same_row k ps ++ values_at same_row k qs
values_append k ps qs =
    ap (map (λ p. p.1)) (filter-append (λ p. same_row k p.0) ps qs)
    ∙ map-append (λ p. p.1) (filter (λ p. same_row k p.0) ps) (filter (λ p. same_row k p.0) qs)

values_had : (g : Grouping) (k : Row) (pairs : List (Row × ℕ)) → AllHad g pairs → AllByRecursion (any_has g.by) (values_at same_row k pairs)
values_had g k [] h = tt
values_had g k (p ∷ ps) h =
    elim (same_row k p.0) as (λ b. AllByRecursion (any_has g.by) (map (λ (q : Row × ℕ). q.1) (cond b (p ∷ filter (λ q. same_row k q.0) ps) (filter (λ q. same_row k q.0) ps)))) [
      | true ↦ (h.0, values_had g k ps h.1)
      | false ↦ values_had g k ps h.1
    ]

pub total_had : (g : Grouping) (pairs : List (Row × ℕ)) (k : Row) → AllHad g pairs → any_has g.by (total g pairs k)
total_had g pairs k h = let L = any_laws g.by in fold_had L (any_unit g.by) (values_at same_row k pairs) L.unit_had (values_had g k pairs h)

-- equal bags of pairs give equal bags of rows
pub grouped_bag : (g : Grouping) (ps qs : List (Row × ℕ)) → SameBag ps qs → AllHad g ps → SameBag (grouped g ps) (grouped g qs)
grouped_bag g ps qs b h =
    let L = any_laws g.by in
    bag_then
    (bag_map (row_for g ps) (once same_row (keys ps)) (once same_row (keys qs)) (bag_once nat_list_eq_equiv same_row_exact (keys ps) (keys qs) (bag_map (λ p. p.0) ps qs b)))
    (bag_same (map_agree (row_for g ps) (row_for g qs)
    (λ k. ap (λ (n : ℕ). with_total k n) (fold_bag L (values_at same_row k ps) (values_at same_row k qs)
    (bag_map (λ p. p.1) (filter (λ p. same_row k p.0) ps) (filter (λ p. same_row k p.0) qs) (bag_filter (λ p. same_row k p.0) ps qs b))
    (any_unit g.by) L.unit_had (values_had g k ps h)))
    (once same_row (keys qs))))

-- what a key has among the pairs whose keys pass a test that it passes
pub values_kept : (t : Row → Bool) (k : Row) → t k ≡ true → (pairs : List (Row × ℕ)) → values_at same_row k (filter (λ p. t p.0) pairs) ≡ values_at same_row k pairs
values_kept t k passes pairs =
    ap (map (λ p. p.1)) (filter_within (λ (p : Row × ℕ). same_row k p.0) (λ p. t p.0) (λ p is. ap t (sym (same_row_exact k p.0 is)) ∙ passes) pairs)

values_never : (t : Row → Bool) (k : Row) → t k ≡ false → (pairs : List (Row × ℕ)) → values_at same_row k (filter (λ p. t p.0) pairs) ≡ []
values_never t k fails pairs =
    ap (map (λ p. p.1)) (filter_never (λ (p : Row × ℕ). same_row k p.0) (λ p. t p.0) (λ p is. ap t (sym (same_row_exact k p.0 is)) ∙ fails) pairs)

pub any_filter : (t : Row → Bool) (k : Row) → t k ≡ true → (xs : List Row) → list_any (same_row k) (filter t xs) ≡ list_any (same_row k) xs
any_filter t k passes xs =
    any_some (same_row k) (filter t xs) ∙ ap (list_any (λ x. true)) (filter_within (same_row k) t (λ x is. ap t (sym (same_row_exact k x is)) ∙ passes) xs) ∙ sym (any_some (same_row k) xs)

pub any_fails : (t : Row → Bool) (k : Row) → t k ≡ false → (xs : List Row) → list_any (same_row k) (filter t xs) ≡ false
any_fails t k fails xs =
    any_some (same_row k) (filter t xs) ∙ ap (list_any (λ x. true)) (filter_never (same_row k) t (λ x is. ap t (sym (same_row_exact k x is)) ∙ fails) xs)

-- resident keys are those that occur and pass the test of residence
pub home_bag : (homes ks : List Row) → Apart same_row homes → ((k : Row) → list_any (same_row k) homes ≡ true → list_any (same_row k) ks ≡ true) → SameBag homes (filter (λ k. list_any (same_row k) homes) (once same_row ks))
home_bag homes ks apart known =
    let res : Row → Bool = λ k. list_any (same_row k) homes in
    bag_then
    (apart_bag nat_list_eq_equiv same_row_exact homes (once same_row (filter res ks)) apart (once_apart same_row (filter res ks))
    (λ k. by_test (res k)
    (λ is. is ∙ sym (any_once nat_list_eq_equiv same_row_exact k (filter res ks) ∙ any_filter res k is ks ∙ known k is))
    (λ isnt. isnt ∙ sym (any_once nat_list_eq_equiv same_row_exact k (filter res ks) ∙ any_fails res k isnt ks))))
    (bag_same (once_filter nat_list_eq_equiv same_row_exact res ks))

-- two functions that agree on the keys of a list
pub map_members : {Y : Type 0} (f h : Row → Y) (ks : List Row) → ((k : Row) → list_any (same_row k) ks ≡ true → f k ≡ h k) → map f ks ≡ map h ks
map_members f h [] e = refl
map_members f h (k ∷ ks) e =
    ap (λ y. y ∷ map f ks) (e k (ap (λ b. b || list_any (same_row k) ks) (same_self k)))
    ∙ ap (λ ys. h k ∷ ys) (map_members f h ks (λ x is. e x (or_right (same_row x k) (list_any (same_row x) ks) is)))

-- the keys of rows
pub keys_of : (g : Grouping) (rows : List Row) → keys (map (pair_of g) rows) ≡ map (key_of g) rows
keys_of g [] = refl
keys_of g (row ∷ rows) = ap (λ ks. key_of g row ∷ ks) (keys_of g rows)

abbrev pub with_of : Grouping → List (Row × ℕ) → Row → Row × ℕ
with_of g pairs k = (k, total g pairs k)

keys_with : (g : Grouping) (pairs : List (Row × ℕ)) (ks : List Row) → keys (map (with_of g pairs) ks) ≡ ks
keys_with g pairs [] = refl
keys_with g pairs (k ∷ ks) = ap (λ xs. k ∷ xs) (keys_with g pairs ks)

abbrev as_pair : Row → ℕ → Row × ℕ
as_pair xs m = (xs, m)

-- a reduce's row read back
pub parted_row : (g : Grouping) (pairs : List (Row × ℕ)) (k : Row) → length k ≡ length g.places → parted g (row_for g pairs k) ≡ with_of g pairs k
parted_row g pairs k long =
    let n = total g pairs k in
    let front : take (length g.places) (k ++ n ∷ []) ≡ k = take_at k (n ∷ []) (length g.places) long in
    let last : slice_index (k ++ n ∷ []) (length g.places) ≡ n = get_or_at k n [] 0 (length g.places) long in
    ap (λ xs. as_pair xs (slice_index (k ++ n ∷ []) (length g.places))) front ∙ ap (as_pair k) last

pub key_long : (g : Grouping) (k : Row) (rows : List Row) → list_any (same_row k) (map (key_of g) rows) ≡ true → length k ≡ length g.places
key_long g k [] is = absurd (false≢true is)
key_long g k (row ∷ rows) is =
    by_test (same_row k (key_of g row))
    (λ here. ap length (same_row_exact k (key_of g row) here) ∙ length-map g.places (λ place. slice_index row place))
    (λ isnt. key_long g k rows (sym (ap (λ b. b || list_any (same_row k) (map (key_of g) rows)) isnt) ∙ is))

-- the rows of resident keys read back
pub parted_rows : (g : Grouping) (rows homes : List Row) → ((k : Row) → list_any (same_row k) homes ≡ true → list_any (same_row k) (map (key_of g) rows) ≡ true) → map (parted g) (map (row_for g (map (pair_of g) rows)) homes) ≡ map (with_of g (map (pair_of g) rows)) homes
parted_rows g rows homes known =
    let pairs = map (pair_of g) rows in
    map_both (row_for g pairs) (parted g) homes
    ∙ map_members (λ k. parted g (row_for g pairs k)) (with_of g pairs) homes (λ k is. parted_row g pairs k (key_long g k rows (known k is)))

module _ (g : Grouping) (homes : List Row) (pairs : List (Row × ℕ)) (apart : Apart same_row homes) (known : (k : Row) → list_any (same_row k) homes ≡ true → list_any (same_row k) (keys pairs) ≡ true) where
  -- the overflow rows reduced by themselves, with the rows of the resident keys, are all rows reduced
  pub grouped_parted : SameBag (grouped g (filter (λ p. not (list_any (same_row p.0) homes)) pairs) ++ map (row_for g pairs) homes) (grouped g pairs)
  grouped_parted =
      let t : Row → Bool = λ k. list_any (same_row k) homes in
      let out = filter (λ (p : Row × ℕ). not (t p.0)) pairs in
      let ks = once same_row (keys pairs) in
      let over_keys : once same_row (keys out) ≡ filter (λ k. not (t k)) ks =
      ap (once same_row) (filter_map (λ (p : Row × ℕ). p.0) (λ k. not (t k)) pairs) ∙ once_filter nat_list_eq_equiv same_row_exact (λ k. not (t k)) (keys pairs) in
      let front : grouped g out ≡ map (row_for g pairs) (filter (λ k. not (t k)) ks) =
      ap (map (row_for g out)) over_keys
      ∙ map_where (row_for g out) (row_for g pairs) (λ k. not (t k)) (λ k is. ap (λ vs. with_total k (fold (any_step g.by) (any_unit g.by) vs)) (values_kept (λ x. not (t x)) k is pairs)) ks in
      bag_then
      (bag_before (grouped g out) (map (row_for g pairs) homes) (map (row_for g pairs) (filter t ks)) (bag_map (row_for g pairs) homes (filter t ks) (home_bag homes (keys pairs) apart known)))
      (bag_then
      (bag_same (ap (λ xs. xs ++ map (row_for g pairs) (filter t ks)) front ∙ sym (map-append (row_for g pairs) (filter (λ k. not (t k)) ks) (filter t ks))))
      (bag_map (row_for g pairs) (filter (λ k. not (t k)) ks ++ filter t ks) ks (bag_parted t ks)))

  -- rows that come by the engine, the overflow rows, and the rows of the resident keys with their folds: in any grouping a key has the fold of all its values
  pub partial_joined : (es : List (Row × ℕ)) → AllHad g es → AllHad g pairs → SameBag (grouped g ((es ++ filter (λ p. not (list_any (same_row p.0) homes)) pairs) ++ map (with_of g pairs) homes)) (grouped g (es ++ pairs))
  partial_joined es had_es had_pairs =
      let L = any_laws g.by in
      let step = any_step g.by in
      let unit = any_unit g.by in
      let t : Row → Bool = λ k. list_any (same_row k) homes in
      let out = filter (λ (p : Row × ℕ). not (t p.0)) pairs in
      let hs = map (with_of g pairs) homes in
      let occur : (k : Row) → list_any (same_row k) (keys ((es ++ out) ++ hs)) ≡ list_any (same_row k) (keys (es ++ pairs)) = λ k.
      let a = list_any (same_row k) (keys es) in
      let o = list_any (same_row k) (keys out) in
      let h = list_any (same_row k) homes in
      let q = list_any (same_row k) (keys pairs) in
      let out_keys : keys out ≡ filter (λ x. not (t x)) (keys pairs) = filter_map (λ (p : Row × ℕ). p.0) (λ x. not (t x)) pairs in
      let left : list_any (same_row k) (keys ((es ++ out) ++ hs)) ≡ ((a || o) || h) =
      ap (list_any (same_row k)) (map-append (λ (p : Row × ℕ). p.0) (es ++ out) hs) ∙ list_any-append (same_row k) (keys (es ++ out)) (keys hs)
      ∙ ap (λ b. b || list_any (same_row k) (keys hs)) (ap (list_any (same_row k)) (map-append (λ (p : Row × ℕ). p.0) es out) ∙ list_any-append (same_row k) (keys es) (keys out))
      ∙ ap (λ xs. (a || o) || list_any (same_row k) xs) (keys_with g pairs homes) in
      let right : list_any (same_row k) (keys (es ++ pairs)) ≡ (a || q) =
      ap (list_any (same_row k)) (map-append (λ (p : Row × ℕ). p.0) es pairs) ∙ list_any-append (same_row k) (keys es) (keys pairs) in
      left
      ∙ by_test h
      (λ is. ap (λ b. (a || o) || b) is ∙ or_true (a || o) ∙ sym (ap (λ b. a || b) (known k is) ∙ or_true a))
      (λ isnt. ap (λ b. (a || o) || b) isnt ∙ or_false (a || o) ∙ ap (λ b. a || b) (ap (list_any (same_row k)) out_keys ∙ any_filter (λ x. not (t x)) k (ap not isnt) (keys pairs)))
      ∙ sym right in
      let totals : (k : Row) → total g ((es ++ out) ++ hs) k ≡ total g (es ++ pairs) k = λ k.
      let ve = values_at same_row k es in
      let vp = values_at same_row k pairs in
      let left : values_at same_row k ((es ++ out) ++ hs) ≡ (ve ++ values_at same_row k out) ++ values_at same_row k hs =
      values_append k (es ++ out) hs ∙ ap (λ vs. vs ++ values_at same_row k hs) (values_append k es out) in
      let of_hs : values_at same_row k hs ≡ map (λ p. p.1) (map (with_of g pairs) (filter (same_row k) homes)) =
      ap (map (λ p. p.1)) (sym (filter_map (with_of g pairs) (λ p. same_row k p.0) homes)) in
      ap (fold step unit) left
      ∙ by_test (t k)
      (λ is.
      ap (λ vs. fold step unit ((ve ++ vs) ++ values_at same_row k hs)) (values_never (λ x. not (t x)) k (ap not is) pairs)
      ∙ ap (λ vs. fold step unit ((ve ++ []) ++ vs)) (of_hs ∙ ap (λ ks. map (λ (p : Row × ℕ). p.1) (map (with_of g pairs) ks)) (filter_one nat_list_eq_equiv same_row_exact k homes apart is))
      ∙ ap (λ vs. fold step unit (vs ++ total g pairs k ∷ [])) (append-nil ve)
      ∙ fold-append step unit ve (total g pairs k ∷ [])
      ∙ sym (fold_from L (fold step unit ve) vp (fold_had L unit ve L.unit_had (values_had g k es had_es)) (values_had g k pairs had_pairs))
      ∙ sym (fold-append step unit ve vp))
      (λ isnt.
      ap (λ vs. fold step unit ((ve ++ vs) ++ values_at same_row k hs)) (values_kept (λ x. not (t x)) k (ap not isnt) pairs)
      ∙ ap (λ vs. fold step unit ((ve ++ vp) ++ vs)) (of_hs ∙ ap (λ ks. map (λ (p : Row × ℕ). p.1) (map (with_of g pairs) ks)) (filter_none (same_row k) homes isnt))
      ∙ ap (fold step unit) (append-nil (ve ++ vp)))
      ∙ ap (fold step unit) (sym (values_append k es pairs)) in
      bag_then
      (bag_same (map_agree (row_for g ((es ++ out) ++ hs)) (row_for g (es ++ pairs)) (λ k. ap (λ (n : ℕ). with_total k n) (totals k)) (once same_row (keys ((es ++ out) ++ hs)))))
      (bag_map (row_for g (es ++ pairs)) (once same_row (keys ((es ++ out) ++ hs))) (once same_row (keys (es ++ pairs)))
      (apart_bag nat_list_eq_equiv same_row_exact (once same_row (keys ((es ++ out) ++ hs))) (once same_row (keys (es ++ pairs))) (once_apart same_row (keys ((es ++ out) ++ hs))) (once_apart same_row (keys (es ++ pairs)))
      (λ k. any_once nat_list_eq_equiv same_row_exact k (keys ((es ++ out) ++ hs)) ∙ occur k ∙ sym (any_once nat_list_eq_equiv same_row_exact k (keys (es ++ pairs))))))
