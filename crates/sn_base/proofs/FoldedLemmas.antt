-- Groups of pairs of a key and a number: what one pair more does to them.
use Rattle.std.proofs.Common.{◌≡◌, ℕ, List, [], ◌∷◌, ◌++◌, map, filter, fold, Bool, true, false, ◌||◌, cond, Some, unwrap_or, refl, ap, sym, ◌∙◌, append-nil, subst, ◌+◌, ◌<◌, take, length, slice_index, get_or, All}
use Rattle.std.specs.List.{list_any, AllByRecursion}
use Rattle.std.specs.Map.{lookup}
use Rattle.std.specs.Cmp.{IsEquivalence}
use Rattle.std.specs.Cmp.Lexicographic.{nat_list_eq_equiv, bytes_decides}
use Rattle.std.proofs.lemmas.Bool.{false≢true}
use Rattle.std.proofs.lemmas.List.{map-append, take_more, length-map}
use Rattle.std.proofs.lemmas.List.Elements.{filter-append, recursion_from_All, All-from_recursion}
use Rattle.std.proofs.lemmas.List.Sums.{fold-append}
use Rattle.sn_base.specs.Folds.{FoldLaws}
use Rattle.sn_base.specs.Groups.{Row, once, Apart, values_at, paired, folded, put_entry, same_row, columns_at, keyed}
use Rattle.sn_base.proofs.FoldLemmas.{fold_had}
use Rattle.sn_base.proofs.Lists.{by_test}
use Rattle.sn_base.proofs.OnceLemmas.{once_apart, any_once, all_once, once_push}

abbrev with_head : {K : Type 0} → K → ℕ → List (K × ℕ) → List (K × ℕ)
with_head k n es = (k, n) ∷ es

under_cons : {X : Type 0} (b : Bool) (x : X) (xs : List X) (y : X) → x ∷ cond b xs (xs ++ y ∷ []) ≡ cond b (x ∷ xs) (x ∷ (xs ++ y ∷ []))
under_cons true x xs y = refl
under_cons false x xs y = refl

last_in : {K Y : Type 0} (b : Bool) (f : K → Y) (ks : List K) (k : K) (y : Y) → f k ≡ y → map f (cond b ks (ks ++ k ∷ [])) ≡ cond b (map f ks) (map f ks ++ y ∷ [])
last_in true f ks k y e = refl
last_in false f ks k y e = map-append f ks (k ∷ []) ∙ ap (λ z. map f ks ++ z ∷ []) e

-- after a key that is the same, the others keep what they have
unmoved : {K : Type 0} {same : K → K → Bool} → IsEquivalence same → (k d : K) (g h : K → ℕ) → same k d ≡ true → ((x : K) → same k x ≡ false → h x ≡ g x) → (ks : List K) → AllByRecursion (λ x. same d x ≡ false) ks → map (paired h) ks ≡ map (paired g) ks
unmoved E k d g h is there [] far = refl
unmoved {same = same} E k d g h is there (x ∷ xs) far =
    let other : same k x ≡ false = E.congr k d x is ∙ far.0 in
    ap (λ (n : ℕ). with_head x n (map (paired h) xs)) (there x other) ∙ ap (λ es. (x, g x) ∷ es) (unmoved E k d g h is there xs far.1)

pub lookup_over : {K : Type 0} {same : K → K → Bool} → ((x y : K) → same x y ≡ true → x ≡ y) → (k : K) (g : K → ℕ) (unit : ℕ) (ks : List K) → unwrap_or (lookup (same k) (map (paired g) ks)) unit ≡ cond (list_any (same k) ks) (g k) unit
lookup_over exact k g unit [] = refl
lookup_over {same = same} exact k g unit (d ∷ ks) =
    by_test (same k d)
    (λ is. ap (λ b. unwrap_or (cond b (Some (g d)) (lookup (same k) (map (paired g) ks))) unit) is ∙ ap g (sym (exact k d is))
    ∙ sym (ap (λ b. cond (b || list_any (same k) ks) (g k) unit) is))
    (λ isnt. ap (λ b. unwrap_or (cond b (Some (g d)) (lookup (same k) (map (paired g) ks))) unit) isnt ∙ lookup_over exact k g unit ks
    ∙ sym (ap (λ b. cond (b || list_any (same k) ks) (g k) unit) isnt))

-- an insertion over keys that are apart: the key takes w, and the others keep what they have
pub put_over : {K : Type 0} {same : K → K → Bool} → IsEquivalence same → (k : K) (w : ℕ) (g h : K → ℕ) → ((x : K) → same k x ≡ true → h x ≡ w) → ((x : K) → same k x ≡ false → h x ≡ g x) → (ks : List K) → Apart same ks
    → put_entry same (map (paired g) ks) k w ≡ cond (list_any (same k) ks) (map (paired h) ks) (map (paired h) ks ++ (k, w) ∷ [])
put_over E k w g h here there [] apart = refl
put_over {same = same} E k w g h here there (d ∷ ks) apart =
    by_test (same k d)
    (λ is. ap (λ b. cond b ((d, w) ∷ map (paired g) ks) ((d, g d) ∷ put_entry same (map (paired g) ks) k w)) is
    ∙ ap (λ (n : ℕ). with_head d n (map (paired g) ks)) (sym (here d is))
    ∙ ap (λ es. (d, h d) ∷ es) (sym (unmoved E k d g h is there ks apart.0))
    ∙ sym (ap (λ b. cond (b || list_any (same k) ks) (map (paired h) (d ∷ ks)) (map (paired h) (d ∷ ks) ++ (k, w) ∷ [])) is))
    (λ isnt. ap (λ b. cond b ((d, w) ∷ map (paired g) ks) ((d, g d) ∷ put_entry same (map (paired g) ks) k w)) isnt
    ∙ ap (λ es. (d, g d) ∷ es) (put_over E k w g h here there ks apart.1)
    ∙ ap (λ (n : ℕ). with_head d n (cond (list_any (same k) ks) (map (paired h) ks) (map (paired h) ks ++ (k, w) ∷ []))) (sym (there d isnt))
    ∙ under_cons (list_any (same k) ks) (d, h d) (map (paired h) ks) (k, w)
    ∙ sym (ap (λ b. cond (b || list_any (same k) ks) (map (paired h) (d ∷ ks)) (map (paired h) (d ∷ ks) ++ (k, w) ∷ [])) isnt))

-- the values at a key, with one pair more
pub values_push : {K : Type 0} (same : K → K → Bool) (x k : K) (v : ℕ) (pairs : List (K × ℕ)) → values_at same x (pairs ++ (k, v) ∷ []) ≡ values_at same x pairs ++ cond (same x k) (v ∷ []) []
values_push {K = K} same x k v pairs =
    let last : List (K × ℕ) = (k, v) ∷ [] in
    ap (map (λ p. p.1)) (filter-append (λ p. same x p.0) pairs last)
    ∙ map-append (λ p. p.1) (filter (λ p. same x p.0) pairs) (filter (λ p. same x p.0) last)
    ∙ ap (λ vs. values_at same x pairs ++ vs) (elim (same x k) as (λ b. map (λ (p : K × ℕ). p.1) (cond b last []) ≡ cond b (v ∷ []) []) [ true ↦ refl | false ↦ refl ])

-- where no pair has the key, it has no value
pub values_none : {K : Type 0} (same : K → K → Bool) (k : K) (pairs : List (K × ℕ)) → list_any (same k) (map (λ p. p.0) pairs) ≡ false → values_at same k pairs ≡ []
values_none same k [] none = refl
values_none same k (p ∷ ps) none =
    by_test (same k p.0)
    (λ is. absurd (false≢true (sym none ∙ ap (λ b. b || list_any (same k) (map (λ q. q.0) ps)) is)))
    (λ isnt. ap (λ b. map (λ q. q.1) (cond b (p ∷ filter (λ q. same k q.0) ps) (filter (λ q. same k q.0) ps))) isnt
    ∙ values_none same k ps (sym (ap (λ b. b || list_any (same k) (map (λ q. q.0) ps)) isnt) ∙ none))

module _ {K : Type 0} {same : K → K → Bool} (E : IsEquivalence same) (exact : (x y : K) → same x y ≡ true → x ≡ y) (step : ℕ → ℕ → ℕ) (unit : ℕ) where
  fold_at : List (K × ℕ) → K → ℕ
  fold_at pairs k = fold step unit (values_at same k pairs)

  -- one pair more: its key's fold takes the value, and the others stay
  pub folded_push : (pairs : List (K × ℕ)) (k : K) (v : ℕ) → folded same step unit (pairs ++ (k, v) ∷ []) ≡ put_entry same (folded same step unit pairs) k (step (fold step unit (values_at same k pairs)) v)
  unfolding fold_at
  folded_push pairs k v =
      let ks = map (λ (p : K × ℕ). p.0) pairs in
      let w = step (fold_at pairs k) v in
      let g : K → ℕ = fold_at pairs in
      let h : K → ℕ = fold_at (pairs ++ (k, v) ∷ []) in
      let here : (x : K) → same k x ≡ true → h x ≡ w = λ x is.
      ap (fold step unit) (values_push same x k v pairs ∙ ap (λ b. values_at same x pairs ++ cond b (v ∷ []) []) (E.symm x k ∙ is))
      ∙ fold-append step unit (values_at same x pairs) (v ∷ []) ∙ ap (λ y. step (fold step unit (values_at same y pairs)) v) (sym (exact k x is)) in
      let there : (x : K) → same k x ≡ false → h x ≡ g x = λ x isnt.
      ap (fold step unit) (values_push same x k v pairs ∙ ap (λ b. values_at same x pairs ++ cond b (v ∷ []) []) (E.symm x k ∙ isnt) ∙ append-nil (values_at same x pairs)) in
      let keys : map (λ (p : K × ℕ). p.0) (pairs ++ (k, v) ∷ []) ≡ ks ++ k ∷ [] = map-append (λ (p : K × ℕ). p.0) pairs ((k, v) ∷ []) in
      ap (λ xs. map (paired h) (once same xs)) keys
      ∙ ap (map (paired h)) (once_push E ks k)
      ∙ last_in (list_any (same k) ks) (paired h) (once same ks) k (k, w) (ap (λ (n : ℕ). (k, n)) (here k (E.refl k)))
      ∙ sym (put_over E k w g h here there (once same ks) (once_apart same ks)
      ∙ ap (λ b. cond b (map (paired h) (once same ks)) (map (paired h) (once same ks) ++ (k, w) ∷ [])) (any_once E exact k ks))

  -- what the entries have at a key is the fold of its values
  pub folded_at : (pairs : List (K × ℕ)) (k : K) → unwrap_or (lookup (same k) (folded same step unit pairs)) unit ≡ fold step unit (values_at same k pairs)
  unfolding fold_at
  folded_at pairs k =
      let ks = map (λ (p : K × ℕ). p.0) pairs in
      lookup_over exact k (fold_at pairs) unit (once same ks)
      ∙ ap (λ b. cond b (fold_at pairs k) unit) (any_once E exact k ks)
      ∙ by_test (list_any (same k) ks)
      (λ is. ap (λ b. cond b (fold_at pairs k) unit) is)
      (λ isnt. ap (λ b. cond b (fold_at pairs k) unit) isnt ∙ sym (ap (fold step unit) (values_none same k pairs isnt)))

-- ---- rows

pub same_row_exact : (x y : Row) → same_row x y ≡ true → x ≡ y
same_row_exact x y e = (bytes_decides x y).0 e

-- one row more, as an insertion of its key
pub reduced_row : (step : ℕ → ℕ → ℕ) (unit : ℕ) (places : List ℕ) (value : ℕ) (rows : List (List ℕ)) (row : List ℕ) →
    folded same_row step unit (map (keyed places value) (rows ++ row ∷ []))
    ≡ put_entry same_row (folded same_row step unit (map (keyed places value) rows)) (columns_at places row)
    (step (unwrap_or (lookup (same_row (columns_at places row)) (folded same_row step unit (map (keyed places value) rows))) unit) (slice_index row value))
reduced_row step unit places value rows row =
    let pairs = map (keyed places value) rows in
    let key = columns_at places row in
    ap (folded same_row step unit) (map-append (keyed places value) rows (row ∷ []))
    ∙ folded_push nat_list_eq_equiv same_row_exact step unit pairs key (slice_index row value)
    ∙ ap (λ (n : ℕ). put_entry same_row (folded same_row step unit pairs) key (step n (slice_index row value))) (sym (folded_at nat_list_eq_equiv same_row_exact step unit pairs key))

pub values_had : (has : ℕ → Type 0) (k : List ℕ) (places : List ℕ) (value : ℕ) (rows : List (List ℕ)) → AllByRecursion (λ row. has (slice_index row value)) rows → AllByRecursion has (values_at same_row k (map (keyed places value) rows))
values_had has k places value [] h = tt
values_had has k places value (row ∷ rows) h =
    let rest = values_had has k places value rows h.1 in
    elim (same_row k (columns_at places row)) as (λ b. AllByRecursion has (map (λ (p : List ℕ × ℕ). p.1) (cond b (keyed places value row ∷ filter (λ p. same_row k p.0) (map (keyed places value) rows)) (filter (λ p. same_row k p.0) (map (keyed places value) rows))))) [
      | true ↦ (h.0, rest)
      | false ↦ rest
    ]

-- what the groups have at a key is a value of the fold
pub group_had : {has : ℕ → Type 0} {unit : ℕ} {step : ℕ → ℕ → ℕ} → FoldLaws has unit step → (places : List ℕ) (value : ℕ) (rows : List (List ℕ)) (key : List ℕ) → All (λ row. has (slice_index row value)) rows
    → has (unwrap_or (lookup (same_row key) (folded same_row step unit (map (keyed places value) rows))) unit)
group_had {has = has} {unit = unit} {step = step} L places value rows key all =
    let vs = values_at same_row key (map (keyed places value) rows) in
    subst has (sym (folded_at nat_list_eq_equiv same_row_exact step unit (map (keyed places value) rows) key))
    (fold_had L unit vs L.unit_had (values_had has key places value rows (recursion_from_All (λ row. has (slice_index row value)) rows all)))

pub all_paired : {K : Type 0} (P : K → Type 0) (f : K → ℕ) (ks : List K) → AllByRecursion P ks → AllByRecursion (λ (g : K × ℕ). P g.0) (map (paired f) ks)
all_paired P f [] h = tt
all_paired P f (k ∷ ks) h = (h.0, all_paired P f ks h.1)

pub keys_short : (n : ℕ) (places : List ℕ) (value : ℕ) (rows : List (List ℕ)) → length places < n → AllByRecursion (λ k. length k < n) (map (λ p. p.0) (map (keyed places value) rows))
keys_short n places value [] few = tt
keys_short n places value (row ∷ rows) few = (rw length-map few, keys_short n places value rows few)

-- a group's key has as many columns as there are places
pub groups_short : (step : ℕ → ℕ → ℕ) (unit : ℕ) (places : List ℕ) (value : ℕ) (rows : List (List ℕ)) → length places < 8 → All (λ (g : List ℕ × ℕ). length g.0 < 8) (folded same_row step unit (map (keyed places value) rows))
groups_short step unit places value rows few =
    let pairs = map (keyed places value) rows in
    let keys = map (λ (p : List ℕ × ℕ). p.0) pairs in
    All-from_recursion (λ (g : List ℕ × ℕ). length g.0 < 8) (folded same_row step unit pairs)
    (all_paired (λ (k : List ℕ). length k < 8) (λ k. fold step unit (values_at same_row k pairs)) (once same_row keys) (all_once same_row (λ (k : List ℕ). length k < 8) keys (keys_short 8 places value rows few)))

-- one turn of the loop over the rows
pub row_step : (step : ℕ → ℕ → ℕ) (unit : ℕ) (places : List ℕ) (value : ℕ) (rows : List (List ℕ)) (i : ℕ) (row : List ℕ) (entries : List (List ℕ × ℕ)) (key : List ℕ) (v : ℕ) →
    i < length rows → row ≡ get_or rows i row → entries ≡ folded same_row step unit (map (keyed places value) (take i rows)) → key ≡ columns_at places row → v ≡ slice_index row value →
    put_entry same_row entries key (step (unwrap_or (lookup (same_row key) entries) unit) v) ≡ folded same_row step unit (map (keyed places value) (take (i + 1) rows))
row_step step unit places value rows i row entries key v within at before is_key is_value =
    let one = reduced_row step unit places value (take i rows) row in
    let more : take (i + 1) rows ≡ take i rows ++ row ∷ [] = take_more rows i row within ∙ ap (λ y. take i rows ++ y ∷ []) (sym at) in
    let old = folded same_row step unit (map (keyed places value) (take i rows)) in
    ap (λ es. put_entry same_row es key (step (unwrap_or (lookup (same_row key) es) unit) v)) before
    ∙ ap (λ k. put_entry same_row old k (step (unwrap_or (lookup (same_row k) old) unit) v)) is_key
    ∙ ap (λ n. put_entry same_row old (columns_at places row) (step (unwrap_or (lookup (same_row (columns_at places row)) old) unit) n)) is_value
    ∙ sym one ∙ ap (λ rs. folded same_row step unit (map (keyed places value) rs)) (sym more)
