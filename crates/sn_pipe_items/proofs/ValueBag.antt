-- The value of items depends on their bag alone, where each fold has what comes to it.
use Rattle.std.proofs.Common.{ℕ, suc, ◌≤◌, List, [], ◌∷◌, ◌++◌, map, filter, length, Bool, sym, subst}
use Rattle.std.specs.List.{AllByRecursion}
use Rattle.std.specs.Cmp.Lexicographic.{nat_list_eq_equiv}
use Rattle.std.proofs.lemmas.List.{map-append}
use Rattle.sn_base.specs.AnyFold.{any_has}
use Rattle.sn_base.specs.Bags.{SameBag}
use Rattle.sn_base.specs.Groups.{Row, once, same_row}
use Rattle.sn_base.specs.Operators.{Grouping, Op, Had, pair_of, parted}
use Rattle.sn_base.specs.Operators.Op.{Filter, Map, Distinct, Reduce}
use Rattle.sn_report.specs.Items.{Item}
use Rattle.sn_report.specs.declared.frame.Tag.{Tag}
use Rattle.sn_base.proofs.Lists.{all_map, all_append, all_weaker}
use Rattle.sn_base.proofs.BagLemmas.{bag_then, bag_before, bag_after, bag_filter, bag_map}
use Rattle.sn_base.proofs.OnceLemmas.{all_once, bag_once}
use Rattle.sn_base.proofs.FoldedLemmas.{same_row_exact}
use Rattle.sn_base.proofs.GroupLemmas.{keys, keys_of, AllHad, grouped_bag}
use Rattle.sn_base.proofs.OperatorLemmas.{AllOf, pairs_had, keys_had, had_rows_for, had_after}
use Rattle.sn_pipe_items.specs.Value.{is_at, is_partial, rows_with, taken, finish, value}

-- a reduce's row as an item: its key columns and a number of the fold, which the operators after it may take
pub record IsHeld (g : Grouping) (ops : List Op) (row : Row) : Type 0 where
  pub long : suc (length g.places) ≤ length row
  pub number : any_has g.by (parted g row).1
  pub onward : (a : ℕ) → any_has g.by a → Had ops ((parted g row).0 ++ a ∷ [])

abbrev pub PartialHad : Op → List Op → List Row → Type 0
PartialHad (Filter t) ops rows = Unit {0}
PartialHad (Map f) ops rows = Unit {0}
PartialHad Distinct ops rows = Unit {0}
PartialHad (Reduce g) ops rows = AllByRecursion (IsHeld g ops) rows

-- each value that an item brings to a fold is one of the fold's, from operator i on
abbrev pub ItemsHad : ℕ → List Op → List Item → Type 0
ItemsHad i [] found = Unit {0}
ItemsHad i (op ∷ ops) found = PartialHad op ops (rows_with (is_partial i) found) × AllByRecursion (Had ops) (rows_with (is_at (suc i)) found) × ItemsHad (suc i) ops found

pub rows_bag : (t : Tag → Bool) (xs ys : List Item) → SameBag xs ys → SameBag (rows_with t xs) (rows_with t ys)
rows_bag t xs ys b = bag_map (λ (x : Item). x.row) (filter (λ x. t x.tag) xs) (filter (λ x. t x.tag) ys) (bag_filter (λ x. t x.tag) xs ys b)

bag_append : {A : Type 0} (xs ys zs ws : List A) → SameBag xs ys → SameBag zs ws → SameBag (xs ++ zs) (ys ++ ws)
bag_append xs ys zs ws b c = bag_then (bag_after zs xs ys b) (bag_before ys zs ws c)

joined_had : (g : Grouping) (ops : List Op) (into partial : List Row) → AllOf (Reduce g ∷ ops) into → PartialHad (Reduce g) ops partial → AllHad g (map (pair_of g) into ++ map (parted g) partial)
joined_had g ops into partial h p =
    all_append (λ (q : Row × ℕ). any_has g.by q.1) (map (pair_of g) into) (map (parted g) partial) (pairs_had g ops into h)
    (all_map (λ (q : Row × ℕ). any_has g.by q.1) (parted g) partial
    (all_weaker (IsHeld g ops) (λ row. any_has g.by (parted g row).1) (λ row had. had.number) partial p))

taken_had : (op : Op) (ops : List Op) (into partial : List Row) → AllOf (op ∷ ops) into → PartialHad op ops partial → AllOf ops (taken op into partial)
taken_had (Filter t) ops into partial h p = had_after (Filter t) ops into h
taken_had (Map f) ops into partial h p = had_after (Map f) ops into h
taken_had Distinct ops into partial h p = had_after Distinct ops into h
taken_had (Reduce g) ops into partial h p =
    let P : Row → Type 0 = λ k. (a : ℕ) → any_has g.by a → Had ops (k ++ a ∷ []) in
    let ps = map (pair_of g) into ++ map (parted g) partial in
    let own : AllByRecursion P (keys (map (pair_of g) into)) = subst (λ (ks : List Row). AllByRecursion P ks) (sym (keys_of g into)) (keys_had g ops into h) in
    let others : AllByRecursion P (keys (map (parted g) partial)) =
    all_map P (λ (q : Row × ℕ). q.0) (map (parted g) partial) (all_map (λ (q : Row × ℕ). P q.0) (parted g) partial
    (all_weaker (IsHeld g ops) (λ row. P (parted g row).0) (λ row had. had.onward) partial p)) in
    had_rows_for g ops ps (joined_had g ops into partial h p) (once same_row (keys ps))
    (all_once same_row P (keys ps) (subst (λ (ks : List Row). AllByRecursion P ks) (sym (map-append (λ (q : Row × ℕ). q.0) (map (pair_of g) into) (map (parted g) partial)))
    (all_append P (keys (map (pair_of g) into)) (keys (map (parted g) partial)) own others)))

taken_bag : (op : Op) (ops : List Op) (into into' partial partial' : List Row) → AllOf (op ∷ ops) into → PartialHad op ops partial → SameBag into into' → SameBag partial partial' → SameBag (taken op into partial) (taken op into' partial')
taken_bag (Filter t) ops into into' partial partial' h p b c = bag_filter t into into' b
taken_bag (Map f) ops into into' partial partial' h p b c = bag_map f into into' b
taken_bag Distinct ops into into' partial partial' h p b c = bag_once nat_list_eq_equiv same_row_exact into into' b
taken_bag (Reduce g) ops into into' partial partial' h p b c =
    grouped_bag g (map (pair_of g) into ++ map (parted g) partial) (map (pair_of g) into' ++ map (parted g) partial')
    (bag_append (map (pair_of g) into) (map (pair_of g) into') (map (parted g) partial) (map (parted g) partial') (bag_map (pair_of g) into into' b) (bag_map (parted g) partial partial' c))
    (joined_had g ops into partial h p)

finish_bag : (i : ℕ) (ops : List Op) (xs ys : List Item) (into into' : List Row) → SameBag xs ys → SameBag into into' → AllOf ops into → ItemsHad i ops xs → SameBag (finish i ops xs into) (finish i ops ys into')
finish_bag i [] xs ys into into' b c h had = c
finish_bag i (op ∷ ops) xs ys into into' b c h had =
    let ps = rows_with (is_partial i) xs in
    let qs = rows_with (is_partial i) ys in
    let rs = rows_with (is_at (suc i)) xs in
    let ss = rows_with (is_at (suc i)) ys in
    finish_bag (suc i) ops xs ys (taken op into ps ++ rs) (taken op into' qs ++ ss) b
    (bag_append (taken op into ps) (taken op into' qs) rs ss (taken_bag op ops into into' ps qs h had.0 c (rows_bag (is_partial i) xs ys b)) (rows_bag (is_at (suc i)) xs ys b))
    (all_append (Had ops) (taken op into ps) rs (taken_had op ops into ps h had.0) had.1)
    had.2

-- the value depends on the bag of items alone
pub value_bag : (ops : List Op) (xs ys : List Item) → SameBag xs ys → AllOf ops (rows_with (is_at 0) xs) → ItemsHad 0 ops xs → SameBag (value ops xs) (value ops ys)
value_bag ops xs ys b h had = finish_bag 0 ops xs ys (rows_with (is_at 0) xs) (rows_with (is_at 0) ys) b (rows_bag (is_at 0) xs ys b) h had
