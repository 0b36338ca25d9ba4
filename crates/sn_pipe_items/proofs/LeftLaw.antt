-- Dropping items before the engine is dropping rows after it, where each operator carries what is tested.
use Rattle.std.proofs.Common.{◌≡◌, ℕ, suc, ◌≤◌, List, [], ◌∷◌, ◌++◌, map, filter, fold, take, length, Bool, true, cond, slice_index, length-take-le, refl, ap, sym, ◌∙◌, subst, arith}
use Rattle.std.specs.List.{AllByRecursion}
use Rattle.std.specs.Cmp.Lexicographic.{nat_list_eq_equiv}
use Rattle.std.proofs.lemmas.Bool.{eqb-true, false≢true}
use Rattle.std.proofs.lemmas.List.{map-append, length-map}
use Rattle.std.proofs.lemmas.List.Elements.{filter-append, filter_agree}
use Rattle.sn_base.specs.AnyFold.{any_unit, any_step}
use Rattle.sn_base.specs.Bags.{SameBag}
use Rattle.sn_base.specs.Groups.{Row, once, same_row}
use Rattle.sn_base.specs.Operators.{Grouping, Had, Op, row_for, grouped, key_of, pair_of, parted, through}
use Rattle.sn_base.specs.Operators.Op.{Filter, Map, Distinct, Reduce}
use Rattle.sn_base.proofs.BagLemmas.{all_bag, bag_filter, bag_same, bag_then}
use Rattle.sn_base.proofs.FoldedLemmas.{same_row_exact}
use Rattle.sn_base.proofs.GroupLemmas.{keys, total, values_kept}
use Rattle.sn_base.proofs.Lists.{all_append, all_weaker, by_test, filter_map, filter_turned, map_where}
use Rattle.sn_base.proofs.OnceLemmas.{all_once, once_filter}
use Rattle.sn_base.proofs.OperatorLemmas.{AllOf}
use Rattle.sn_report.specs.Items.{Item}
use Rattle.sn_report.specs.declared.frame.Tag.{Tag}
use Rattle.sn_report.specs.declared.frame.Tag.TheVariants.{At, Partial}
use Rattle.sn_pipe_items.specs.Value.{is_at, is_partial, rows_with, taken, finish, value}
use Rattle.sn_pipe_items.proofs.Bagged.{bagged}
use Rattle.sn_pipe_items.proofs.Cuts.{IsCut}
use Rattle.sn_pipe_items.proofs.ItemLemmas.{finish_none}
use Rattle.sn_pipe_items.proofs.ItemsHadLemmas.{items_had_all, split_any}
use Rattle.sn_pipe_items.proofs.ValueBag.{IsHeld, ItemsHad, PartialHad, rows_bag}
use Rattle.sn_pipe_items.specs.Left.{keeps_at, left_of}

-- ---- lists

pub agree_all : {A : Type 0} (p q : A → Bool) (xs : List A) → AllByRecursion (λ x. p x ≡ q x) xs → filter p xs ≡ filter q xs
agree_all p q [] h = refl
agree_all p q (x ∷ xs) h = ap (λ b. cond b (x ∷ filter p xs) (filter p xs)) h.0 ∙ ap (λ ys. cond (q x) (x ∷ ys) ys) (agree_all p q xs h.1)

-- ---- rows by their tags

-- rows of a tag, at which the test of items is one test of rows
rows_left : (keeps : ℕ → Row → Bool) (t : Tag → Bool) (q : Row → Bool) → ((tag : Tag) (row : Row) → t tag ≡ true → keeps_at keeps tag row ≡ q row) → (xs : List Item) → rows_with t (left_of keeps xs) ≡ filter q (rows_with t xs)
rows_left keeps t q same [] = refl
rows_left keeps t q same (x ∷ xs) =
    let e = rows_left keeps t q same xs in
    let ks = left_of keeps xs in
    let rest = filter (λ (y : Item). t y.tag) xs in
    by_test (t x.tag)
    (λ is. by_test (keeps_at keeps x.tag x.row)
    (λ passes.
    ap (λ b. rows_with t (cond b (x ∷ ks) ks)) passes ∙ ap (λ b. map (λ (y : Item). y.row) (cond b (x ∷ filter (λ y. t y.tag) ks) (filter (λ y. t y.tag) ks))) is
    ∙ ap (λ rs. x.row ∷ rs) e
    ∙ sym (ap (λ b. filter q (map (λ (y : Item). y.row) (cond b (x ∷ rest) rest))) is ∙ ap (λ b. cond b (x.row ∷ filter q (rows_with t xs)) (filter q (rows_with t xs))) (sym (same x.tag x.row is) ∙ passes)))
    (λ fails.
    ap (λ b. rows_with t (cond b (x ∷ ks) ks)) fails ∙ e
    ∙ sym (ap (λ b. filter q (map (λ (y : Item). y.row) (cond b (x ∷ rest) rest))) is ∙ ap (λ b. cond b (x.row ∷ filter q (rows_with t xs)) (filter q (rows_with t xs))) (sym (same x.tag x.row is) ∙ fails))))
    (λ isnt.
    by_test (keeps_at keeps x.tag x.row)
    (λ passes. ap (λ b. rows_with t (cond b (x ∷ ks) ks)) passes ∙ ap (λ b. map (λ (y : Item). y.row) (cond b (x ∷ filter (λ y. t y.tag) ks) (filter (λ y. t y.tag) ks))) isnt ∙ e)
    (λ fails. ap (λ b. rows_with t (cond b (x ∷ ks) ks)) fails ∙ e)
    ∙ sym (ap (λ b. filter q (map (λ (y : Item). y.row) (cond b (x ∷ rest) rest))) isnt))

at_only : (keeps : ℕ → Row → Bool) (i : ℕ) (tag : Tag) (row : Row) → is_at i tag ≡ true → keeps_at keeps tag row ≡ keeps i row
at_only keeps i (At j) row is = ap (λ (n : ℕ). keeps n row) (sym (eqb-true i j is))
at_only keeps i (Partial j) row is = absurd (false≢true is)

partial_only : (keeps : ℕ → Row → Bool) (i : ℕ) (tag : Tag) (row : Row) → is_partial i tag ≡ true → keeps_at keeps tag row ≡ keeps (suc i) row
partial_only keeps i (At j) row is = absurd (false≢true is)
partial_only keeps i (Partial j) row is = ap (λ (n : ℕ). keeps (suc n) row) (sym (eqb-true i j is))

-- ---- operators that carry what is tested

module _ (keeps : ℕ → Row → Bool) where
  -- A reduce has what is tested among its keys: it is tested by the key alone, before the reduce, in the reduce's rows, and in Partial rows.
  pub record IsKeyed (i : ℕ) (g : Grouping) : Type 0 where
    pub key : Row → Bool
    pub before : (row : Row) → key (key_of g row) ≡ keeps i row
    pub following : (k : Row) (a : ℕ) → length k ≡ length g.places → keeps (suc i) (k ++ a ∷ []) ≡ key k
    pub in_parts : (row : Row) → suc (length g.places) ≤ length row → keeps (suc i) row ≡ key (take (length g.places) row)

  abbrev pub CarriesOne : ℕ → Op → Type 0
  CarriesOne i (Filter t) = (row : Row) → keeps (suc i) row ≡ keeps i row
  CarriesOne i (Map f) = (row : Row) → keeps (suc i) (f row) ≡ keeps i row
  CarriesOne i Distinct = (row : Row) → keeps (suc i) row ≡ keeps i row
  CarriesOne i (Reduce g) = IsKeyed i g

  abbrev pub Carries : ℕ → List Op → Type 0
  Carries i [] = Unit {0}
  Carries i (op ∷ ops) = CarriesOne i op × Carries (suc i) ops

abbrev with_total : Row → ℕ → Row
with_total key n = key ++ n ∷ []

-- a test of keys may stand before a reduce or after it
grouped_left : (g : Grouping) (q t : Row → Bool) (ps : List (Row × ℕ)) → ((k : Row) (a : ℕ) → length k ≡ length g.places → t (k ++ a ∷ []) ≡ q k) → AllByRecursion (λ k. length k ≡ length g.places) (keys ps) →
    filter t (grouped g ps) ≡ grouped g (filter (λ p. q p.0) ps)
grouped_left g q t ps same long =
    let ks = once same_row (keys ps) in
    let left = filter (λ (p : Row × ℕ). q p.0) ps in
    sym (filter_map (row_for g ps) t ks)
    ∙ ap (map (row_for g ps)) (agree_all (λ k. t (row_for g ps k)) q ks
    (all_weaker (λ (k : Row). length k ≡ length g.places) (λ k. t (row_for g ps k) ≡ q k) (λ k is. same k (total g ps k) is) ks (all_once same_row (λ (k : Row). length k ≡ length g.places) (keys ps) long)))
    ∙ map_where (row_for g ps) (row_for g left) q (λ k is. ap (λ vs. with_total k (fold (any_step g.by) (any_unit g.by) vs)) (sym (values_kept q k is ps))) ks
    ∙ ap (map (row_for g left)) (sym (once_filter nat_list_eq_equiv same_row_exact q (keys ps)) ∙ ap (once same_row) (sym (filter_map (λ (p : Row × ℕ). p.0) q ps)))

keys_long : (g : Grouping) (rows : List Row) → AllByRecursion (λ k. length k ≡ length g.places) (keys (map (pair_of g) rows))
keys_long g [] = tt
keys_long g (row ∷ rows) = (length-map g.places (λ place. slice_index row place), keys_long g rows)

parted_long : (g : Grouping) (ops : List Op) (rows : List Row) → AllByRecursion (IsHeld g ops) rows → AllByRecursion (λ k. length k ≡ length g.places) (keys (map (parted g) rows))
parted_long g ops [] h = tt
parted_long g ops (row ∷ rows) h = (length-take-le (length g.places) row (let e = h.0.long in omega (arith, e)), parted_long g ops rows h.1)

-- a test that an operator carries may stand before it or after it
taken_left : (keeps : ℕ → Row → Bool) (i : ℕ) (op : Op) (ops : List Op) → CarriesOne keeps i op → (into partial : List Row) → PartialHad op ops partial →
    taken op (filter (keeps i) into) (filter (keeps (suc i)) partial) ≡ filter (keeps (suc i)) (taken op into partial)
taken_left keeps i (Filter t) ops c into partial h =
    filter_turned t (keeps i) into ∙ sym (filter_agree (keeps (suc i)) (keeps i) c (filter t into))
taken_left keeps i (Map f) ops c into partial h =
    ap (map f) (sym (filter_agree (λ row. keeps (suc i) (f row)) (keeps i) c into)) ∙ filter_map f (keeps (suc i)) into
taken_left keeps i Distinct ops c into partial h =
    once_filter nat_list_eq_equiv same_row_exact (keeps i) into ∙ sym (filter_agree (keeps (suc i)) (keeps i) c (once same_row into))
taken_left keeps i (Reduce g) ops c into partial h =
    let q = c.key in
    let t = keeps (suc i) in
    let own = map (pair_of g) into in
    let others = map (parted g) partial in
    sym (grouped_left g q t (own ++ others) c.following (subst (λ (ks : List Row). AllByRecursion (λ k. length k ≡ length g.places) ks) (sym (map-append (λ (p : Row × ℕ). p.0) own others))
    (all_append (λ (k : Row). length k ≡ length g.places) (keys own) (keys others) (keys_long g into) (parted_long g ops partial h)))
    ∙ ap (grouped g) (filter-append (λ (p : Row × ℕ). q p.0) own others
    ∙ ap (λ ps. ps ++ filter (λ (p : Row × ℕ). q p.0) others) (sym (filter_map (pair_of g) (λ p. q p.0) into) ∙ ap (map (pair_of g)) (filter_agree (λ row. q (key_of g row)) (keeps i) c.before into))
    ∙ ap (λ ps. map (pair_of g) (filter (keeps i) into) ++ ps) (sym (filter_map (parted g) (λ p. q p.0) partial)
    ∙ ap (map (parted g)) (agree_all (λ row. q (parted g row).0) t partial
    (all_weaker (IsHeld g ops) (λ row. q (parted g row).0 ≡ t row) (λ row had. sym (c.in_parts row had.long)) partial h)))))

abbrev pub end_of : ℕ → List Op → ℕ
end_of i [] = i
end_of i (op ∷ ops) = end_of (suc i) ops

-- the engine may drop items before, or rows after
pub finish_left : (keeps : ℕ → Row → Bool) (i : ℕ) (ops : List Op) → Carries keeps i ops → (xs : List Item) (into : List Row) → ItemsHad i ops xs →
    finish i ops (left_of keeps xs) (filter (keeps i) into) ≡ filter (keeps (end_of i ops)) (finish i ops xs into)
finish_left keeps i [] c xs into h = refl
finish_left keeps i (op ∷ ops) c xs into h =
    let ks = left_of keeps xs in
    let ps = rows_with (is_partial i) xs in
    let rs = rows_with (is_at (suc i)) xs in
    ap (λ ys. finish (suc i) ops ks (taken op (filter (keeps i) into) ys ++ rows_with (is_at (suc i)) ks)) (rows_left keeps (is_partial i) (keeps (suc i)) (partial_only keeps i) xs)
    ∙ ap (λ ys. finish (suc i) ops ks (taken op (filter (keeps i) into) (filter (keeps (suc i)) ps) ++ ys)) (rows_left keeps (is_at (suc i)) (keeps (suc i)) (at_only keeps (suc i)) xs)
    ∙ ap (λ ys. finish (suc i) ops ks (ys ++ filter (keeps (suc i)) rs)) (taken_left keeps i op ops c.0 into ps h.0)
    ∙ ap (finish (suc i) ops ks) (sym (filter-append (keeps (suc i)) (taken op into ps) rs))
    ∙ finish_left keeps (suc i) ops c.1 xs (taken op into ps ++ rs) h.2

pub value_left : (keeps : ℕ → Row → Bool) (ops : List Op) → Carries keeps 0 ops → (xs : List Item) → ItemsHad 0 ops xs → value ops (left_of keeps xs) ≡ filter (keeps (end_of 0 ops)) (value ops xs)
value_left keeps ops c xs h =
    ap (finish 0 ops (left_of keeps xs)) (rows_left keeps (is_at 0) (keeps 0) (at_only keeps 0) xs) ∙ finish_left keeps 0 ops c xs (rows_with (is_at 0) xs) h

none_had : (i : ℕ) (ops : List Op) → ItemsHad i ops []
none_had i [] = tt
none_had i (Filter t ∷ ops) = (tt, tt, none_had (suc i) ops)
none_had i (Map f ∷ ops) = (tt, tt, none_had (suc i) ops)
none_had i (Distinct ∷ ops) = (tt, tt, none_had (suc i) ops)
none_had i (Reduce g ∷ ops) = (tt, tt, none_had (suc i) ops)

-- and so may a branch
pub through_left : (keeps : ℕ → Row → Bool) (ops : List Op) → Carries keeps 0 ops → (rows : List Row) → filter (keeps (end_of 0 ops)) (through ops rows) ≡ through ops (filter (keeps 0) rows)
through_left keeps ops c rows =
    ap (filter (keeps (end_of 0 ops))) (sym (finish_none 0 ops rows)) ∙ sym (finish_left keeps 0 ops c [] rows (none_had 0 ops)) ∙ finish_none 0 ops (filter (keeps 0) rows)

partial_bag : (op : Op) (ops : List Op) (xs ys : List Row) → SameBag xs ys → PartialHad op ops xs → PartialHad op ops ys
partial_bag (Filter t) ops xs ys b h = tt
partial_bag (Map f) ops xs ys b h = tt
partial_bag Distinct ops xs ys b h = tt
partial_bag (Reduce g) ops xs ys b h = all_bag (IsHeld g ops) xs ys b h

pub items_had_bag : (i : ℕ) (ops : List Op) (xs ys : List Item) → SameBag xs ys → ItemsHad i ops xs → ItemsHad i ops ys
items_had_bag i [] xs ys b h = tt
items_had_bag i (op ∷ ops) xs ys b h = (
  partial_bag op ops (rows_with (is_partial i) xs) (rows_with (is_partial i) ys) (rows_bag (is_partial i) xs ys b) h.0,
  all_bag (λ row. Had ops row) (rows_with (is_at (suc i)) xs) (rows_with (is_at (suc i)) ys) (rows_bag (is_at (suc i)) xs ys b) h.1,
  items_had_bag (suc i) ops xs ys b h.2,
)

-- Over the rows that a pipe let in, whichever they are: the value of the items that are left, in whatever order they come, is the
-- branch on those of these rows that pass the test.
pub split_left : (keeps : ℕ → Row → Bool) (depth : ℕ) (size : ℕ → ℕ) (ops : List Op) (cut : ℕ) (rows : List Row) (found : List Item) → IsCut (take cut ops) → Carries keeps 0 ops → AllOf ops rows → SameBag (bagged depth size cut ops rows) found →
    SameBag (value ops (left_of keeps found)) (through ops (filter (keeps 0) rows))
split_left keeps depth size ops cut rows found is_cut c had b =
    bag_then
    (bag_same (value_left keeps ops c found (items_had_bag 0 ops (bagged depth size cut ops rows) found b (items_had_all depth size ops cut rows had))))
    (bag_then
    (bag_filter (keeps (end_of 0 ops)) (value ops found) (through ops rows) (split_any depth size ops cut rows found is_cut had b))
    (bag_same (through_left keeps ops c rows)))
