-- Tables that grow step by step.
use Rattle.std.proofs.Common.{◌≡◌, ℕ, zero, suc, ◌+◌, ◌*◌, ◌^◌, ◌≤◌, ◌<◌, List, [], ◌∷◌, length, Bool, true, false, nat_eq, nat_lt, slice_index, refl, ap, sym, subst, ◌∙◌, arith, zero-add}
use Rattle.std.specs.Prelude.{Result, Ok, Err, OnOk}
use Rattle.std.proofs.lemmas.Bool.{false≢true, lt-ltb, ltb-false, ltb-true}
use Rattle.sn_base.proofs.Lists.{by_test, nat_same, nat_self}
use Rattle.sn_plan_choices.specs.declared.costs.CostTable.{CostTable}
use Rattle.sn_plan_choices.specs.Costs.{HasPlaces, IsPlace, OthersStay, entry_in}
use Rattle.sn_cost.specs.Adding.{Adds, AreSmall, Entries, HasRoom, of_branches, of_counts, where_so, with_fee}
use Rattle.sn_base.proofs.Tests.{not_less}
use Rattle.sn_windows.specs.Blocks.{most_records}

-- ---- numbers where a test holds

pub both_where : (c : Bool) (m n : ℕ) → where_so c m + where_so c n ≡ where_so c (m + n)
both_where true m n = refl
both_where false m n = zero-add 0

-- a number below the next one is below this one, or is it
pub next_where : (f : ℕ → ℕ) (x i : ℕ) → where_so (nat_lt x i) (f x) + where_so (nat_eq i x) (f i) ≡ where_so (nat_lt x (i + 1)) (f x)
next_where f x i =
    by_test (nat_eq i x)
    (λ is. let e = nat_same i x is in
    ap (λ b. where_so b (f x) + where_so (nat_eq i x) (f i)) (not_less x i (omega (arith, e)))
    ∙ zero-add (where_so (nat_eq i x) (f i)) ∙ ap (λ b. where_so b (f i)) is ∙ ap f e
    ∙ sym (ap (λ b. where_so b (f x)) (lt-ltb x (i + 1) (omega (arith, e)))))
    (λ isnt. ap (λ b. where_so (nat_lt x i) (f x) + where_so b (f i)) isnt ∙ add-zero (where_so (nat_lt x i) (f x))
    ∙ by_test (nat_lt x i)
    (λ less. let lt = ltb-true x i less in ap (λ b. where_so b (f x)) (less ∙ sym (lt-ltb x (i + 1) (omega (arith, lt)))))
    (λ notless. let ge = ltb-false x i notless in
    let other : i ≡ x → ⊥ = λ e. false≢true (sym isnt ∙ subst (λ y. nat_eq i y ≡ true) e (nat_self i)) in
    ap (λ b. where_so b (f x)) (notless ∙ sym (not_less x (i + 1) (more x i ge other)))))
  where
    more : (x i : ℕ) → i ≤ x → (i ≡ x → ⊥) → i + 1 ≤ x
    more x i le other = omega (arith, le, other)

    add-zero : (n : ℕ) → n + 0 ≡ n
    add-zero n = omega arith

pub none_where : (x n : ℕ) → where_so (nat_lt x 0) n ≡ 0
none_where x n = ap (λ b. where_so b n) (not_less x 0 (omega arith))

-- ---- tables

pub place_on : (a b : CostTable) (q prefix n option : ℕ) → ((queries : ℕ) → HasPlaces a queries → HasPlaces b queries) → IsPlace a q prefix n option → IsPlace b q prefix n option
place_on a b q prefix n option on p = record { of_query = on (q + 1) p.of_query; of_prefix = p.of_prefix; of_branch = p.of_branch; of_option = p.of_option }

pub adds_then : (a b c : CostTable) (f g h : Entries) → Adds a b f → Adds b c g → ((q prefix n option : ℕ) → f q prefix n option + g q prefix n option ≡ h q prefix n option) → Adds a c h
adds_then a b c f g h x y e = record {
  grown = λ q prefix n option p.
      let one = x.grown q prefix n option p in
      let two = y.grown q prefix n option (place_on a b q prefix n option x.places p) in
      let all = e q prefix n option in
      omega (arith, one, two, all);
  places = λ queries has. y.places queries (x.places queries has);
}

pub adds_none : (a : CostTable) (f : Entries) → ((q prefix n option : ℕ) → f q prefix n option ≡ 0) → Adds a a f
adds_none a f e = record { grown = λ q prefix n option p. let z = e q prefix n option in omega (arith, z); places = λ queries has. has }

pub adds_same : (a b : CostTable) (f g : Entries) → Adds a b f → ((q prefix n option : ℕ) → f q prefix n option ≡ g q prefix n option) → Adds a b g
adds_same a b f g x e = record { grown = λ q prefix n option p. x.grown q prefix n option p ∙ ap (λ m. entry_in a q prefix n option + m) (e q prefix n option); places = x.places }

-- an entry that is written
abbrev one_entry : ℕ → ℕ → ℕ → ℕ → ℕ → Entries
one_entry q prefix n i count q' prefix' n' option = where_so (nat_eq q q') (where_so (nat_eq prefix prefix') (where_so (nat_eq n n') (where_so (nat_eq i option) count)))

deep : (x y z : Bool) (m : ℕ) → m ≡ 0 → where_so x (where_so y (where_so z m)) ≡ 0
deep true true true m e = e
deep true true false m e = refl
deep true false z m e = refl
deep false y z m e = refl

module _ (a b : CostTable) (q prefix n i count : ℕ) (written : entry_in b q prefix n i ≡ entry_in a q prefix n i + count) (others : OthersStay a b q prefix n i) where
  stays : (q' prefix' n' option : ℕ) → IsPlace a q' prefix' n' option → (q ≡ q' → prefix ≡ prefix' → n ≡ n' → i ≡ option → ⊥) → (more : ℕ) → more ≡ 0 → entry_in b q' prefix' n' option ≡ entry_in a q' prefix' n' option + more
  stays q' prefix' n' option p apart more z =
      let e = others q' prefix' n' option p (λ u v w x. apart (sym u) (sym v) (sym w) (sym x)) in
      omega (arith, e, z)

  same : (q' prefix' n' option : ℕ) → q ≡ q' → prefix ≡ prefix' → n ≡ n' → i ≡ option → entry_in b q' prefix' n' option ≡ entry_in a q' prefix' n' option + count
  same q' prefix' n' option a1 a2 a3 a4 =
      subst (λ x. entry_in b x prefix' n' option ≡ entry_in a x prefix' n' option + count) a1
      (subst (λ x. entry_in b q x n' option ≡ entry_in a q x n' option + count) a2
      (subst (λ x. entry_in b q prefix x option ≡ entry_in a q prefix x option + count) a3
      (subst (λ x. entry_in b q prefix n x ≡ entry_in a q prefix n x + count) a4 written)))

  set_grown : (q' prefix' n' option : ℕ) → IsPlace a q' prefix' n' option → entry_in b q' prefix' n' option ≡ entry_in a q' prefix' n' option + one_entry q prefix n i count q' prefix' n' option
  set_grown q' prefix' n' option p =
      by_test (nat_eq q q')
      (λ t1. by_test (nat_eq prefix prefix')
      (λ t2. by_test (nat_eq n n')
      (λ t3. by_test (nat_eq i option)
      (λ t4. same q' prefix' n' option (nat_same q q' t1) (nat_same prefix prefix' t2) (nat_same n n' t3) (nat_same i option t4)
      ∙ ap (λ m. entry_in a q' prefix' n' option + m)
      (sym (ap (λ c. where_so c (where_so (nat_eq prefix prefix') (where_so (nat_eq n n') (where_so (nat_eq i option) count)))) t1
      ∙ ap (λ c. where_so c (where_so (nat_eq n n') (where_so (nat_eq i option) count))) t2 ∙ ap (λ c. where_so c (where_so (nat_eq i option) count)) t3 ∙ ap (λ c. where_so c count) t4)))
      (λ f. stays q' prefix' n' option p (λ u v w x. false≢true (sym f ∙ subst (λ y. nat_eq i y ≡ true) x (nat_self i))) _
      (deep (nat_eq q q') (nat_eq prefix prefix') (nat_eq n n') (where_so (nat_eq i option) count) (ap (λ c. where_so c count) f))))
      (λ f. stays q' prefix' n' option p (λ u v w x. false≢true (sym f ∙ subst (λ y. nat_eq n y ≡ true) w (nat_self n))) _
      (deep (nat_eq q q') (nat_eq prefix prefix') true (where_so (nat_eq n n') (where_so (nat_eq i option) count)) (ap (λ c. where_so c (where_so (nat_eq i option) count)) f))))
      (λ f. stays q' prefix' n' option p (λ u v w x. false≢true (sym f ∙ subst (λ y. nat_eq prefix y ≡ true) v (nat_self prefix))) _
      (deep (nat_eq q q') true true (where_so (nat_eq prefix prefix') (where_so (nat_eq n n') (where_so (nat_eq i option) count))) (ap (λ c. where_so c (where_so (nat_eq n n') (where_so (nat_eq i option) count))) f))))
      (λ f. stays q' prefix' n' option p (λ u v w x. false≢true (sym f ∙ subst (λ y. nat_eq q y ≡ true) u (nat_self q))) _
      (ap (λ c. where_so c (where_so (nat_eq prefix prefix') (where_so (nat_eq n n') (where_so (nat_eq i option) count)))) f))

set_adds : (a b : CostTable) (q prefix n i count : ℕ) → entry_in b q prefix n i ≡ entry_in a q prefix n i + count → OthersStay a b q prefix n i → ((queries : ℕ) → HasPlaces a queries → HasPlaces b queries)
    → Adds a b (one_entry q prefix n i count)
set_adds a b q prefix n i count written others on = record { grown = set_grown a b q prefix n i count written others; places = on }

-- ---- the counts of one branch

abbrev pub counts_below : ℕ → ℕ → ℕ → List ℕ → ℕ → Entries
counts_below q prefix n counts i q' prefix' n' option = where_so (nat_eq q q') (where_so (nat_eq prefix prefix') (where_so (nat_eq n n') (where_so (nat_lt option i) (slice_index counts option))))

pub three : (x y z : Bool) (m n k : ℕ) → m + n ≡ k → where_so x (where_so y (where_so z m)) + where_so x (where_so y (where_so z n)) ≡ where_so x (where_so y (where_so z k))
three x y z m n k e =
    both_where x (where_so y (where_so z m)) (where_so y (where_so z n))
    ∙ ap (where_so x) (both_where y (where_so z m) (where_so z n) ∙ ap (where_so y) (both_where z m n ∙ ap (where_so z) e))

pub zeros : (x y z : Bool) (m : ℕ) → m ≡ 0 → where_so x (where_so y (where_so z m)) ≡ 0
zeros true true true m e = e
zeros true true false m e = refl
zeros true false z m e = refl
zeros false y z m e = refl

pub none_added : (a : CostTable) (q prefix n : ℕ) (counts : List ℕ) → Adds a a (counts_below q prefix n counts 0)
none_added a q prefix n counts = adds_none a (counts_below q prefix n counts 0) (λ q' prefix' n' option. zeros (nat_eq q q') (nat_eq prefix prefix') (nat_eq n n') (where_so (nat_lt option 0) (slice_index counts option)) (none_where option (slice_index counts option)))

pub one_added : (a b c : CostTable) (q prefix n : ℕ) (counts : List ℕ) (i : ℕ) → Adds a b (counts_below q prefix n counts i) → entry_in c q prefix n i ≡ entry_in b q prefix n i + slice_index counts i → OthersStay b c q prefix n i
    → ((queries : ℕ) → HasPlaces b queries → HasPlaces c queries) → Adds a c (counts_below q prefix n counts (i + 1))
one_added a b c q prefix n counts i so_far written others on =
    adds_then a b c (counts_below q prefix n counts i) (one_entry q prefix n i (slice_index counts i)) (counts_below q prefix n counts (i + 1)) so_far (set_adds b c q prefix n i (slice_index counts i) written others on)
    (λ q' prefix' n' option. three (nat_eq q q') (nat_eq prefix prefix') (nat_eq n n') _ _ _ (next_where (slice_index counts) option i))

past_counts : (counts : List ℕ) (option : ℕ) → length counts ≤ option → slice_index counts option ≡ 0
past_counts [] option le = refl
past_counts (n ∷ counts) zero le = absurd (omega (arith, le))
past_counts (n ∷ counts) (suc option) le = past_counts counts option (omega (arith, le))

whole : (counts : List ℕ) (i option : ℕ) → length counts ≤ i → where_so (nat_lt option i) (slice_index counts option) ≡ slice_index counts option
whole counts i option le =
    by_test (nat_lt option i) (λ is. ap (λ b. where_so b (slice_index counts option)) is)
    (λ isnt. let ge = ltb-false option i isnt in ap (λ b. where_so b (slice_index counts option)) isnt ∙ sym (past_counts counts option (omega (arith, le, ge))))

pub all_added : (a b : CostTable) (q prefix n : ℕ) (counts : List ℕ) (i : ℕ) → length counts ≤ i → Adds a b (counts_below q prefix n counts i) → Adds a b (of_counts q prefix n counts)
all_added a b q prefix n counts i le so_far = record {
  grown = λ q' prefix' n' option p. so_far.grown q' prefix' n' option p
      ∙ ap (λ m. entry_in a q' prefix' n' option + where_so (nat_eq q q') (where_so (nat_eq prefix prefix') (where_so (nat_eq n n') m))) (whole counts i option le);
  places = so_far.places;
}

pub small_at : (counts : List ℕ) (option : ℕ) → AreSmall counts → slice_index counts option ≤ 13 * most_records
small_at [] option h = omega arith
small_at (n ∷ counts) zero h = h.0
small_at (n ∷ counts) (suc option) h = small_at counts option h.1

-- a count with a fee
pub fee_within : (fee : ℕ) (counts : List ℕ) (option : ℕ) → option < length counts → slice_index (with_fee fee counts) option ≡ slice_index counts option + fee
fee_within fee [] option lt = absurd (omega (arith, lt))
fee_within fee (n ∷ counts) zero lt = refl
fee_within fee (n ∷ counts) (suc option) lt = fee_within fee counts option (omega (arith, lt))

pub fee_most : (fee : ℕ) (counts : List ℕ) (option : ℕ) → slice_index (with_fee fee counts) option ≤ slice_index counts option + fee
fee_most fee [] option = omega arith
fee_most fee (n ∷ counts) zero = omega arith
fee_most fee (n ∷ counts) (suc option) = fee_most fee counts option

-- there is room for the next count
pub room_at : (a b : CostTable) (q prefix n : ℕ) (counts : List ℕ) (fee i : ℕ) → i < 256 → HasPlaces a (q + 1) → prefix < 16 → n < 2 → HasRoom a q prefix n fee → AreSmall counts → Adds a b (counts_below q prefix n (with_fee fee counts) i)
    → entry_in b q prefix n i + slice_index counts i + fee ≤ 2 ^ 56
room_at a b q prefix n counts fee i lt has of_prefix of_branch room small so_far =
    let p : IsPlace a q prefix n i = record { of_query = has; of_prefix = of_prefix; of_branch = of_branch; of_option = lt } in
    let one = so_far.grown q prefix n i p in
    let next : ℕ = slice_index (with_fee fee counts) i in
    let z = zeros (nat_eq q q) (nat_eq prefix prefix) (nat_eq n n) (where_so (nat_lt i i) next) (ap (λ c. where_so c next) (not_less i i (omega arith))) in
    let r = room i lt in
    let s = small_at counts i small in
    omega (arith, one, z, r, s)

pub place_at : (a b : CostTable) (q prefix n i : ℕ) (f : Entries) → i < 256 → HasPlaces a (q + 1) → prefix < 16 → n < 2 → Adds a b f → IsPlace b q prefix n i
place_at a b q prefix n i f lt has of_prefix of_branch so_far = record { of_query = so_far.places (q + 1) has; of_prefix = of_prefix; of_branch = of_branch; of_option = lt }

-- ---- the counts of all branches

where_same : (f : ℕ → ℕ) (i x : ℕ) → where_so (nat_eq i x) (f i) ≡ where_so (nat_eq i x) (f x)
where_same f i x = by_test (nat_eq i x) (λ is. ap (λ n. where_so (nat_eq i x) (f n)) (nat_same i x is)) (λ isnt. ap (λ b. where_so b (f i)) isnt ∙ sym (ap (λ b. where_so b (f x)) isnt))

two : (x y : Bool) (m n k : ℕ) → m + n ≡ k → where_so x (where_so y m) + where_so x (where_so y n) ≡ where_so x (where_so y k)
two x y m n k e = both_where x (where_so y m) (where_so y n) ∙ ap (where_so x) (both_where y m n ∙ ap (where_so y) e)

pub no_branches : (a : CostTable) (q prefix : ℕ) (counts : ℕ → List ℕ) → Adds a a (of_branches q prefix 0 counts)
no_branches a q prefix counts = adds_none a (of_branches q prefix 0 counts) (λ q' prefix' n option. zeros (nat_eq q q') (nat_eq prefix prefix') true (where_so (nat_lt n 0) (slice_index (counts n) option)) (none_where n (slice_index (counts n) option)))

pub one_branch : (a b c : CostTable) (q prefix i : ℕ) (counts : ℕ → List ℕ) (found : List ℕ) → Adds a b (of_branches q prefix i counts) → found ≡ counts i → Adds b c (of_counts q prefix i found) → Adds a c (of_branches q prefix (i + 1) counts)
one_branch a b c q prefix i counts found so_far is more =
    adds_then a b c (of_branches q prefix i counts) (of_counts q prefix i (counts i)) (of_branches q prefix (i + 1) counts) so_far (subst (λ xs. Adds b c (of_counts q prefix i xs)) is more)
    (λ q' prefix' n option. two (nat_eq q q') (nat_eq prefix prefix') _ _ _ (next_where (λ x. slice_index (counts x) option) n i))

-- the entries of a branch that isn't counted yet have the room that they had
pub room_left : (a b : CostTable) (q prefix i fee : ℕ) (counts : ℕ → List ℕ) → HasPlaces a (q + 1) → prefix < 16 → i < 2 → Adds a b (of_branches q prefix i counts) → HasRoom a q prefix i fee → HasRoom b q prefix i fee
room_left a b q prefix i fee counts has of_prefix of_branch so_far room = λ option lt.
    let place : IsPlace a q prefix i option = record { of_query = has; of_prefix = of_prefix; of_branch = of_branch; of_option = lt } in
    let one = so_far.grown q prefix i option place in
    let z = zeros (nat_eq q q) (nat_eq prefix prefix) true (where_so (nat_lt i i) (slice_index (counts i) option)) (ap (λ c. where_so c (slice_index (counts i) option)) (not_less i i (omega arith))) in
    let r = room option lt in
    omega (arith, one, z, r)

-- each branch that is counted has small counts
pub small_more : (P : ℕ → Type 0) (i : ℕ) → ((b : ℕ) → b < i → P b) → P i → (b : ℕ) → b < i + 1 → P b
small_more P i below here b lt = by_test (nat_eq i b) (λ is. subst P (nat_same i b is) here) (λ isnt. below b (less i b lt (λ e. false≢true (sym isnt ∙ subst (λ y. nat_eq i y ≡ true) e (nat_self i)))))
  where
    less : (i b : ℕ) → b < i + 1 → (i ≡ b → ⊥) → b < i
    less i b lt apart = omega (arith, lt, apart)

-- ---- answers of calls

pub always : {A E : Type 0} (r : Result A E) (P : Type 0) → P → OnOk r P
always (Ok x) P p = p
always (Err e) P p = tt

pub on_both : {A E : Type 0} (r : Result A E) (P Q R : Type 0) → (P → Q → R) → OnOk r P → OnOk r Q → OnOk r R
on_both (Ok x) P Q R f p q = f p q
on_both (Err e) P Q R f p q = tt
