use Rattle.std.proofs.Common.{◌^◌, nat_eq, ◌||◌, option_map, is_some, unwrap_or, nat_lt, ◌-◌, inl, inr, subst, ◌≡◌, ℕ, ◌+◌, ◌≤◌, List, [], ◌∷◌, map, Bool, true, false, cond, Option, None, Some, refl, ap, sym, ◌∙◌, arith}
use Rattle.std.specs.List.{list_any}
use Rattle.std.proofs.lemmas.Bool.{ltb-false}
use Rattle.std.specs.Ordering.{nat_cmp, eq_by_cmp}
use Rattle.std.specs.Cmp.Lexicographic.{pointwise, slice_cmp, texts_ties, nat_list_eq_equiv, nat_list_cmp_total, bytes_decides}
use Rattle.std.specs.FinMap.{find, get, get-from_entries}
use Rattle.sn_io.specs.Counts.{OnlyRises, Rose, RoseAt, count_of}
use Rattle.sn_io.specs.Known.{Known, is_named, counted, raised, counts_of}
use Rattle.sn_base.proofs.Lists.{not_true}

abbrev pub same_name : List ℕ → List ℕ → Bool
same_name q k = eq_by_cmp (slice_cmp nat_cmp) q k

-- the test of an entry, as the map makes it
pub named_is : {X : Type 0} (name : List ℕ) (entry : List ℕ × X) → is_named name entry ≡ same_name name entry.0
named_is name entry = nat_list_eq_equiv.symm entry.0 name ∙ texts_ties name entry.0

pub apart : (name q k : List ℕ) → (q ≡ name → ⊥) → pointwise nat_eq k name ≡ true → same_name q k ≡ false
apart name q k ne is = not_true _ (λ e. ne ((bytes_decides q k).0 (texts_ties q k ∙ e) ∙ (bytes_decides k name).0 is))

find_other : (name : List ℕ) (known : Known) (q : List ℕ) → (q ≡ name → ⊥) → find (slice_cmp nat_cmp) q (raised name known) ≡ find (slice_cmp nat_cmp) q known
find_other name [] q ne = refl
find_other name (e ∷ es) q ne =
    elim (is_named name e) as (λ b. is_named name e ≡ b → find (slice_cmp nat_cmp) q (cond b ((e.0, counted e.1) ∷ es) (e ∷ raised name es)) ≡ find (slice_cmp nat_cmp) q (e ∷ es)) [
      | true ↦ λ is. let far = apart name q e.0 ne is in
          ap (λ b. cond b (Some (counted e.1)) (find (slice_cmp nat_cmp) q es)) far ∙ sym (ap (λ b. cond b (Some e.1) (find (slice_cmp nat_cmp) q es)) far)
      | false ↦ λ isnt. ap (cond (same_name q e.0) (Some e.1)) (find_other name es q ne)
    ] refl

find_same : (name : List ℕ) (known : Known) → find (slice_cmp nat_cmp) name (raised name known) ≡ option_map counted (find (slice_cmp nat_cmp) name known)
find_same name [] = refl
find_same name (e ∷ es) =
    elim (is_named name e) as (λ b. is_named name e ≡ b → find (slice_cmp nat_cmp) name (cond b ((e.0, counted e.1) ∷ es) (e ∷ raised name es)) ≡ option_map counted (find (slice_cmp nat_cmp) name (e ∷ es))) [
      | true ↦ λ is. let near = sym (named_is name e) ∙ is in
          ap (λ b. cond b (Some (counted e.1)) (find (slice_cmp nat_cmp) name es)) near ∙ sym (ap (λ b. option_map counted (cond b (Some e.1) (find (slice_cmp nat_cmp) name es))) near)
      | false ↦ λ isnt. let far = sym (named_is name e) ∙ isnt in
          ap (λ b. cond b (Some e.1) (find (slice_cmp nat_cmp) name (raised name es))) far ∙ find_same name es ∙ sym (ap (λ b. option_map counted (cond b (Some e.1) (find (slice_cmp nat_cmp) name es))) far)
    ] refl

kept : (o : Option ℕ) → is_some (option_map counted o) ≡ is_some o
kept None = refl
kept (Some n) = refl

pub counted_up : (n : ℕ) → n ≤ counted n
counted_up n = elim (nat_lt n (2 ^ 64 - 1)) as (λ b. n ≤ cond b (n + 1) n) [ true ↦ omega arith | false ↦ omega arith ]

-- the count rose, or stands at its last value
pub counted_rose : (n : ℕ) → Rose n (counted n)
counted_rose n = elim (nat_lt n (2 ^ 64 - 1)) as (λ b. nat_lt n (2 ^ 64 - 1) ≡ b → Rose n (cond b (n + 1) n)) [ true ↦ λ _. inl (omega arith) | false ↦ λ past. inr (ltb-false n (2 ^ 64 - 1) past) ] refl

up : (o : Option ℕ) → unwrap_or o 0 ≤ unwrap_or (option_map counted o) 0
up None = omega arith
up (Some n) = counted_up n

-- a raise of a name's count raises that count alone
pub raised_rises : (name : List ℕ) (known : Known) → OnlyRises name (counts_of known) (counts_of (raised name known))
raised_rises name known =
    let total = nat_list_cmp_total in
    let here = get-from_entries total (raised name known) name ∙ find_same name known ∙ ap (option_map counted) (sym (get-from_entries total known name)) in
    record {
      others = λ q ne. get-from_entries total (raised name known) q ∙ find_other name known q ne ∙ sym (get-from_entries total known q);
      known = ap is_some here ∙ kept (get (counts_of known) name);
      later = subst (λ (o : Option ℕ). unwrap_or (get (counts_of known) name) 0 ≤ unwrap_or o 0) (sym here) (up (get (counts_of known) name));
    }

rose_some : (o : Option ℕ) → is_some o ≡ true → Rose (unwrap_or o 0) (unwrap_or (option_map counted o) 0)
rose_some None is = cc
rose_some (Some n) is = counted_rose n

pub knows_find : {X Y : Type 0} (f : X → List ℕ × Y) (name : List ℕ) (xs : List X) → list_any (λ x. is_named name (f x)) xs ≡ is_some (find (slice_cmp nat_cmp) name (map f xs))
knows_find f name [] = refl
knows_find f name (x ∷ xs) =
    ap (λ b. b || list_any (λ y. is_named name (f y)) xs) (named_is name (f x))
    ∙ elim (same_name name (f x).0) as (λ b. (b || list_any (λ y. is_named name (f y)) xs) ≡ is_some (cond b (Some (f x).1) (find (slice_cmp nat_cmp) name (map f xs)))) [ true ↦ refl | false ↦ knows_find f name xs ]

-- a known name's count rose
pub raised_rose : (name : List ℕ) (known : Known) → is_some (get (counts_of known) name) ≡ true → RoseAt name (counts_of known) (counts_of (raised name known))
raised_rose name known is =
    let total = nat_list_cmp_total in
    let here = get-from_entries total (raised name known) name ∙ find_same name known ∙ ap (option_map counted) (sym (get-from_entries total known name)) in
    subst (λ (o : Option ℕ). Rose (count_of (counts_of known) name) (unwrap_or o 0)) (sym here) (rose_some (get (counts_of known) name) is)

-- whether an entry of the name is among them
pub knows_is : {X : Type 0} (f : X → List ℕ × ℕ) (name : List ℕ) (xs : List X) → list_any (λ x. is_named name (f x)) xs ≡ is_some (get (counts_of (map f xs)) name)
knows_is f name xs = knows_find f name xs ∙ ap is_some (sym (get-from_entries nat_list_cmp_total (map f xs) name))
