-- Which elements of a list are answered how, where each brings a key and a value to a chain that begins empty.
use Rattle.std.proofs.Common.{◌≡◌, ℕ, ◌≤◌, List, [], ◌∷◌, ◌++◌, map, filter, Bool, true, false, not, ◌||◌, cond, refl, ap, sym, ◌∙◌, append_assoc}
use Rattle.std.specs.List.{list_any, AllByRecursion}
use Rattle.std.specs.Cmp.Lexicographic.{nat_list_eq_equiv}
use Rattle.std.proofs.lemmas.Bool.{false≢true}
use Rattle.std.proofs.lemmas.List.{map-append}
use Rattle.std.proofs.lemmas.List.Elements.{All-from_recursion, recursion_from_All, filter_passes}
use Rattle.sn_base.specs.Folds.{FoldLaws}
use Rattle.sn_base.specs.Groups.{Row, same_row, once}
use Rattle.sn_base.proofs.Lists.{by_test, not_true, any_push, map_both, all_append, all_weaker}
use Rattle.sn_base.proofs.OnceLemmas.{all_once}
use Rattle.sn_base.proofs.FoldedLemmas.{same_row_exact}
use Rattle.sn_chain.specs.Chain.{ChainState, has_home, empty_chain, holder, vacancy, answer_at, answer_for, after_offer, after_offers, keys_of}
use Rattle.sn_chain.specs.declared.offer.Offer.{Offer}
use Rattle.sn_chain.specs.declared.offer.Offer.TheVariants.{New, Held, Over}
use Rattle.sn_chain.proofs.ChainLemmas.{after_offers_push, answers_show}

abbrev pub is_new : Offer → Bool
is_new New = true
is_new Held = false
is_new Over = false

abbrev pub is_over : Offer → Bool
is_over New = false
is_over Held = false
is_over Over = true

filter_both : {X : Type 0} (p q r : X → Bool) → ((x : X) → r x ≡ cond (q x) (p x) false) → (xs : List X) → filter r xs ≡ filter p (filter q xs)
filter_both p q r e [] = refl
filter_both p q r e (x ∷ xs) =
    let rest = filter_both p q r e xs in
    by_test (q x)
    (λ is. ap (λ b. cond b (x ∷ filter r xs) (filter r xs)) (e x ∙ ap (λ b. cond b (p x) false) is)
    ∙ ap (λ ys. cond (p x) (x ∷ ys) ys) rest
    ∙ sym (ap (λ b. filter p (cond b (x ∷ filter q xs) (filter q xs))) is))
    (λ isnt. ap (λ b. cond b (x ∷ filter r xs) (filter r xs)) (e x ∙ ap (λ b. cond b (p x) false) isnt)
    ∙ rest
    ∙ sym (ap (λ b. filter p (cond b (x ∷ filter q xs) (filter q xs))) isnt))

filter_agree : {X : Type 0} (p q : X → Bool) (xs : List X) → AllByRecursion (λ x. p x ≡ q x) xs → filter p xs ≡ filter q xs
filter_agree p q [] e = refl
filter_agree p q (x ∷ xs) e = ap (λ b. cond b (x ∷ filter p xs) (filter p xs)) e.0 ∙ ap (λ ys. cond (q x) (x ∷ ys) ys) (filter_agree p q xs e.1)

module _ {X : Type 0} (key : X → Row) where
  abbrev pub same_key : X → X → Bool
  same_key x y = same_row (key x) (key y)

  -- the elements whose answer passes a test, where keys with a home are known, and these keys came before
  abbrev picked : (Offer → Bool) → (Row → Bool) → List Row → List X → List X
  picked t home came [] = []
  picked t home came (x ∷ xs) = cond (t (answer_for (home (key x)) (list_any (same_row (key x)) came))) (x ∷ picked t home (came ++ key x ∷ []) xs) (picked t home (came ++ key x ∷ []) xs)

  picked_over : (home : Row → Bool) (came : List Row) (xs : List X) → picked is_over home came xs ≡ filter (λ x. not (home (key x))) xs
  picked_over home came [] = refl
  picked_over home came (x ∷ xs) =
      let rest = picked is_over home (came ++ key x ∷ []) xs in
      ap (λ b. cond b (x ∷ rest) rest) (over_where (home (key x)) (list_any (same_row (key x)) came))
      ∙ ap (λ ys. cond (not (home (key x))) (x ∷ ys) ys) (picked_over home (came ++ key x ∷ []) xs)
    where
      over_where : (h c : Bool) → is_over (answer_for h c) ≡ not h
      over_where true true = refl
      over_where true false = refl
      over_where false c = refl

  abbrev new_to : List Row → X → Bool
  new_to came x = not (list_any (same_row (key x)) came)

  -- the first of each key among those with a home
  abbrev firsts : (Row → Bool) → List X → List X
  firsts home xs = once same_key (filter (λ x. home (key x)) xs)

  -- new after one key more: new to those before, and not that key
  both_new : (x y : X) (came : List Row) → new_to (came ++ key x ∷ []) y ≡ cond (not (same_key x y)) (new_to came y) false
  both_new x y came =
      ap not (any_push (same_row (key y)) came (key x) ∙ ap (λ b. list_any (same_row (key y)) came || b) (nat_list_eq_equiv.symm (key y) (key x)))
      ∙ either (list_any (same_row (key y)) came) (same_key x y)
    where
      either : (a b : Bool) → not (a || b) ≡ cond (not b) (not a) false
      either true true = refl
      either true false = refl
      either false true = refl
      either false false = refl

  far_new : (x y : X) (came : List Row) → same_key x y ≡ false → new_to (came ++ key x ∷ []) y ≡ new_to came y
  far_new x y came far = both_new x y came ∙ ap (λ b. cond (not b) (new_to came y) false) far

  home_apart : (home : Row → Bool) (x y : X) → home (key x) ≡ false → home (key y) ≡ true → same_key x y ≡ false
  home_apart home x y isnt is = not_true (same_key x y) (λ same. false≢true (sym isnt ∙ ap home (same_row_exact (key x) (key y) same) ∙ is))

  picked_new : (home : Row → Bool) (came : List Row) (xs : List X) → picked is_new home came xs ≡ filter (new_to came) (firsts home xs)
  picked_new home came [] = refl
  picked_new home came (x ∷ xs) =
      let later = came ++ key x ∷ [] in
      let ys = filter (λ y. home (key y)) xs in
      let os = once same_key ys in
      let rest = picked is_new home later xs in
      by_test (home (key x))
      (λ is.
      ap (λ h. cond (is_new (answer_for h (list_any (same_row (key x)) came))) (x ∷ rest) rest) is
      ∙ ap (λ b. cond b (x ∷ rest) rest) (new_where (list_any (same_row (key x)) came))
      ∙ ap (λ zs. cond (new_to came x) (x ∷ zs) zs)
      (picked_new home later xs ∙ filter_both (new_to came) (λ y. not (same_key x y)) (new_to later) (λ y. both_new x y came) os)
      ∙ sym (ap (λ h. filter (new_to came) (once same_key (cond h (x ∷ ys) ys))) is))
      (λ isnt.
      ap (λ h. cond (is_new (answer_for h (list_any (same_row (key x)) came))) (x ∷ rest) rest) isnt
      ∙ picked_new home later xs
      ∙ filter_agree (new_to later) (new_to came) os
      (all_once same_key (λ y. new_to later y ≡ new_to came y) ys
      (all_weaker (λ y. home (key y) ≡ true) (λ y. new_to later y ≡ new_to came y) (λ y has. far_new x y came (home_apart home x y isnt has))
      ys (recursion_from_All (λ y. home (key y) ≡ true) ys (filter_passes (λ y. home (key y)) xs))))
      ∙ sym (ap (λ h. filter (new_to came) (once same_key (cond h (x ∷ ys) ys))) isnt))
    where
      new_where : (c : Bool) → is_new (answer_for true c) ≡ not c
      new_where true = refl
      new_where false = refl

  picked_first : (home : Row → Bool) (xs : List X) → picked is_new home [] xs ≡ firsts home xs
  picked_first home xs = picked_new home [] xs ∙ filter_true (firsts home xs)
    where
      filter_true : (ys : List X) → filter (new_to []) ys ≡ ys
      filter_true [] = refl
      filter_true (y ∷ ys) = ap (λ zs. y ∷ zs) (filter_true ys)

module _ {F : Type 0} (join : F → ℕ → ℕ → ℕ) (f : F) {has : ℕ → Type 0} {unit : ℕ} (L : FoldLaws has unit (join f)) (depth slots : ℕ) (some : 1 ≤ slots) {X : Type 0} (key : X → Row) (value : X → ℕ) where
  -- the elements whose answer passes a test, from a chain on
  abbrev pub answered : (Offer → Bool) → ChainState F → List X → List X
  answered t chain [] = []
  answered t chain (x ∷ xs) =
      cond (t (answer_at (holder chain (key x)) (vacancy chain (key x)))) (x ∷ answered t (after_offer join chain (key x) (value x)) xs) (answered t (after_offer join chain (key x) (value x)) xs)

  abbrev offer_of : X → Row × ℕ
  offer_of x = (key x, value x)

  abbrev chain_of : List (Row × ℕ) → ChainState F
  chain_of front = after_offers join (empty_chain f depth slots) front

  keys_more : (front : List (Row × ℕ)) (xs : List X) → keys_of (front ++ map offer_of xs) ≡ keys_of front ++ map key xs
  keys_more front xs = map-append (λ (o : Row × ℕ). o.0) front (map offer_of xs) ∙ ap (λ ks. keys_of front ++ ks) (map_both offer_of (λ (o : Row × ℕ). o.0) xs)

  answered_from : (t : Offer → Bool) (front : List (Row × ℕ)) (xs : List X) → AllByRecursion (λ (o : Row × ℕ). has o.1) front → AllByRecursion (λ x. has (value x)) xs →
      answered t (chain_of front) xs ≡ picked key t (has_home depth slots (keys_of front ++ map key xs)) (keys_of front) xs
  answered_from t front [] old new = refl
  answered_from t front (x ∷ xs) old new =
      let chain = chain_of front in
      let home = has_home depth slots (keys_of front ++ key x ∷ map key xs) in
      let came = keys_of front in
      let next = front ++ offer_of x ∷ [] in
      let answer : answer_at (holder chain (key x)) (vacancy chain (key x)) ≡ answer_for (home (key x)) (list_any (same_row (key x)) came) =
      answers_show join f L depth slots some front (map offer_of xs) (key x) (value x) (All-from_recursion (λ (o : Row × ℕ). has o.1) front old)
      ∙ ap (λ ks. answer_for (has_home depth slots ks (key x)) (list_any (same_row (key x)) came)) (keys_more front (x ∷ xs)) in
      let next_keys : keys_of next ≡ came ++ key x ∷ [] = map-append (λ (o : Row × ℕ). o.0) front (offer_of x ∷ []) in
      let rest : answered t (after_offer join chain (key x) (value x)) xs ≡ picked key t home (came ++ key x ∷ []) xs =
      ap (λ c. answered t c xs) (sym (after_offers_push join (empty_chain f depth slots) front (offer_of x)))
      ∙ answered_from t next xs (all_append (λ (o : Row × ℕ). has o.1) front (offer_of x ∷ []) old (new.0, tt)) new.1
      ∙ ap (λ ks. picked key t (has_home depth slots (ks ++ map key xs)) ks xs) next_keys
      ∙ ap (λ ks. picked key t (has_home depth slots ks) (came ++ key x ∷ []) xs) (append_assoc came (key x ∷ []) (map key xs)) in
      ap (λ o. cond (t o) (x ∷ answered t (after_offer join chain (key x) (value x)) xs) (answered t (after_offer join chain (key x) (value x)) xs)) answer
      ∙ ap (λ ys. cond (t (answer_for (home (key x)) (list_any (same_row (key x)) came))) (x ∷ ys) ys) rest

  -- those that are answered Over are those whose keys don't reside
  pub answered_over : (xs : List X) → AllByRecursion (λ x. has (value x)) xs → answered is_over (empty_chain f depth slots) xs ≡ filter (λ x. not (has_home depth slots (map key xs) (key x))) xs
  answered_over xs had = answered_from is_over [] xs tt had ∙ picked_over key (has_home depth slots (map key xs)) [] xs

  -- those that are answered New are the first of each resident key
  pub answered_new : (xs : List X) → AllByRecursion (λ x. has (value x)) xs → answered is_new (empty_chain f depth slots) xs ≡ once (same_key key) (filter (λ x. has_home depth slots (map key xs) (key x)) xs)
  answered_new xs had = answered_from is_new [] xs tt had ∙ picked_first key (has_home depth slots (map key xs)) xs
