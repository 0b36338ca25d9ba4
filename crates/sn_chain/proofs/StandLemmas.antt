-- Each key that a chain holds stands at one of its places, and at no other.
use Rattle.std.proofs.Common.{◌≡◌, ℕ, ◌+◌, ◌*◌, ◌<◌, ◌≤◌, ◌⊎◌, List, Bool, true, false, length, nat_eq, Option, Some, None, is_none, IfSome, get_or, set, replicate, inl, inr, refl, ap, sym, subst, ◌∙◌, arith}
use Rattle.std.specs.List.{list_any}
use Rattle.std.specs.Cmp.Lexicographic.{nat_list_eq_equiv}
use Rattle.std.proofs.lemmas.Bool.{false≢true}
use Rattle.std.proofs.lemmas.List.{get_or-set_same, get_or-set_other}
use Rattle.sn_base.specs.Groups.{Row, same_row}
use Rattle.sn_base.proofs.Lists.{by_test, nat_same, nat_self, find_is, find_among, find_some}
use Rattle.sn_base.proofs.FoldedLemmas.{same_row_exact}
use Rattle.sn_chain.specs.Chain.{ChainState, KeysStand, holder, place_for, places_from, places_of}
use Rattle.sn_chain.specs.Registers.{cell, holds, held_place, empty_place, stepped, put}
use Rattle.sn_chain.proofs.Places.{first_or_later, none_before, within_cells}
use Rattle.sn_chain.proofs.RegisterLemmas.{none_at, some_of}

-- what holds a key
holds_one : (k : Row) (o : Option (Row × ℕ)) → holds same_row k o ≡ true → (e : Row × ℕ) × ((o ≡ Some e) × (k ≡ e.0))
holds_one k None is = absurd (false≢true is)
holds_one k (Some e) is = (e, (refl, same_row_exact k e.0 is))

none_some : {X : Type 0} (x : X) → None ≡ Some x → ⊥
none_some x is = cc

-- cells without a key
pub stand_bare : (depth slots n : ℕ) → KeysStand depth slots (replicate n None)
stand_bare depth slots n = record {
  own = λ p e at. absurd (none_some e (sym (none_at n p) ∙ at));
  earlier = λ p register e at. absurd (none_some e (sym (none_at n p) ∙ at));
  once = λ p q d e at. absurd (none_some d (sym (none_at n p) ∙ at));
}

module _ (depth slots : ℕ) (cells : List (Option (Row × ℕ))) (stand : KeysStand depth slots cells) where
  abbrev found_at : Row → Option ℕ
  found_at k = held_place same_row cells (places_of depth slots k) k

  holds_there : (p : ℕ) (e : Row × ℕ) → cell cells p ≡ Some e → holds same_row e.0 (cell cells p) ≡ true
  holds_there p e at = ap (holds same_row e.0) at ∙ nat_list_eq_equiv.refl e.0

  -- a key that is held is found, and found where it is held
  pub stand_holder : (p : ℕ) (e : Row × ℕ) → cell cells p ≡ Some e → found_at e.0 ≡ Some p
  stand_holder p e at =
      let test : ℕ → Bool = λ q. holds same_row e.0 (cell cells q) in
      let places = places_of depth slots e.0 in
      let found = some_of (found_at e.0) (find_some test places p (stand.own p e at) (holds_there p e at)) in
      let there = holds_one e.0 (cell cells found.0) (find_is test places found.0 found.1) in
      found.1 ∙ ap (λ (q : ℕ). Some q) (stand.once found.0 p there.0 e there.1.0 at (sym there.1.1))

  -- where one of a key's places is empty, no later one holds it
  pub none_later : (register count : ℕ) (k : Row) → is_none (cell cells (place_for slots k register)) ≡ true → held_place same_row cells (places_from slots register count k) k ≡ None
  none_later register count k empty = by_found (held_place same_row cells (places_from slots register count k) k) refl
    where
      test : ℕ → Bool
      test q = holds same_row k (cell cells q)

      held_there : (p : ℕ) (e : Row × ℕ) → cell cells p ≡ Some e → k ≡ e.0 → (p ≡ place_for slots k register) ⊎ (register * slots + slots ≤ p) → ⊥
      held_there p e at same place = elim place [
        | inl here ↦ false≢true (sym (ap is_none (sym (ap (cell cells) here) ∙ at)) ∙ empty)
        | inr later ↦
            false≢true (sym (subst (λ (x : Row). is_none (cell cells (place_for slots x register)) ≡ false) (sym same) (stand.earlier p register e at later)) ∙ empty)
      ]

      by_found : (o : Option ℕ) → held_place same_row cells (places_from slots register count k) k ≡ o → held_place same_row cells (places_from slots register count k) k ≡ None
      by_found None found = found
      by_found (Some p) found =
          let places = places_from slots register count k in
          let here = holds_one k (cell cells p) (find_is (λ q. holds same_row k (cell cells q)) places p found) in
          absurd (held_there p here.0 here.1.0 here.1.1 (first_or_later slots count register k p (find_among (λ q. holds same_row k (cell cells q)) places p found)))

  -- a cell takes a key at one of its places that no other cell holds, where the earlier ones are held
  stand_set : (p : ℕ) (k : Row) (w : ℕ) → p < length cells → list_any (nat_eq p) (places_of depth slots k) ≡ true →
      ((register : ℕ) → register * slots + slots ≤ p → is_none (cell cells (place_for slots k register)) ≡ false) → ((q : ℕ) (e : Row × ℕ) → cell cells q ≡ Some e → k ≡ e.0 → q ≡ p) →
      KeysStand depth slots (set cells p (Some (k, w)))
  stand_set p k w inside own full alone = record {
    own = λ q e at. elim (seen q e at) [
      | inl (is, same) ↦ subst (λ (x : Row). list_any (nat_eq q) (places_of depth slots x) ≡ true) same (subst (λ (i : ℕ). list_any (nat_eq i) (places_of depth slots k) ≡ true) (sym is) own)
      | inr old ↦ stand.own q e old
    ];
    earlier = λ q register e at before. elim (seen q e at) [
      | inl (is, same) ↦
          still_held (place_for slots e.0 register)
          (subst (λ (x : Row). is_none (cell cells (place_for slots x register)) ≡ false) same (full register (subst (λ (i : ℕ). register * slots + slots ≤ i) is before)))
      | inr old ↦ still_held (place_for slots e.0 register) (stand.earlier q register e old before)
    ];
    once = λ q r d e at_q at_r same. elim (seen q d at_q) [
      | inl (is, first) ↦ elim (seen r e at_r) [ inl (too, second) ↦ is ∙ sym too | inr old ↦ is ∙ sym (alone r e old (first ∙ same)) ]
      | inr before ↦ elim (seen r e at_r) [ inl (too, second) ↦ alone q d before (second ∙ sym same) ∙ sym too | inr old ↦ stand.once q r d e before old same ]
    ];
  }
    where
      still_held : (q : ℕ) → is_none (cell cells q) ≡ false → is_none (cell (set cells p (Some (k, w))) q) ≡ false
      still_held q held =
          by_test (nat_eq q p)
          (λ is. ap is_none (ap (λ i. get_or (set cells p (Some (k, w))) i None) (nat_same q p is) ∙ get_or-set_same cells p (Some (k, w)) None inside))
          (λ away. ap is_none (get_or-set_other cells p q (Some (k, w)) None (λ is. false≢true (sym away ∙ ap (λ i. nat_eq i p) is ∙ nat_self p))) ∙ held)

      some_same : (x y : Row × ℕ) → Some x ≡ Some y → x.0 ≡ y.0
      some_same x y is = cc

      seen : (q : ℕ) (e : Row × ℕ) → cell (set cells p (Some (k, w))) q ≡ Some e → ((q ≡ p) × (k ≡ e.0)) ⊎ (cell cells q ≡ Some e)
      seen q e at =
          by_test (nat_eq q p)
          (λ is. inl (nat_same q p is, some_same (k, w) e (sym (ap (λ i. get_or (set cells p (Some (k, w))) i None) (nat_same q p is) ∙ get_or-set_same cells p (Some (k, w)) None inside) ∙ at)))
          (λ away. inr (sym (get_or-set_other cells p q (Some (k, w)) None (λ is. false≢true (sym away ∙ ap (λ i. nat_eq i p) is ∙ nat_self p))) ∙ at))

  module _ (some : 1 ≤ slots) (long : length cells ≡ depth * slots) (step : ℕ → ℕ → ℕ) (k : Row) (v : ℕ) where
    inside : (p : ℕ) → list_any (nat_eq p) (places_of depth slots k) ≡ true → p < length cells
    inside p own = subst (λ (n : ℕ). p < n) (sym long) (within_cells slots depth some k p own)

    -- the key is held
    stand_held : (p : ℕ) → found_at k ≡ Some p → KeysStand depth slots (set cells p (stepped step v (cell cells p)))
    stand_held p found =
        let test : ℕ → Bool = λ q. holds same_row k (cell cells q) in
        let places = places_of depth slots k in
        let own = find_among test places p found in
        let here = holds_one k (cell cells p) (find_is test places p found) in
        let e = here.0 in
        let same : k ≡ e.0 = here.1.1 in
        let is : stepped step v (cell cells p) ≡ Some (e.0, step e.1 v) = ap (stepped step v) here.1.0 in
        subst (λ (o : Option (Row × ℕ)). KeysStand depth slots (set cells p o)) (sym is)
        (stand_set p e.0 (step e.1 v) (inside p own) (subst (λ (x : Row). list_any (nat_eq p) (places_of depth slots x) ≡ true) same own) (λ register. stand.earlier p register e here.1.0) (λ q d at equal. stand.once q p d e at here.1.0 (sym equal)))

    -- it isn't, and takes an empty cell
    stand_new : (p : ℕ) → found_at k ≡ None → empty_place cells (places_of depth slots k) ≡ Some p → KeysStand depth slots (set cells p (Some (k, v)))
    stand_new p none empty =
        let own = find_among _ (places_of depth slots k) p empty in
        stand_set p k v (inside p own) own (λ register. none_before (λ q. is_none (cell cells q)) slots some k p depth 0 empty register (omega arith)) (λ q e at same. absurd (none_some q (sym none ∙ ap found_at same ∙ stand_holder q e at)))

    -- the cells after an offer
    pub stand_put : KeysStand depth slots (put step cells k v (found_at k) (empty_place cells (places_of depth slots k)))
    stand_put = by_both (found_at k) (empty_place cells (places_of depth slots k)) refl refl
      where
        by_both : (h e : Option ℕ) → found_at k ≡ h → empty_place cells (places_of depth slots k) ≡ e → KeysStand depth slots (put step cells k v h e)
        by_both (Some p) e found empty = stand_held p found
        by_both None (Some p) found empty = stand_new p found empty
        by_both None None found empty = stand

-- of a chain as contracts see it
module _ {F : Type 0} (s : ChainState F) (stand : KeysStand s.depth s.slots s.cells) where
  pub chain_found : (p : ℕ) (e : Row × ℕ) → cell s.cells p ≡ Some e → holder s e.0 ≡ Some p
  chain_found p e at = stand_holder s.depth s.slots s.cells stand p e at

  pub read_found : (p : ℕ) (o : Option (Row × ℕ)) → cell s.cells p ≡ o → IfSome o (λ e. holder s e.0 ≡ Some p)
  read_found p None at = tt
  read_found p (Some e) at = chain_found p e at
