-- A chain after a list of offers.
use Rattle.std.proofs.Common.{◌≡◌, ℕ, ◌*◌, ◌≤◌, List, [], ◌∷◌, ◌++◌, fold, map, All, Option, None, replicate, refl, ap, sym, subst, ◌∙◌}
use Rattle.std.specs.List.{list_any}
use Rattle.std.specs.Cmp.Lexicographic.{nat_list_eq_equiv}
use Rattle.std.proofs.lemmas.List.Elements.{recursion_from_All}
use Rattle.std.proofs.lemmas.List.Sums.{fold-append}
use Rattle.sn_base.specs.Folds.{FoldLaws}
use Rattle.sn_base.specs.Groups.{Row, paired, same_row}
use Rattle.sn_base.proofs.FoldedLemmas.{same_row_exact}
use Rattle.sn_chain.specs.Registers.{cell}
use Rattle.sn_chain.specs.Chain.{ChainState, places_of, has_home, empty_chain, holder, vacancy, answer_at, answer_for, after_offer, after_offers, keys_of, resident_at, total_of}
use Rattle.sn_chain.specs.Homes.{held_in_order, homes_by_place}
use Rattle.sn_chain.proofs.HomeLemmas.{shown_in_order}
use Rattle.sn_chain.proofs.Places.{within_cells}
use Rattle.sn_chain.proofs.RegisterLemmas.{Stands, after, offers_stand, answers_stand}

-- one offer more
pub after_offers_push : {F : Type 0} (join : F → ℕ → ℕ → ℕ) (chain : ChainState F) (offers : List (Row × ℕ)) (o : Row × ℕ) → after_offers join chain (offers ++ o ∷ []) ≡ after_offer join (after_offers join chain offers) o.0 o.1
after_offers_push join chain offers o = fold-append (λ c x. after_offer join c x.0 x.1) chain offers (o ∷ [])

module _ {F : Type 0} (join : F → ℕ → ℕ → ℕ) (f : F) {has : ℕ → Type 0} {unit : ℕ} (L : FoldLaws has unit (join f)) (depth slots : ℕ) (some : 1 ≤ slots) where
  -- the cells after one offer
  abbrev after_one : List (Option (Row × ℕ)) → Row × ℕ → List (Option (Row × ℕ))
  after_one = after nat_list_eq_equiv same_row_exact (places_of depth slots) (depth * slots) (within_cells slots depth some) L

  abbrev AreStanding : List (Option (Row × ℕ)) → List (Row × ℕ) → Type 0
  AreStanding = Stands nat_list_eq_equiv same_row_exact (places_of depth slots) (depth * slots) (within_cells slots depth some) L

  with_cells : List (Option (Row × ℕ)) → ChainState F
  with_cells cells = record { fold = f; depth = depth; slots = slots; cells = cells }

  cells_after : (offers : List (Row × ℕ)) (cells : List (Option (Row × ℕ))) → after_offers join (with_cells cells) offers ≡ with_cells (fold after_one cells offers)
  unfolding with_cells
  cells_after [] cells = refl
  cells_after (o ∷ offers) cells = cells_after offers (after_one cells o)

  chain_stands : (offers : List (Row × ℕ)) → All (λ (o : Row × ℕ). has o.1) offers → AreStanding (after_offers join (empty_chain f depth slots) offers).cells offers
  unfolding with_cells
  chain_stands offers had =
      subst (λ (c : ChainState F). AreStanding c.cells offers) (sym (cells_after offers (replicate (depth * slots) None)))
      (offers_stand nat_list_eq_equiv same_row_exact (places_of depth slots) (depth * slots) (within_cells slots depth some) L offers (recursion_from_All (λ (o : Row × ℕ). has o.1) offers had))

  pub offers_show : (offers : List (Row × ℕ)) → All (λ (o : Row × ℕ). has o.1) offers → (p : ℕ) → cell (after_offers join (empty_chain f depth slots) offers).cells p ≡ resident_at (join f) unit depth slots offers p
  offers_show offers had p = (chain_stands offers had).shown p

  -- as many registers with as many slots
  same_shape : (offers : List (Row × ℕ)) → after_offers join (empty_chain f depth slots) offers ≡ with_cells (after_offers join (empty_chain f depth slots) offers).cells
  unfolding with_cells
  same_shape offers = let e = cells_after offers (replicate (depth * slots) None) in e ∙ ap (λ (c : ChainState F). with_cells c.cells) (sym e)

  pub answers_show : (before later : List (Row × ℕ)) (key : Row) (v : ℕ) → All (λ (o : Row × ℕ). has o.1) before →
      answer_at (holder (after_offers join (empty_chain f depth slots) before) key) (vacancy (after_offers join (empty_chain f depth slots) before) key)
      ≡ answer_for (has_home depth slots (keys_of (before ++ (key, v) ∷ later)) key) (list_any (same_row key) (keys_of before))
  unfolding with_cells
  answers_show before later key v had =
      ap (λ (c : ChainState F). answer_at (holder c key) (vacancy c key)) (same_shape before)
      ∙ answers_stand nat_list_eq_equiv same_row_exact (places_of depth slots) (depth * slots) (within_cells slots depth some) L (after_offers join (empty_chain f depth slots) before).cells before (chain_stands before had) key v later

  pub offers_in_order : (offers : List (Row × ℕ)) → All (λ (o : Row × ℕ). has o.1) offers →
      held_in_order (after_offers join (empty_chain f depth slots) offers).cells ≡ map (paired (total_of (join f) unit offers)) (homes_by_place depth slots (keys_of offers))
  offers_in_order offers had =
      let s = chain_stands offers had in
      shown_in_order nat_list_eq_equiv same_row_exact (places_of depth slots) (depth * slots) (within_cells slots depth some) (paired (total_of (join f) unit offers)) (keys_of offers)
      (after_offers join (empty_chain f depth slots) offers).cells s.long s.shown
