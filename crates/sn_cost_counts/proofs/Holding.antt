-- What a reduce holds, by rising place and in the order of first places.
use Rattle.std.proofs.Common.{◌≡◌, ℕ, List, map, filter, false, cond, Option, Some, None, sym, subst, ap}
use Rattle.std.specs.List.{list_any}
use Rattle.std.specs.Cmp.Lexicographic.{nat_list_eq_equiv}
use Rattle.sn_base.specs.Bags.{SameBag}
use Rattle.sn_base.specs.Groups.{Apart, Row, once, same_row}
use Rattle.sn_base.specs.Operators.{Grouping, key_of, pair_of, row_for}
use Rattle.sn_base.proofs.BagLemmas.{bag_map, bag_then}
use Rattle.sn_base.proofs.FoldedLemmas.{same_row_exact}
use Rattle.sn_base.proofs.GroupLemmas.{home_bag}
use Rattle.sn_base.proofs.Lists.{by_pushes, by_test, none_all}
use Rattle.sn_chain.specs.Chain.{has_home, homes_of, places_of}
use Rattle.sn_chain.specs.Homes.{by_place, homes_by_place}
use Rattle.sn_chain.specs.Residence.{free_place, residents, seated, seated_at}
use Rattle.sn_chain.proofs.HomeLemmas.{place_bag}
use Rattle.sn_chain.proofs.ResidenceLemmas.{offered, residents_keep, residents_push}
use Rattle.sn_cost_counts.specs.Flows.{held_rows}

module _ (places : Row → List ℕ) where
  abbrev keys_in : List (ℕ × Row) → List Row
  keys_in taken = map (λ (h : ℕ × Row). h.1) taken

  apart_at : (taken : List (ℕ × Row)) (k : Row) → Apart same_row (keys_in taken) → list_any (same_row k) (keys_in taken) ≡ false → (o : Option ℕ) → Apart same_row (keys_in (seated_at same_row places taken k o))
  apart_at taken k h new None = h
  apart_at taken k h new (Some p) = (none_all (same_row k) (keys_in taken) new, h)

  apart_offered : (taken : List (ℕ × Row)) (k : Row) → Apart same_row (keys_in taken) → Apart same_row (keys_in (offered nat_list_eq_equiv same_row_exact places taken k))
  apart_offered taken k h =
      by_test (list_any (same_row k) (keys_in taken))
      (λ is. subst (λ (ts : List (ℕ × Row)). Apart same_row (keys_in ts)) (sym (ap (λ b. cond b taken (seated same_row places taken k)) is)) h)
      (λ isnt. subst (λ (ts : List (ℕ × Row)). Apart same_row (keys_in ts)) (sym (ap (λ b. cond b taken (seated same_row places taken k)) isnt)) (apart_at taken k h isnt (free_place same_row places taken k)))

  -- no key resides twice
  residents_apart : (keys : List Row) → Apart same_row (keys_in (residents same_row places keys))
  residents_apart =
      by_pushes (λ (keys : List Row). Apart same_row (keys_in (residents same_row places keys))) tt
      (λ keys k h. subst (λ (ts : List (ℕ × Row)). Apart same_row (keys_in ts)) (sym (residents_push nat_list_eq_equiv same_row_exact places keys k)) (apart_offered (residents same_row places keys) k h))

-- the resident keys by rising place are those in the order of first places, in another order
homes_bag : (depth slots : ℕ) (keys : List Row) → SameBag (homes_by_place depth slots keys) (filter (has_home depth slots keys) (once same_row keys))
homes_bag depth slots keys =
    let taken : List (ℕ × Row) = homes_of depth slots keys in
    bag_then
    (bag_map (λ (h : ℕ × Row). h.1) (by_place taken) taken (place_bag taken))
    (home_bag (map (λ (h : ℕ × Row). h.1) taken) keys (residents_apart (places_of depth slots) keys) (λ k is. (residents_keep nat_list_eq_equiv same_row_exact (places_of depth slots) keys).known k is))

-- and so are the rows that a reduce holds
pub held_bag : (depth slots : ℕ) (g : Grouping) (rows : List Row) → SameBag (map (row_for g (map (pair_of g) rows)) (homes_by_place depth slots (map (key_of g) rows))) (held_rows depth slots g rows)
held_bag depth slots g rows =
    let keys : List Row = map (key_of g) rows in
    bag_map (row_for g (map (pair_of g) rows)) (homes_by_place depth slots keys) (filter (has_home depth slots keys) (once same_row keys)) (homes_bag depth slots keys)
