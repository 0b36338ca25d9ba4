-- What the registers of a reduce hold, by distinct keys.
use Rattle.std.proofs.Common.{◌≡◌, ℕ, ◌≤◌, List, [], ◌∷◌, map, filter, length, Bool, cond, not, refl, ap, sym, ◌∙◌}
use Rattle.std.specs.List.{list_any}
use Rattle.std.proofs.lemmas.List.{length-map}
use Rattle.sn_base.specs.Bags.{SameBag}
use Rattle.sn_base.specs.Groups.{Row, once, same_row}
use Rattle.sn_base.specs.Operators.{Grouping, key_of, pair_of, row_for}
use Rattle.sn_base.proofs.BagLemmas.{bag_map, bag_same, bag_then}
use Rattle.sn_base.proofs.GroupLemmas.{home_bag}
use Rattle.sn_base.proofs.Lists.{filter_map}
use Rattle.sn_chain.specs.Chain.{has_home}
use Rattle.sn_chain.specs.Homes.{homes_by_place}
use Rattle.sn_chain.proofs.HomeLemmas.{homes_apart, homes_known, homes_test}
use Rattle.sn_cost_seats.specs.Tallies.{marked, sum_unmarked, tallied}
use Rattle.sn_cost_seats.proofs.Tallying.{marked_filter, overflow_counted, same_homes}

-- the rows whose key overflows are counted by the distinct keys
pub over_counted : (depth slots : ℕ) (g : Grouping) (rows : List Row) → let keys = map (key_of g) rows in
    sum_unmarked (map (has_home depth slots (once same_row keys)) (once same_row keys)) (tallied keys) ≡ length (filter (λ row. not (has_home depth slots keys (key_of g row))) rows)
over_counted depth slots g rows =
    let keys = map (key_of g) rows in
    overflow_counted depth slots keys
    ∙ sym (ap length (filter_map (key_of g) (λ key. not (has_home depth slots keys key)) rows))
    ∙ length-map (filter (λ row. not (has_home depth slots keys (key_of g row))) rows) (key_of g)

filter_alike : (p q : Row → Bool) → ((x : Row) → p x ≡ q x) → (xs : List Row) → filter p xs ≡ filter q xs
filter_alike p q e [] = refl
filter_alike p q e (x ∷ xs) = ap (λ ys. cond (p x) (x ∷ ys) ys) (filter_alike p q e xs) ∙ ap (λ b. cond b (x ∷ filter q xs) (filter q xs)) (e x)

-- the resident keys by rising place are the distinct keys with a home, in another order
pub residents_bag : (depth slots : ℕ) → 1 ≤ slots → (keys : List Row) → SameBag (homes_by_place depth slots keys) (marked (map (has_home depth slots (once same_row keys)) (once same_row keys)) (once same_row keys))
residents_bag depth slots some keys =
    let homes = homes_by_place depth slots keys in
    bag_then
    (home_bag homes keys (homes_apart depth slots some keys) (homes_known depth slots keys))
    (bag_same
    (filter_alike (λ k. list_any (same_row k) homes) (has_home depth slots keys) (homes_test depth slots keys) (once same_row keys)
    ∙ sym (marked_filter (has_home depth slots (once same_row keys)) (once same_row keys) ∙ ap (λ (t : Row → Bool). filter t (once same_row keys)) (same_homes depth slots keys))))

-- what a reduce holds, in another order
pub held_bag : (depth slots : ℕ) → 1 ≤ slots → (g : Grouping) (rows : List Row) → let keys = map (key_of g) rows in
    SameBag (map (row_for g (map (pair_of g) rows)) (homes_by_place depth slots keys))
    (map (row_for g (map (pair_of g) rows)) (marked (map (has_home depth slots (once same_row keys)) (once same_row keys)) (once same_row keys)))
held_bag depth slots some g rows =
    let keys = map (key_of g) rows in
    bag_map (row_for g (map (pair_of g) rows)) (homes_by_place depth slots keys) (marked (map (has_home depth slots (once same_row keys)) (once same_row keys)) (once same_row keys)) (residents_bag depth slots some keys)
