-- Keys that take seats one after another.
use Rattle.std.proofs.Common.{◌≡◌, ℕ, suc, ◌+◌, ◌-◌, ◌*◌, ◌≤◌, ◌<◌, List, [], ◌∷◌, ◌++◌, map, take, length, get_or, set, find, Bool, true, false, cond, not, ◌&&◌, if◌then◌else◌, is_some, Option, Some, None, refl, ap, sym, ◌∙◌, arith}
use Rattle.std.proofs.Math.ListN.{get_or-map}
use Rattle.std.proofs.lemmas.List.{get_or_default, length-append, length-map, length-set, set-get_or, take_all}
use Rattle.std.proofs.lemmas.Bool.{false≢true}
use Rattle.sn_base.specs.Groups.{Apart, Row, same_row}
use Rattle.sn_chain.specs.Chain.{place_for, places_from}
use Rattle.sn_cost_seats.specs.Marks.{free_for, is_free, taken_with}
use Rattle.sn_cost_seats.proofs.Marking.{Marked, free_within, one_marked}

-- what is seen of the item at a place
pub seen_at : {X : Type 0} (f : X → Row) (xs : List X) (i : ℕ) (x : X) → i < length xs → x ≡ get_or xs i x → f x ≡ get_or (map f xs) i []
seen_at f xs i x lt at = ap f at ∙ sym (get_or-map f xs i x) ∙ get_or_default (map f xs) i (f x) [] (omega (arith, lt, length-map xs f))

taken_long : (taken : List Bool) (o : Option ℕ) → length (taken_with taken o) ≡ length taken
taken_long taken None = refl
taken_long taken (Some p) = length-set taken p true

-- ---- a key's places, one after another

after_long : (marks later : List Bool) (p : ℕ) (looking : Bool) → later ≡ (if looking then set marks p true else marks) → length later ≡ length marks
after_long marks later p true is = ap length is ∙ length-set marks p true
after_long marks later p false is = ap length is

set_again : (marks : List Bool) (p : ℕ) → get_or marks p false ≡ true → set marks p true ≡ marks
set_again marks p is = ap (set marks p) (sym is) ∙ set-get_or marks p false

module _ (depth slots : ℕ) (taken : List Bool) (key : Row) where
  -- the first free place from a register on
  abbrev pub from : ℕ → Option ℕ
  from register = find (is_free taken) (places_from slots register (depth - register) key)

  from_here : (register : ℕ) → register < depth → from register ≡ cond (is_free taken (place_for slots key register)) (Some (place_for slots key register)) (from (register + 1))
  from_here register lt = ap (λ n. find (is_free taken) (places_from slots register n key)) one_less
    where
      one_less : depth - register ≡ suc (depth - (register + 1))
      one_less = omega (arith, lt)

  -- where a place is looked for, nothing was taken, and the first that is free is ahead; else it was found and taken
  pub record Looking (register : ℕ) (marks : List Bool) (looking : Bool) : Type 0 where
    pub long : length marks ≡ depth * slots
    pub same : looking ≡ true → marks ≡ taken
    pub ahead : looking ≡ true → from register ≡ free_for depth slots taken key
    pub home : looking ≡ false → is_some (free_for depth slots taken key) ≡ true
    pub found : looking ≡ false → marks ≡ taken_with taken (free_for depth slots taken key)

  pub one_looked : (register p : ℕ) (marks later : List Bool) (looking still : Bool) → register < depth → p ≡ place_for slots key register → Looking register marks looking
      → still ≡ (looking && get_or marks p false) → later ≡ (if looking then set marks p true else marks) → Looking (register + 1) later still
  one_looked register p marks later true still lt at so_far is after = by_mark (get_or marks p false) refl
    where
      same : marks ≡ taken
      same = so_far.same refl

      step : (mark : Bool) → get_or marks p false ≡ mark → from register ≡ cond (not mark) (Some p) (from (register + 1))
      step mark e =
          from_here register lt
          ∙ ap (λ q. cond (is_free taken q) (Some q) (from (register + 1))) (sym at)
          ∙ ap (λ b. cond (not b) (Some p) (from (register + 1))) (ap (λ ms. get_or ms p false) (sym same) ∙ e)

      free : get_or marks p false ≡ false → free_for depth slots taken key ≡ Some p
      free e = sym (so_far.ahead refl) ∙ step false e

      by_mark : (mark : Bool) → get_or marks p false ≡ mark → Looking (register + 1) later still
      by_mark true e = record {
        long = after_long marks later p true after ∙ so_far.long;
        same = λ yes. after ∙ set_again marks p e ∙ same;
        ahead = λ yes. sym (step true e) ∙ so_far.ahead refl;
        home = λ no. absurd (false≢true (sym no ∙ is ∙ e));
        found = λ no. absurd (false≢true (sym no ∙ is ∙ e));
      }
      by_mark false e = record {
        long = after_long marks later p true after ∙ so_far.long;
        same = λ yes. absurd (false≢true (sym (is ∙ e) ∙ yes));
        ahead = λ yes. absurd (false≢true (sym (is ∙ e) ∙ yes));
        home = λ no. ap is_some (free e);
        found = λ no. after ∙ ap (λ ms. set ms p true) same ∙ sym (ap (taken_with taken) (free e));
      }
  one_looked register p marks later false still lt at so_far is after = record {
    long = after_long marks later p false after ∙ so_far.long;
    same = λ yes. absurd (false≢true (sym is ∙ yes));
    ahead = λ yes. absurd (false≢true (sym is ∙ yes));
    home = λ no. so_far.home refl;
    found = λ no. after ∙ so_far.found refl;
  }

module _ (depth slots : ℕ) where
  -- the keys before this place have their seats, and homes says which of them found one
  pub record Seated (keys : List Row) (place : ℕ) (marks homes : List Bool) : Type 0 where
    pub marked : Marked depth slots keys place marks homes
    pub long : length marks ≡ depth * slots
    pub count : length homes ≡ place

  pub one_seated : (keys : List Row) (place : ℕ) (key : Row) (marks later homes new : List Bool) (home : Bool) → 1 ≤ slots → place < length keys → key ≡ get_or keys place [] → Apart same_row keys → Seated keys place marks homes
      → home ≡ is_some (free_for depth slots marks key) → later ≡ taken_with marks (free_for depth slots marks key) → new ≡ homes ++ home ∷ [] → Seated keys (place + 1) later new
  one_seated keys place key marks later homes new home some lt at apart so_far is after pushed =
      let more : length (homes ++ home ∷ []) ≡ length homes + 1 = length-append homes (home ∷ []) in
      let count : length homes ≡ place = so_far.count in
      record {
        marked =
            one_marked depth slots keys place key marks later homes new home lt at apart so_far.marked (free_within depth slots some marks key so_far.long) is after
            (ap (take (place + 1)) pushed ∙ take_all (place + 1) (homes ++ home ∷ []) (omega (arith, more, count)) ∙ ap (λ hs. hs ++ home ∷ []) (sym (take_all place homes (omega (arith, count)))));
        long = ap length after ∙ taken_long marks (free_for depth slots marks key) ∙ so_far.long;
        count = ap length pushed ∙ more ∙ ap (λ n. n + 1) count;
      }
