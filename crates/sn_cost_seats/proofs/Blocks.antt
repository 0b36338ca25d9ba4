-- The slots of keys, in blocks of eight and one by one; sums over marks.
use Rattle.std.proofs.Common.{◌≡◌, ℕ, zero, suc, Bool, true, false, cond, replicate, nat_lt, ◌+◌, ◌-◌, ◌<◌, List, [], ◌∷◌, ◌++◌, map, take, drop, length, get_or, refl, ap, sym, ◌∙◌, arith, append_assoc}
use Rattle.std.proofs.Math.Seq.{take-add}
use Rattle.std.proofs.lemmas.List.{map-append, take_more}
use Rattle.sn_base.specs.Groups.{Row}
use Rattle.sn_base.specs.Slot.{slot}
use Rattle.sn_cost_seats.specs.Seats.{slot_where, slots_for}
use Rattle.sn_cost_seats.specs.Tallies.{sum_unmarked}

-- ---- slots in registers that a chain hasn't

pub none_there : (depth slots register : ℕ) (n : ℕ) (block : List Row) → length block ≡ n → nat_lt register depth ≡ false → replicate n 0 ≡ map (slot_where depth slots register) block
none_there depth slots register zero [] long isnt = refl
none_there depth slots register (suc n) [] long isnt = absurd (omega (arith, long))
none_there depth slots register zero (key ∷ keys) long isnt = absurd (omega (arith, long))
none_there depth slots register (suc n) (key ∷ keys) long isnt =
    ap (λ b. cond b (slot register key slots) 0 ∷ replicate n 0) (sym isnt) ∙ ap (λ xs. slot_where depth slots register key ∷ xs) (none_there depth slots register n keys (omega (arith, long)) isnt)

pub all_there : (depth slots register : ℕ) (block : List Row) → nat_lt register depth ≡ true → map (λ key. slot register key slots) block ≡ map (slot_where depth slots register) block
all_there depth slots register [] is = refl
all_there depth slots register (key ∷ keys) is =
    ap (λ b. cond b (slot register key slots) 0 ∷ map (λ k. slot register k slots) keys) (sym is) ∙ ap (λ xs. slot_where depth slots register key ∷ xs) (all_there depth slots register keys is)

-- the number of a lane
pub lane_of : (f : Row → ℕ) (block : List Row) (lane d : ℕ) → lane < length block → get_or (map f block) lane d ≡ f (get_or block lane [])
lane_of f [] lane d lt = absurd (omega (arith, lt))
lane_of f (key ∷ keys) zero d lt = refl
lane_of f (key ∷ keys) (suc lane) d lt = lane_of f keys lane d (omega (arith, lt))

-- ---- sums

pub sum_drop : (marks : List Bool) (ns : List ℕ) (i : ℕ) → i < length marks → length marks ≡ length ns → sum_unmarked (drop i marks) (drop i ns) ≡ cond (get_or marks i false) 0 (get_or ns i 0) + sum_unmarked (drop (i + 1) marks) (drop (i + 1) ns)
sum_drop marks ns i lt long = let e : i + 1 ≡ suc i = omega arith in next marks ns i lt long ∙ ap (λ n. cond (get_or marks i false) 0 (get_or ns i 0) + sum_unmarked (drop n marks) (drop n ns)) (sym e)
  where
    next : (marks : List Bool) (ns : List ℕ) (i : ℕ) → i < length marks → length marks ≡ length ns → sum_unmarked (drop i marks) (drop i ns) ≡ cond (get_or marks i false) 0 (get_or ns i 0) + sum_unmarked (drop (suc i) marks) (drop (suc i) ns)
    next [] ns i lt long = absurd (omega (arith, lt))
    next (m ∷ ms) [] i lt long = absurd (omega (arith, long))
    next (m ∷ ms) (n ∷ ns) zero lt long = refl
    next (m ∷ ms) (n ∷ ns) (suc i) lt long = next ms ns i (omega (arith, lt)) (omega (arith, long))

-- ---- steps of the loops

next_key : (keys : List Row) (i : ℕ) → i < length keys → take (i + 1) keys ≡ take i keys ++ get_or keys i [] ∷ []
next_key keys i lt = take_more keys i [] lt

-- one lane more of a block
pub lane_more : (depth slots : ℕ) (block : List Row) (lane : ℕ) (old out new : List (List ℕ)) (first second third fourth : List ℕ) → lane < length block
    → first ≡ map (slot_where depth slots 0) block → second ≡ map (slot_where depth slots 1) block → third ≡ map (slot_where depth slots 2) block → fourth ≡ map (slot_where depth slots 3) block
    → out ≡ old ++ map (slots_for depth slots) (take lane block)
    → new ≡ out ++ (get_or first lane 0 ∷ get_or second lane 0 ∷ get_or third lane 0 ∷ get_or fourth lane 0 ∷ []) ∷ []
    → new ≡ old ++ map (slots_for depth slots) (take (lane + 1) block)
lane_more depth slots block lane old out new first second third fourth lt a b c d so_far pushed =
    let key : Row = get_or block lane [] in
    let is : (register : ℕ) (xs : List ℕ) → xs ≡ map (slot_where depth slots register) block → get_or xs lane 0 ≡ slot_where depth slots register key =
    λ register xs e. ap (λ ys. get_or ys lane 0) e ∙ lane_of (slot_where depth slots register) block lane 0 lt in
    pushed
    ∙ ap (λ xs. xs ++ (get_or first lane 0 ∷ get_or second lane 0 ∷ get_or third lane 0 ∷ get_or fourth lane 0 ∷ []) ∷ []) so_far
    ∙ ap (λ n. (old ++ map (slots_for depth slots) (take lane block)) ++ (n ∷ get_or second lane 0 ∷ get_or third lane 0 ∷ get_or fourth lane 0 ∷ []) ∷ []) (is 0 first a)
    ∙ ap (λ n. (old ++ map (slots_for depth slots) (take lane block)) ++ (slot_where depth slots 0 key ∷ n ∷ get_or third lane 0 ∷ get_or fourth lane 0 ∷ []) ∷ []) (is 1 second b)
    ∙ ap (λ n. (old ++ map (slots_for depth slots) (take lane block)) ++ (slot_where depth slots 0 key ∷ slot_where depth slots 1 key ∷ n ∷ get_or fourth lane 0 ∷ []) ∷ []) (is 2 third c)
    ∙ ap (λ n. (old ++ map (slots_for depth slots) (take lane block)) ++ (slot_where depth slots 0 key ∷ slot_where depth slots 1 key ∷ slot_where depth slots 2 key ∷ n ∷ []) ∷ []) (is 3 fourth d)
    ∙ append_assoc old (map (slots_for depth slots) (take lane block)) (slots_for depth slots key ∷ [])
    ∙ ap (λ xs. old ++ xs) (sym (ap (map (slots_for depth slots)) (next_key block lane lt) ∙ map-append (slots_for depth slots) (take lane block) (key ∷ [])))

module _ {X : Type 0} (columns : X → Row) (depth slots : ℕ) where
  -- the slots of keys
  abbrev pub slots_in : List X → List (List ℕ)
  slots_in keys = map (slots_for depth slots) (map columns keys)

  slots_append : (xs ys : List X) → slots_in (xs ++ ys) ≡ slots_in xs ++ slots_in ys
  slots_append xs ys = ap (map (slots_for depth slots)) (map-append columns xs ys) ∙ map-append (slots_for depth slots) (map columns xs) (map columns ys)

  -- one block more
  pub block_more : (keys : List X) (at : ℕ) (out new : List (List ℕ)) → out ≡ slots_in (take at keys) → new ≡ out ++ slots_in (take (at + 8 - at) (drop at keys)) → new ≡ slots_in (take (at + 8) keys)
  block_more keys at out new so_far grown =
      let eight : at + 8 - at ≡ 8 = omega arith in
      grown ∙ ap (λ xs. xs ++ slots_in (take (at + 8 - at) (drop at keys))) so_far
      ∙ ap (λ n. slots_in (take at keys) ++ slots_in (take n (drop at keys))) eight
      ∙ sym (slots_append (take at keys) (take 8 (drop at keys)))
      ∙ ap slots_in (sym (take-add at 8 keys))

  -- one key more
  pub key_more : (keys : List X) (place : ℕ) (key : X) (out new : List (List ℕ)) → place < length keys → key ≡ get_or keys place key → out ≡ slots_in (take place keys) → new ≡ out ++ slots_for depth slots (columns key) ∷ []
      → new ≡ slots_in (take (place + 1) keys)
  key_more keys place key out new lt at so_far grown =
      grown ∙ ap (λ xs. xs ++ slots_in (key ∷ [])) so_far
      ∙ sym (ap slots_in (take_more keys place key lt ∙ ap (λ k. take place keys ++ k ∷ []) (sym at)) ∙ slots_append (take place keys) (key ∷ []))
