-- How many items a window can give.
use Rattle.std.proofs.Common.{◌≡◌, ℕ, zero, suc, ◌+◌, ◌*◌, ◌≤◌, List, [], ◌∷◌, map, filter, length, take, fold, Bool, true, false, not, cond, ◌||◌, nat_eq, nat_le, Option, None, Some, refl, ap, ◌∙◌, arith, length-append}
use Rattle.std.specs.List.{flat_map, range_with_len}
use Rattle.std.proofs.lemmas.List.{length-map}
use Rattle.std.proofs.lemmas.Bool.Decides.{nat_tests}
use Rattle.sn_base.specs.Groups.{Row, once, same_row}
use Rattle.sn_base.specs.Operators.{Grouping, Op, apply, key_of, pair_of, row_for, through}
use Rattle.sn_base.specs.Operators.Op.{Filter, Map, Distinct, Reduce}
use Rattle.sn_chain.specs.Chain.{has_home, homes_of, places_of}
use Rattle.sn_chain.specs.Homes.{by_place, homes_by_place, put_by_place}
use Rattle.sn_chain.specs.Residence.{free_place, seated, seated_at}
use Rattle.sn_pipe_items.specs.Items.{at_packet, by_packet, firsts, held, items, numbered, overflow, read_from, read_out, rows_of, sent, sent_from, some_in, standing, tagged}
use Rattle.sn_report.specs.Items.{Item}
use Rattle.sn_report.specs.declared.frame.Tag.{Tag}
use Rattle.sn_report.specs.declared.frame.Tag.TheVariants.{At, Partial}
use Rattle.sn_base.proofs.Lists.{filter_short}
use Rattle.sn_windows.specs.Blocks.{most_records}

-- the most rows of a window
abbrev pub most : ℕ
most = most_records

-- ---- lists that don't grow

pub once_fewer : {K : Type 0} (same : K → K → Bool) (ks : List K) → length (once same ks) ≤ length ks
once_fewer same [] = omega arith
once_fewer same (k ∷ ks) = let rest = once_fewer same ks in let less = filter_short (λ x. not (same k x)) (once same ks) in omega (arith, rest, less)

put_long : {K : Type 0} (h : ℕ × K) (hs : List (ℕ × K)) → length (put_by_place h hs) ≡ suc (length hs)
put_long h [] = refl
put_long h (g ∷ gs) =
    let rest = put_long h gs in
    (elim (nat_le h.0 g.0) as (λ b. length (cond b (h ∷ g ∷ gs) (g ∷ put_by_place h gs)) ≡ suc (suc (length gs))) [ true ↦ refl | false ↦ ap suc rest ])

placed_long : {K : Type 0} (hs : List (ℕ × K)) → length (by_place hs) ≡ length hs
placed_long [] = refl
placed_long (h ∷ hs) = put_long h (by_place hs) ∙ ap suc (placed_long hs)

module _ {K : Type 0} (same : K → K → Bool) (places : K → List ℕ) where
  seated_few : (taken : List (ℕ × K)) (k : K) (o : Option ℕ) → length (seated_at same places taken k o) ≤ suc (length taken)
  seated_few taken k None = omega arith
  seated_few taken k (Some p) = omega arith

  all_seated_few : (ks : List K) (taken : List (ℕ × K)) → length (fold (seated same places) taken ks) ≤ length taken + length ks
  all_seated_few [] taken = omega arith
  all_seated_few (k ∷ ks) taken =
      let one = seated_few taken k (free_place same places taken k) in
      let rest = all_seated_few ks (seated same places taken k) in
      omega (arith, one, rest)

held_few : (depth : ℕ) (size : ℕ → ℕ) (i : ℕ) (g : Grouping) (rows : List Row) → length (held depth size i g rows) ≤ length rows
held_few depth size i g rows =
    let keys : List Row = map (key_of g) rows in
    let homes = homes_of depth (size i) keys in
    let a = length-map (homes_by_place depth (size i) keys) (row_for g (map (pair_of g) rows)) in
    let b = length-map (by_place homes) (λ (h : ℕ × Row). h.1) in
    let c = placed_long homes in
    let d = all_seated_few same_row (places_of depth (size i)) (once same_row keys) [] in
    let e = once_fewer same_row keys in
    let f = length-map rows (key_of g) in
    omega (arith, a, b, c, d, e, f)

apply_few : (op : Op) (rows : List Row) → length (apply op rows) ≤ length rows
apply_few (Filter t) rows = filter_short t rows
apply_few (Map f) rows = let e = length-map rows f in omega arith
apply_few Distinct rows = once_fewer same_row rows
apply_few (Reduce g) rows =
    let pairs = map (pair_of g) rows in
    let a = length-map (once same_row (map (λ (p : Row × ℕ). p.0) pairs)) (row_for g pairs) in
    let b = once_fewer same_row (map (λ (p : Row × ℕ). p.0) pairs) in
    let c = length-map pairs (λ (p : Row × ℕ). p.0) in
    let d = length-map rows (pair_of g) in
    omega (arith, a, b, c, d)

through_few : (ops : List Op) (rows : List Row) → length (through ops rows) ≤ length rows
through_few [] rows = omega arith
through_few (op ∷ ops) rows = let a = apply_few op rows in let b = through_few ops (apply op rows) in omega (arith, a, b)

-- ---- what stands at packets

standing_long : (tag : Tag) (xs : List (ℕ × Row)) → length (standing tag xs) ≡ length xs
standing_long tag [] = refl
standing_long tag (x ∷ xs) = ap suc (standing_long tag xs)

tagged_long : (tag : Tag) (rows : List Row) → length (tagged tag rows) ≡ length rows
tagged_long tag [] = refl
tagged_long tag (row ∷ rows) = ap suc (tagged_long tag rows)

numbered_long : (n : ℕ) (rows : List Row) → length (numbered n rows) ≡ length rows
numbered_long n [] = refl
numbered_long n (row ∷ rows) = ap suc (numbered_long (suc n) rows)

abbrev from : ℕ → List (ℕ × Item) → List (ℕ × Item)
from a stand = filter (λ x. nat_le a x.0) stand

-- what stands at one packet, and at those after it
packet_parts : (a : ℕ) (stand : List (ℕ × Item)) → length (at_packet stand a) + length (from (a + 1) stand) ≤ length (from a stand)
packet_parts a [] = omega arith
packet_parts a (x ∷ xs) = split (nat_eq a x.0) (nat_le (a + 1) x.0) (nat_le a x.0) refl refl refl (packet_parts a xs)
  where
    split : (e l m : Bool) → nat_eq a x.0 ≡ e → nat_le (a + 1) x.0 ≡ l → nat_le a x.0 ≡ m → length (at_packet xs a) + length (from (a + 1) xs) ≤ length (from a xs)
        → length (map (λ (y : ℕ × Item). y.1) (cond e (x ∷ filter (λ y. nat_eq a y.0) xs) (filter (λ y. nat_eq a y.0) xs))) + length (cond l (x ∷ from (a + 1) xs) (from (a + 1) xs)) ≤ length (cond m (x ∷ from a xs) (from a xs))
    split true true m is less may rest = absurd (both is less)
      where
        both : nat_eq a x.0 ≡ true → nat_le (a + 1) x.0 ≡ true → ⊥
        both is less = grind (arith, nat_tests)
    split true false true is less may rest = omega arith
    split true false false is less may rest = absurd (never is may)
      where
        never : nat_eq a x.0 ≡ true → nat_le a x.0 ≡ false → ⊥
        never is may = grind (arith, nat_tests)
    split false true true is less may rest = omega arith
    split false true false is less may rest = absurd (never less may)
      where
        never : nat_le (a + 1) x.0 ≡ true → nat_le a x.0 ≡ false → ⊥
        never less may = grind (arith, nat_tests)
    split false false true is less may rest = omega arith
    split false false false is less may rest = rest

packets_few : (stand : List (ℕ × Item)) (a n : ℕ) → length (flat_map (at_packet stand) (range_with_len a n)) ≤ length (from a stand)
packets_few stand a zero = omega arith
packets_few stand a (suc n) =
    let one = length-append (at_packet stand a) (flat_map (at_packet stand) (range_with_len (a + 1) n)) in
    let rest = packets_few stand (a + 1) n in
    let parts = packet_parts a stand in
    omega (arith, one, rest, parts)

-- ---- items

module _ (depth : ℕ) (size : ℕ → ℕ) where
  over_few : (i : ℕ) (key : Row → Row) (flow : List (ℕ × Row)) → length (overflow depth size i key flow) ≤ length flow
  over_few i key flow = filter_short _ flow

  firsts_few : (i : ℕ) (flow : List (ℕ × Row)) → length (firsts depth size i flow) ≤ length flow
  firsts_few i flow =
      let home : ℕ × Row → Bool = λ x. has_home depth (size i) (rows_of flow) x.1 in
      let a = once_fewer (λ (x y : ℕ × Row). same_row x.1 y.1) (filter home flow) in
      let b = filter_short home flow in
      omega (arith, a, b)

  sent_few : (ops : List Op) (i : ℕ) (flow : List (ℕ × Row)) → length flow ≤ most → length (sent_from depth size i ops flow) ≤ suc (length ops) * most
  sent_few [] i flow few = let e = standing_long (At i) flow in omega (arith, e, few)
  sent_few (Filter t ∷ ops) i flow few =
      let less = filter_short (λ (x : ℕ × Row). t x.1) flow in
      let rest = sent_few ops (suc i) (filter (λ x. t x.1) flow) (omega (arith, less, few)) in
      omega (arith, rest)
  sent_few (Map f ∷ ops) i flow few =
      let onto : ℕ × Row → ℕ × Row = λ x. (x.0, f x.1) in
      let same = length-map flow onto in
      let rest = sent_few ops (suc i) (map onto flow) (omega (arith, same, few)) in
      omega (arith, rest)
  sent_few (Distinct ∷ ops) i flow few =
      let over = overflow depth size i (λ row. row) flow in
      let first = firsts depth size i flow in
      let a = length-append (standing (At i) over) (sent_from depth size (suc i) ops first) in
      let b = standing_long (At i) over in
      let c = over_few i (λ row. row) flow in
      let d = firsts_few i flow in
      let rest = sent_few ops (suc i) first (omega (arith, d, few)) in
      omega (arith, a, b, c, rest, few)
  sent_few (Reduce g ∷ ops) i flow few =
      let over = overflow depth size i (key_of g) flow in
      let b = standing_long (At i) over in
      let c = over_few i (key_of g) flow in
      omega (arith, b, c, few)

  read_few : (ops : List Op) (i : ℕ) (spilled : Bool) (flow : List (ℕ × Row)) → length (read_from depth size i spilled ops flow) ≤ length flow
  read_few [] i spilled flow = omega arith
  read_few (Filter t ∷ ops) i spilled flow =
      let less = filter_short (λ (x : ℕ × Row). t x.1) flow in
      let rest = read_few ops (suc i) spilled (filter (λ x. t x.1) flow) in
      omega (arith, less, rest)
  read_few (Map f ∷ ops) i spilled flow =
      let onto : ℕ × Row → ℕ × Row = λ x. (x.0, f x.1) in
      let same = length-map flow onto in
      let rest = read_few ops (suc i) spilled (map onto flow) in
      omega (arith, same, rest)
  read_few (Distinct ∷ ops) i spilled flow =
      let first = firsts depth size i flow in
      let less = firsts_few i flow in
      let rest = read_few ops (suc i) (spilled || some_in (overflow depth size i (λ row. row) flow)) first in
      omega (arith, less, rest)
  read_few (Reduce g ∷ ops) i spilled flow =
      let rows : List Row = held depth size i g (rows_of flow) in
      let less = held_few depth size i g (rows_of flow) in
      let same = length-map flow (λ (x : ℕ × Row). x.1) in
      let through_less = through_few ops rows in
      let part = tagged_long (Partial i) rows in
      let whole = tagged_long (At (suc i + length ops)) (through ops rows) in
      (elim spilled as (λ b. length (cond b (tagged (Partial i) rows) (tagged (At (suc i + length ops)) (through ops rows))) ≤ length flow) [
        | true ↦ omega (arith, part, less, same)
        | false ↦ omega (arith, whole, through_less, less, same)
      ])

  -- of a window's rows there come at most this many items
  pub items_few : (cut : ℕ) (ops : List Op) (rows : List Row) → length rows ≤ most → length (items depth size cut ops rows) ≤ (length ops + 2) * most
  items_few cut ops rows few =
      let front : List Op = take cut ops in
      let flow : List (ℕ × Row) = numbered 0 rows in
      let long = numbered_long 0 rows in
      let a = length-append (by_packet (length rows) (sent depth size cut ops rows)) (read_out depth size cut ops rows) in
      let b = packets_few (sent depth size cut ops rows) 0 (length rows) in
      let c = filter_short (λ (x : ℕ × Item). nat_le 0 x.0) (sent depth size cut ops rows) in
      let d = sent_few front 0 flow (omega (arith, long, few)) in
      let e = read_few front 0 false flow in
      let f = front_few cut ops in
      omega (arith, a, b, c, d, e, f, long, few)
    where
      front_few : (n : ℕ) (os : List Op) → length (take n os) ≤ length os
      front_few zero os = omega arith
      front_few (suc n) [] = omega arith
      front_few (suc n) (o ∷ os) = let rest = front_few n os in omega (arith, rest)
