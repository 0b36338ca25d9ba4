-- Tuples that stand for others.
use Rattle.std.proofs.Common.{◌≡◌, ℕ, zero, suc, ◌+◌, ◌<◌, ◌≤◌, List, [], ◌∷◌, ◌++◌, All, map, filter, length, replicate, take, get_or, slice_index, Option, None, Bool, true, false, cond, refl, ap, sym, subst, ◌∙◌, append-nil, arith}
use Rattle.std.specs.List.{AllByRecursion}
use Rattle.std.proofs.lemmas.List.{get_or-map, get_or_default, length-append, length-map, length-replicate, length-take, map-append}
use Rattle.std.proofs.lemmas.List.Elements.{filter-append, recursion_from_All}
use Rattle.std.proofs.lemmas.Option.{slice_get_read}
use Rattle.sn_base.specs.Groups.{Row, once, same_row}
use Rattle.sn_base.proofs.Lists.{all_append, all_at, map_front, map_one, take_one}
use Rattle.sn_cost_seats.specs.Seats.{row_at, rows_at}
use Rattle.sn_cost_seats.specs.Tallies.{tallied}
use Rattle.sn_cost_tally.specs.Firsts.{AreFirsts}
use Rattle.sn_cost_tally.specs.Weighed.{repeated}
use Rattle.sn_cost_tally.specs.declared.firsts.Firsts.{Firsts}
use Rattle.sn_cost_tally.proofs.Places.{firsts_are, firsts_tallied, places_long}
use Rattle.sn_cost_tally.proofs.Repeating.{map_again, repeated_map, repeated_push, tallied_bag, tallied_once, tallied_weights}
use Rattle.sn_ops.specs.declared.packets.Kept.{Kept}
use Rattle.sn_ops.specs.Packets.{is_kept, packet_rows}
use Rattle.sn_types.specs.declared.typed_op.TOp.{TOp}
use Rattle.sn_types.specs.declared.typed_query.TypedQuery.{TypedQuery}
use Rattle.sn_types.specs.Typed.{branch_of, packet_row}
use Rattle.sn_cost_counts.specs.Alike.{Alike, reads_refined}
use Rattle.sn_cost_counts.specs.Coming.{ComeWeighed, HaveCome}
use Rattle.sn_cost_counts.specs.Standing.{StandFor, stood_for}
use Rattle.sn_cost_counts.proofs.Alike.{packets_alike}
use Rattle.sn_cost_counts.proofs.Arrivals.{few_packets}
use Rattle.sn_cost_counts.proofs.Counting.{bag_long}

-- rows at places, each mapped, are those of the map
pub rows_mapped : (f : Row → Row) (xs : List Row) (places : List ℕ) → AllByRecursion (λ place. place < length xs) places → map f (rows_at xs places) ≡ rows_at (map f xs) places
rows_mapped f xs [] h = refl
rows_mapped f xs (place ∷ places) h =
    ap (λ r. r ∷ map f (rows_at xs places)) (sym (get_or-map f xs place [] [] h.0)) ∙ ap (λ rs. row_at (map f xs) place ∷ rs) (rows_mapped f xs places h.1)

-- ---- the first of tuples that are the same for a branch

module _ (query : TypedQuery) (b : ℕ) (tuples : List (List ℕ)) (keys : List Row) (f : Firsts) (few : length tuples ≤ 4194304) (first : AreFirsts (map (packet_row None 0 (branch_of query b).fields) tuples) keys f) where
  abbrev whole : List ℕ → Row
  whole = packet_row None 0 (branch_of query b).fields

  abbrev rows : List Row
  rows = map whole tuples

  few_rows : length rows ≤ 4194304
  few_rows = let long = length-map tuples whole in omega (arith, few, long)

  within_tuples : AllByRecursion (λ place. place < length tuples) f.places.items
  within_tuples = subst (λ n. AllByRecursion (λ place. place < n) f.places.items) (length-map tuples whole) first.within

  -- their rows are the distinct ones, each as often as it comes
  stood_rows : map whole (stood_for tuples f) ≡ repeated (once same_row rows) (tallied rows)
  stood_rows =
      repeated_map whole (rows_at tuples f.places.items) f.times.items
      ∙ ap (λ xs. repeated xs f.times.items) (rows_mapped whole tuples f.places.items within_tuples ∙ firsts_are rows keys f first)
      ∙ ap (repeated (once same_row rows)) (firsts_tallied rows keys f few_rows first)

  rows_alike : Alike (map whole (stood_for tuples f)) rows
  rows_alike = subst (λ xs. Alike xs rows) (sym stood_rows) (record { bag = tallied_bag rows; firsts = tallied_once rows })

  -- they stand for all
  pub firsts_stand : reads_refined query.field (branch_of query b).fields ≡ true → StandFor query b tuples f
  firsts_stand reads = record {
    long = first.long ∙ sym (places_long rows keys f.places.items first.at);
    within = within_tuples;
    each = recursion_from_All (λ n. 1 ≤ n) f.times.items (subst (All (λ n. 1 ≤ n)) (sym (firsts_tallied rows keys f few_rows first)) (tallied_weights rows));
    few = sym (length-map (stood_for tuples f) whole) ∙ bag_long (map whole (stood_for tuples f)) rows rows_alike.bag ∙ length-map tuples whole;
    alike = λ level kept. packets_alike query.field level (branch_of query b).fields kept (stood_for tuples f) tuples reads rows_alike;
  }

-- ---- what comes of packets of which each stands for others

pub none_weighed : (level : ℕ) (ops : List TOp) (seen : ℕ) (passed : List ℕ) (out : List Row) (weights : List ℕ) → out ≡ [] → weights ≡ [] → HaveCome level ops [] seen passed [] → ComeWeighed level ops [] seen passed out weights
none_weighed level ops seen passed out weights no_rows no_weights h =
    subst (λ rows. ComeWeighed level ops [] seen passed rows weights) (sym no_rows)
    (subst (ComeWeighed level ops [] seen passed []) (sym no_weights) (record { come = h; long = refl; each = tt }))

module _ (level : ℕ) (ops : List TOp) (rows more : List Row) (seen next : ℕ) (passed found : List ℕ) (out : List Row) (weights : List ℕ) (h : ComeWeighed level ops rows seen passed out weights) where
  -- where they don't pass all operators
  pub weighed_stop : HaveCome level ops more next found (repeated out weights ++ []) → ComeWeighed level ops more next found out weights
  weighed_stop come = record {
    come = subst (HaveCome level ops more next found) (append-nil (repeated out weights)) come;
    long = h.long;
    each = h.each;
  }

  -- and where they do
  pub weighed_push : (row : Row) (times : ℕ) (all : List Row) (reported : List ℕ) → 1 ≤ times → all ≡ out ++ row ∷ [] → reported ≡ weights ++ times ∷ []
      → HaveCome level ops more next found (repeated out weights ++ replicate times row) → ComeWeighed level ops more next found all reported
  weighed_push row times all reported some grown weighed come =
      let long : length (weights ++ times ∷ []) ≡ length (out ++ row ∷ []) =
      (let a = length-append weights (times ∷ []) in let b = length-append out (row ∷ []) in let same = h.long in omega (arith, a, b, same)) in
      subst (λ xs. ComeWeighed level ops more next found xs reported) (sym grown)
      (subst (ComeWeighed level ops more next found (out ++ row ∷ [])) (sym weighed)
      (record {
        come = subst (HaveCome level ops more next found) (sym (repeated_push out weights row times (sym h.long))) come;
        long = long;
        each = all_append (λ n. 1 ≤ n) weights (times ∷ []) h.each (some, tt);
      }))

-- ---- several tuples more that are the same

kept_again : (t : List ℕ → Bool) (x : List ℕ) → t x ≡ true → (n : ℕ) → filter t (replicate n x) ≡ replicate n x
kept_again t x is zero = refl
kept_again t x is (suc n) = ap (λ b. cond b (x ∷ filter t (replicate n x)) (filter t (replicate n x))) is ∙ ap (λ ys. x ∷ ys) (kept_again t x is n)

left_again : (t : List ℕ → Bool) (x : List ℕ) → t x ≡ false → (n : ℕ) → filter t (replicate n x) ≡ []
left_again t x isnt zero = refl
left_again t x isnt (suc n) = ap (λ b. cond b (x ∷ filter t (replicate n x)) (filter t (replicate n x))) isnt ∙ left_again t x isnt n

pub all_again : (P : Row → Type 0) (x : Row) → P x → (n : ℕ) → AllByRecursion P (replicate n x)
all_again P x p zero = tt
all_again P x p (suc n) = (p, all_again P x p n)

module _ (query : TypedQuery) (b level : ℕ) (kept : Option Kept) (before : List (List ℕ)) (tuple : List ℕ) (n : ℕ) where
  abbrev made : List ℕ → Row
  made = packet_row query.field level (branch_of query b).fields

  abbrev keeps : List ℕ → Bool
  keeps = is_kept query.field kept

  -- they are kept
  pub several_kept : (row : Row) → is_kept query.field kept tuple ≡ true → row ≡ packet_row query.field level (branch_of query b).fields tuple
      → packet_rows query b level kept (before ++ replicate n tuple) ≡ packet_rows query b level kept before ++ replicate n row
  several_kept row is row_is =
      ap (map made) (filter-append keeps before (replicate n tuple) ∙ ap (λ xs. filter keeps before ++ xs) (kept_again keeps tuple is n))
      ∙ map-append made (filter keeps before) (replicate n tuple)
      ∙ ap (λ rows. map made (filter keeps before) ++ rows) (map_again made n tuple ∙ ap (replicate n) (sym row_is))

  -- or they aren't
  pub several_left : is_kept query.field kept tuple ≡ false → packet_rows query b level kept (before ++ replicate n tuple) ≡ packet_rows query b level kept before
  several_left isnt = ap (map made) (filter-append keeps before (replicate n tuple) ∙ ap (λ xs. filter keeps before ++ xs) (left_again keeps tuple isnt n) ∙ append-nil (filter keeps before))

-- ---- those for which one more of the tuples stands

-- so far they aren't more than all
repeated_few : {X : Type 0} (xs : List X) (ns : List ℕ) (i : ℕ) → length ns ≡ length xs → i < length xs → length (repeated (take i xs) (take i ns)) + slice_index ns i ≤ length (repeated xs ns)
repeated_few [] ns i long lt = absurd (omega (arith, lt))
repeated_few (x ∷ xs) [] i long lt = absurd (omega (arith, long))
repeated_few (x ∷ xs) (n ∷ ns) zero long lt = let a = length-append (replicate n x) (repeated xs ns) in let c = length-replicate n x in omega (arith, a, c)
repeated_few (x ∷ xs) (n ∷ ns) (suc i) long lt =
    let a = length-append (replicate n x) (repeated xs ns) in
    let c = length-append (replicate n x) (repeated (take i xs) (take i ns)) in
    let few = repeated_few xs ns i (omega (arith, long)) (omega (arith, lt)) in
    omega (arith, a, c, few)

number_at : (ns : List ℕ) (i n : ℕ) → i < length ns → n ≡ get_or ns i n → n ≡ slice_index ns i
number_at ns i n lt at = at ∙ get_or_default ns i n 0 lt

module _ (query : TypedQuery) (b : ℕ) (tuples : List (List ℕ)) (f : Firsts) (stand : StandFor query b tuples f) (i place : ℕ) (tuple : List ℕ) (lt : i < length f.places.items) (at : place ≡ get_or f.places.items i place) (is : tuple ≡ get_or tuples place tuple) where
  -- those for which so many of them stand
  abbrev stood : ℕ → List (List ℕ)
  stood n = repeated (rows_at tuples (take n f.places.items)) (take n f.times.items)

  lt_times : i < length f.times.items
  lt_times = let long = stand.long in omega (arith, lt, long)

  tuple_at : row_at tuples place ≡ tuple
  tuple_at =
      let within = all_at (λ p. p < length tuples) f.places.items i stand.within lt in
      let same = number_at f.places.items i place lt at in
      get_or_default tuples place [] tuple (omega (arith, within, same)) ∙ sym is

  stood_next : stood (i + 1) ≡ stood i ++ replicate (slice_index f.times.items i) tuple
  stood_next =
      let places : List ℕ = f.places.items in
      let times : List ℕ = f.times.items in
      let n : ℕ = slice_index times i in
      let long : length (rows_at tuples (take i places)) ≡ length (take i times) =
      (let a = length-map (take i places) (row_at tuples) in let c = length-take i places in let d = length-take i times in let same = stand.long in omega (arith, a, c, d, same)) in
      ap (repeated (rows_at tuples (take (i + 1) places))) (take_one times i n (slice_get_read times (length times) i n refl lt_times (get_or_default times i 0 n lt_times)))
      ∙ ap (λ xs. repeated xs (take i times ++ n ∷ []))
      (map_one (row_at tuples) places i place (slice_get_read places (length places) i place refl lt at) ∙ ap (λ r. rows_at tuples (take i places) ++ r ∷ []) tuple_at)
      ∙ repeated_push (rows_at tuples (take i places)) (take i times) tuple n long

  module _ (level : ℕ) (kept : Option Kept) where
    pub next_kept : (row : Row) (n : ℕ) → is_kept query.field kept tuple ≡ true → row ≡ packet_row query.field level (branch_of query b).fields tuple → n ≡ get_or f.times.items i n
        → packet_rows query b level kept (stood i) ++ replicate n row ≡ packet_rows query b level kept (stood (i + 1))
    next_kept row n passes row_is n_is =
        ap (λ k. packet_rows query b level kept (stood i) ++ replicate k row) (number_at f.times.items i n lt_times n_is)
        ∙ sym (several_kept query b level kept (stood i) tuple (slice_index f.times.items i) row passes row_is)
        ∙ ap (packet_rows query b level kept) (sym stood_next)

    pub next_left : is_kept query.field kept tuple ≡ false → packet_rows query b level kept (stood i) ≡ packet_rows query b level kept (stood (i + 1))
    next_left refused = sym (several_left query b level kept (stood i) tuple (slice_index f.times.items i) refused) ∙ ap (packet_rows query b level kept) (sym stood_next)

    pub next_few : (n : ℕ) → n ≡ get_or f.times.items i n → length (packet_rows query b level kept (stood i)) + n ≤ length tuples
    next_few n n_is =
        let places : List ℕ = f.places.items in
        let packets = few_packets query b level kept (stood i) in
        let long = length-map places (row_at tuples) in
        let same = stand.long in
        let front = ap (λ (xs : List (List ℕ)). length (repeated xs (take i f.times.items))) (map_front (row_at tuples) i places) in
        let few = repeated_few (rows_at tuples places) f.times.items i (omega (arith, long, same)) (omega (arith, long, lt)) in
        let n_at = number_at f.times.items i n lt_times n_is in
        let all = stand.few in
        omega (arith, packets, front, few, n_at, all)
