-- The items in their order are the same bag as those of the one recursion.
use Rattle.std.proofs.Common.{◌≡◌, ℕ, zero, suc, ◌+◌, ◌<◌, ◌≤◌, List, [], ◌∷◌, ◌++◌, map, filter, take, length, Bool, true, false, not, ◌||◌, cond, nat_eq, refl, ap, sym, ◌∙◌, append_assoc, append-nil, arith}
use Rattle.std.specs.List.{flat_map, range_with_len, AllByRecursion}
use Rattle.std.proofs.lemmas.Bool.{false≢true}
use Rattle.std.proofs.lemmas.List.{map-append}
use Rattle.sn_base.specs.Bags.{SameBag}
use Rattle.sn_base.specs.Bags.SameBag.{following}
use Rattle.sn_base.specs.Groups.{Row, once, same_row}
use Rattle.sn_base.specs.Operators.{Op, key_of, through}
use Rattle.sn_base.specs.Operators.Op.{Filter, Map, Distinct, Reduce}
use Rattle.sn_report.specs.Items.{Item}
use Rattle.sn_report.specs.declared.frame.Tag.{Tag}
use Rattle.sn_report.specs.declared.frame.Tag.TheVariants.{At, Partial}
use Rattle.sn_base.proofs.Lists.{by_test, nat_same, nat_self, filter_map, all_filter, all_append}
use Rattle.sn_base.proofs.BagLemmas.{bag_same, bag_then, bag_back, bag_before, bag_after, bag_middle}
use Rattle.sn_base.proofs.OnceLemmas.{all_once}
use Rattle.sn_pipe_items.specs.Items.{numbered, rows_of, standing, tagged, at_packet, by_packet, some_in, overflow, firsts, held, sent_from, read_from, sent, read_out, items}
use Rattle.sn_pipe_items.proofs.Bagged.{some_row, resides, over_distinct, over_reduce, items_from, bagged}
use Rattle.sn_pipe_items.proofs.Cuts.{OnlyFilters, IsCut, cut_later}
use Rattle.sn_base.proofs.Tests.{nat_apart as at_other}

-- ---- packet by packet

abbrev Stands : Type 0
Stands = List (ℕ × Item)

-- one that stands before the packets that are walked over
walk_after : (x : ℕ × Item) (xs : Stands) (a n : ℕ) → x.0 < a → flat_map (at_packet (x ∷ xs)) (range_with_len a n) ≡ flat_map (at_packet xs) (range_with_len a n)
walk_after x xs a zero low = refl
walk_after x xs a (suc n) low =
    ap (λ b. map (λ (y : ℕ × Item). y.1) (cond b (x ∷ filter (λ y. nat_eq a y.0) xs) (filter (λ y. nat_eq a y.0) xs)) ++ flat_map (at_packet (x ∷ xs)) (range_with_len (a + 1) n)) (at_other a x.0 (λ e. omega arith))
    ∙ ap (λ ys. at_packet xs a ++ ys) (walk_after x xs (a + 1) n (omega arith))

-- one more among them
walk_more : (x : ℕ × Item) (xs : Stands) (a n : ℕ) → a ≤ x.0 → x.0 < a + n → SameBag (flat_map (at_packet (x ∷ xs)) (range_with_len a n)) (x.1 ∷ flat_map (at_packet xs) (range_with_len a n))
walk_more x xs a zero low high = absurd (omega arith)
walk_more x xs a (suc n) low high =
    let rest = flat_map (at_packet (x ∷ xs)) (range_with_len (a + 1) n) in
    let front : Bool → List Item = λ b. map (λ (y : ℕ × Item). y.1) (cond b (x ∷ filter (λ y. nat_eq a y.0) xs) (filter (λ y. nat_eq a y.0) xs)) in
    by_test (nat_eq a x.0)
    (λ is. let same : a ≡ x.0 = nat_same a x.0 is in
    bag_same (ap (λ b. front b ++ rest) is ∙ ap (λ ys. x.1 ∷ (at_packet xs a ++ ys)) (walk_after x xs (a + 1) n (omega arith))))
    (λ isnt. let above : a < x.0 = past isnt in
    bag_then (bag_same (ap (λ b. front b ++ rest) isnt))
    (bag_then (bag_before (at_packet xs a) rest (x.1 ∷ flat_map (at_packet xs) (range_with_len (a + 1) n)) (walk_more x xs (a + 1) n (omega arith) (omega arith)))
    (bag_middle (at_packet xs a) x.1 (flat_map (at_packet xs) (range_with_len (a + 1) n)))))
  where
    past : nat_eq a x.0 ≡ false → a < x.0
    past isnt = let other : (a ≡ x.0 → ⊥) = λ e. false≢true (sym isnt ∙ ap (nat_eq a) (sym e) ∙ nat_self a) in omega arith

walk_none : (a n : ℕ) → flat_map (at_packet []) (range_with_len a n) ≡ []
walk_none a zero = refl
walk_none a (suc n) = walk_none (a + 1) n

abbrev Below : ℕ → Stands → Type 0
Below count xs = AllByRecursion (λ (x : ℕ × Item). x.0 < count) xs

packet_bag : (count : ℕ) (xs : Stands) → Below count xs → SameBag (map (λ x. x.1) xs) (by_packet count xs)
packet_bag count [] h = bag_same (sym (walk_none 0 count))
packet_bag count (x ∷ xs) h =
    let low : x.0 < count = h.0 in
    bag_then (following x.1 (map (λ (y : ℕ × Item). y.1) xs) (by_packet count xs) (packet_bag count xs h.1))
    (bag_back (by_packet count (x ∷ xs)) (x.1 ∷ by_packet count xs) (walk_more x xs 0 count (omega arith) (omega arith)))

-- ---- the numbers of a window's packets

abbrev RowsBelow : ℕ → List (ℕ × Row) → Type 0
RowsBelow count flow = AllByRecursion (λ (x : ℕ × Row). x.0 < count) flow

numbered_below : (n count : ℕ) (rows : List Row) → n + length rows ≤ count → RowsBelow count (numbered n rows)
numbered_below n count [] le = tt
numbered_below n count (row ∷ rows) le = (omega arith, numbered_below (suc n) count rows (omega arith))

standing_below : (count : ℕ) (tag : Tag) (xs : List (ℕ × Row)) → RowsBelow count xs → Below count (standing tag xs)
standing_below count tag [] h = tt
standing_below count tag (x ∷ xs) h = (h.0, standing_below count tag xs h.1)

mapped_below : (count : ℕ) (f : Row → Row) (xs : List (ℕ × Row)) → RowsBelow count xs → RowsBelow count (map (λ x. (x.0, f x.1)) xs)
mapped_below count f [] h = tt
mapped_below count f (x ∷ xs) h = (h.0, mapped_below count f xs h.1)

-- ---- rows without their numbers

abbrev bare : Stands → List Item
bare xs = map (λ (x : ℕ × Item). x.1) xs

pub rows_numbered : (n : ℕ) (rows : List Row) → rows_of (numbered n rows) ≡ rows
rows_numbered n [] = refl
rows_numbered n (row ∷ rows) = ap (λ rs. row ∷ rs) (rows_numbered (suc n) rows)

abbrev with_tag : Tag → Row → Item
with_tag tag row = record { tag = tag; row = row }

bare_standing : (tag : Tag) (xs : List (ℕ × Row)) → bare (standing tag xs) ≡ tagged tag (rows_of xs)
bare_standing tag [] = refl
bare_standing tag (x ∷ xs) = ap (λ ys. with_tag tag x.1 ∷ ys) (bare_standing tag xs)

rows_filter : (t : Row → Bool) (xs : List (ℕ × Row)) → rows_of (filter (λ x. t x.1) xs) ≡ filter t (rows_of xs)
rows_filter t xs = filter_map (λ (x : ℕ × Row). x.1) t xs

rows_map : (f : Row → Row) (xs : List (ℕ × Row)) → rows_of (map (λ x. (x.0, f x.1)) xs) ≡ map f (rows_of xs)
rows_map f [] = refl
rows_map f (x ∷ xs) = ap (λ ys. f x.1 ∷ ys) (rows_map f xs)

rows_once : (xs : List (ℕ × Row)) → rows_of (once (λ x y. same_row x.1 y.1) xs) ≡ once same_row (rows_of xs)
rows_once [] = refl
rows_once (x ∷ xs) =
    ap (λ ys. x.1 ∷ ys) (rows_filter (λ row. not (same_row x.1 row)) (once (λ a b. same_row a.1 b.1) xs) ∙ ap (filter (λ row. not (same_row x.1 row))) (rows_once xs))

map_self : (rows : List Row) → map (λ (row : Row). row) rows ≡ rows
map_self [] = refl
map_self (row ∷ rows) = ap (λ rs. row ∷ rs) (map_self rows)

some_rows : (xs : List (ℕ × Row)) → some_in xs ≡ some_row (rows_of xs)
some_rows [] = refl
some_rows (x ∷ xs) = refl

module _ (depth : ℕ) (size : ℕ → ℕ) where
  -- ---- after a reduce

  filters_flow : (i : ℕ) (ops : List Op) → OnlyFilters ops → (rows : List Row) → items_from depth size i false ops rows ≡ tagged (At (i + length ops)) (through ops rows)
  filters_flow i [] only rows = ap (λ (n : ℕ). tagged (At n) rows) same
    where
      same : i ≡ i + 0
      same = omega arith
  filters_flow i (Filter t ∷ ops) only rows = filters_flow (suc i) ops only (filter t rows) ∙ ap (λ (n : ℕ). tagged (At n) (through ops (filter t rows))) same
    where
      same : suc i + length ops ≡ i + suc (length ops)
      same = omega arith
  filters_flow i (Map f ∷ ops) only rows = absurd only
  filters_flow i (Distinct ∷ ops) only rows = absurd only
  filters_flow i (Reduce g ∷ ops) only rows = absurd only

  -- ---- the two parts of the items

  over_rows : (i : ℕ) (flow : List (ℕ × Row)) → rows_of (overflow depth size i (λ row. row) flow) ≡ over_distinct depth size i (rows_of flow)
  over_rows i flow =
      rows_filter (λ row. not (resides depth size i (map (λ (r : Row). r) (rows_of flow)) row)) flow
      ∙ ap (λ keys. filter (λ row. not (resides depth size i keys row)) (rows_of flow)) (map_self (rows_of flow))

  first_rows : (i : ℕ) (flow : List (ℕ × Row)) → rows_of (firsts depth size i flow) ≡ once same_row (filter (resides depth size i (rows_of flow)) (rows_of flow))
  first_rows i flow =
      rows_once (filter (λ x. resides depth size i (rows_of flow) x.1) flow) ∙ ap (once same_row) (rows_filter (resides depth size i (rows_of flow)) flow)

  two_parts : (i : ℕ) (sp : Bool) (ops : List Op) → IsCut ops → (flow : List (ℕ × Row)) → items_from depth size i sp ops (rows_of flow) ≡ bare (sent_from depth size i ops flow) ++ read_from depth size i sp ops flow
  two_parts i sp [] c flow = sym (append-nil (bare (standing (At i) flow)) ∙ bare_standing (At i) flow)
  two_parts i sp (Filter t ∷ ops) c flow = ap (items_from depth size (suc i) sp ops) (sym (rows_filter t flow)) ∙ two_parts (suc i) sp ops c (filter (λ x. t x.1) flow)
  two_parts i sp (Map f ∷ ops) c flow = ap (items_from depth size (suc i) sp ops) (sym (rows_map f flow)) ∙ two_parts (suc i) sp ops c (map (λ x. (x.0, f x.1)) flow)
  two_parts i sp (Distinct ∷ ops) c flow =
      let rows = rows_of flow in
      let out = overflow depth size i (λ row. row) flow in
      let stay = firsts depth size i flow in
      let over = over_distinct depth size i rows in
      let b = sp || some_in out in
      ap (λ s. tagged (At i) over ++ items_from depth size (suc i) (sp || s) ops (once same_row (filter (resides depth size i rows) rows))) (sym (some_rows out ∙ ap some_row (over_rows i flow)))
      ∙ ap (λ rs. tagged (At i) over ++ items_from depth size (suc i) b ops rs) (sym (first_rows i flow))
      ∙ ap (λ xs. tagged (At i) over ++ xs) (two_parts (suc i) b ops (cut_later ops c) stay)
      ∙ sym (append_assoc (tagged (At i) over) (bare (sent_from depth size (suc i) ops stay)) (read_from depth size (suc i) b ops stay))
      ∙ ap (λ xs. (xs ++ bare (sent_from depth size (suc i) ops stay)) ++ read_from depth size (suc i) b ops stay) (sym (bare_standing (At i) out ∙ ap (tagged (At i)) (over_rows i flow)))
      ∙ ap (λ xs. xs ++ read_from depth size (suc i) b ops stay) (sym (map-append (λ (x : ℕ × Item). x.1) (standing (At i) out) (sent_from depth size (suc i) ops stay)))
  two_parts i sp (Reduce g ∷ ops) c flow =
      let rows = rows_of flow in
      let out = overflow depth size i (key_of g) flow in
      let over : rows_of out ≡ over_reduce depth size i g rows = rows_filter (λ row. not (resides depth size i (map (key_of g) rows) (key_of g row))) flow in
      let kept = held depth size i g rows in
      ap (λ xs. xs ++ cond sp (tagged (Partial i) kept) (items_from depth size (suc i) sp ops kept)) (sym (bare_standing (At i) out ∙ ap (tagged (At i)) over))
      ∙ ap (λ xs. bare (standing (At i) out) ++ xs)
      (elim sp as (λ b. cond b (tagged (Partial i) kept) (items_from depth size (suc i) b ops kept) ≡ cond b (tagged (Partial i) kept) (tagged (At (suc i + length ops)) (through ops kept))) [
        | true ↦ refl
        | false ↦ filters_flow (suc i) ops c kept
      ])

  sent_below : (count i : ℕ) (ops : List Op) (flow : List (ℕ × Row)) → RowsBelow count flow → Below count (sent_from depth size i ops flow)
  sent_below count i [] flow h = standing_below count (At i) flow h
  sent_below count i (Filter t ∷ ops) flow h = sent_below count (suc i) ops (filter (λ x. t x.1) flow) (all_filter (λ (x : ℕ × Row). x.0 < count) (λ x. t x.1) flow h)
  sent_below count i (Map f ∷ ops) flow h = sent_below count (suc i) ops (map (λ x. (x.0, f x.1)) flow) (mapped_below count f flow h)
  sent_below count i (Distinct ∷ ops) flow h =
      let P : ℕ × Row → Type 0 = λ x. x.0 < count in
      let stays : ℕ × Row → Bool = λ x. resides depth size i (rows_of flow) x.1 in
      let out = overflow depth size i (λ row. row) flow in
      all_append (λ (x : ℕ × Item). x.0 < count) (standing (At i) out) (sent_from depth size (suc i) ops (firsts depth size i flow))
      (standing_below count (At i) out (all_filter P (λ x. not (resides depth size i (map (λ (r : Row). r) (rows_of flow)) x.1)) flow h))
      (sent_below count (suc i) ops (firsts depth size i flow) (all_once (λ x y. same_row x.1 y.1) P (filter stays flow) (all_filter P stays flow h)))
  sent_below count i (Reduce g ∷ ops) flow h =
      standing_below count (At i) (overflow depth size i (key_of g) flow) (all_filter (λ (x : ℕ × Row). x.0 < count) (λ x. not (resides depth size i (map (key_of g) (rows_of flow)) (key_of g x.1))) flow h)

  pub items_bag : (cut : ℕ) (ops : List Op) (rows : List Row) → IsCut (take cut ops) → SameBag (bagged depth size cut ops rows) (items depth size cut ops rows)
  items_bag cut ops rows c =
      let front = take cut ops in
      let out = sent depth size cut ops rows in
      bag_then
      (bag_same (ap (items_from depth size 0 false front) (sym (rows_numbered 0 rows)) ∙ two_parts 0 false front c (numbered 0 rows)))
      (bag_after (read_out depth size cut ops rows) (bare out) (by_packet (length rows) out) (packet_bag (length rows) out (sent_below (length rows) 0 front (numbered 0 rows) (numbered_below 0 (length rows) rows (omega arith)))))
