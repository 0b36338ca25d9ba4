-- The engine's value of the items of several switches.
use Rattle.std.proofs.Common.{◌≡◌, ℕ, suc, ◌≤◌, List, [], ◌∷◌, ◌++◌, map, filter, take, drop, Bool, false, not, ◌||◌, refl, ap, sym, ◌∙◌, subst, append-nil, append_assoc, arith}
use Rattle.std.specs.List.{flat_map, list_any}
use Rattle.std.specs.Cmp.Lexicographic.{nat_list_eq_equiv}
use Rattle.std.proofs.lemmas.List.{map-append, take-append-drop}
use Rattle.std.proofs.lemmas.List.Elements.{filter-append}
use Rattle.std.proofs.lemmas.List.Folds.{list_any-append}
use Rattle.sn_base.specs.AnyFold.{any_has}
use Rattle.sn_base.specs.Bags.{SameBag}
use Rattle.sn_base.specs.Bags.SameBag.{stays}
use Rattle.sn_base.specs.Groups.{Row, once, same_row}
use Rattle.sn_base.specs.Operators.{Grouping, Op, apply, grouped, key_of, pair_of, parted, through}
use Rattle.sn_base.specs.Operators.Op.{Filter, Map, Distinct, Reduce}
use Rattle.sn_base.proofs.Lists.{all_append, all_filter, all_front, all_rest, filter_map, filter_same, nat_self}
use Rattle.sn_base.proofs.Tests.{nat_apart}
use Rattle.sn_base.proofs.BagLemmas.{bag_after, bag_any, bag_back, bag_before, bag_parted, bag_same, bag_swapped, bag_then}
use Rattle.sn_base.proofs.OnceLemmas.{any_once, apart_bag, once_apart}
use Rattle.sn_base.proofs.FoldedLemmas.{same_row_exact}
use Rattle.sn_base.proofs.GroupLemmas.{AllHad, grouped_bag, keys_of, parted_rows, partial_joined, total_had, with_of}
use Rattle.sn_base.proofs.OperatorLemmas.{AllOf, had_after, pairs_had, through_bag}
use Rattle.sn_chain.specs.Chain.{has_home}
use Rattle.sn_chain.specs.Homes.{homes_by_place}
use Rattle.sn_chain.proofs.HomeLemmas.{homes_known, homes_test}
use Rattle.sn_pipe_items.specs.Items.{held, tagged}
use Rattle.sn_pipe_items.specs.Value.{finish, is_at, is_partial, rows_with, taken, value}
use Rattle.sn_pipe_items.proofs.Homes.{homes_apart_any}
use Rattle.sn_pipe_items.proofs.ItemLemmas.{finish_alone, finish_none, finish_past, finish_past_partial, rows_all, rows_after, rows_none, taken_none}
use Rattle.sn_report.specs.Items.{Item}
use Rattle.sn_report.specs.declared.frame.Tag.{Tag}
use Rattle.sn_report.specs.declared.frame.Tag.TheVariants.{At, Partial}
use Rattle.sn_multi.specs.Switches.{all_items, beyond, beyond_keys, firsts, switch_items}

abbrev pub rows_in : List (List Row) → List Row
rows_in flows = flat_map (λ rows. rows) flows

-- ---- lists of lists

pub tagged_append : (tag : Tag) (xs ys : List Row) → tagged tag (xs ++ ys) ≡ tagged tag xs ++ tagged tag ys
tagged_append tag [] ys = refl
tagged_append tag (x ∷ xs) ys = ap (λ (zs : List Item). record { tag = tag; row = x } ∷ zs) (tagged_append tag xs ys)

tagged_all : (tag : Tag) (f : List Row → List Row) (flows : List (List Row)) → flat_map (λ flow. tagged tag (f flow)) flows ≡ tagged tag (flat_map f flows)
tagged_all tag f [] = refl
tagged_all tag f (flow ∷ flows) = ap (λ xs. tagged tag (f flow) ++ xs) (tagged_all tag f flows) ∙ sym (tagged_append tag (f flow) (flat_map f flows))

same_rows : (flows : List (List Row)) → flat_map (λ flow. flow) flows ≡ rows_in flows
same_rows flows = refl

flat_mapped : {B : Type 0} (f : List Row → List B) (g : List Row → List Row) (flows : List (List Row)) → flat_map (λ flow. f (g flow)) flows ≡ flat_map f (map g flows)
flat_mapped f g [] = refl
flat_mapped f g (flow ∷ flows) = ap (λ xs. f (g flow) ++ xs) (flat_mapped f g flows)

rows_filtered : (t : Row → Bool) (flows : List (List Row)) → rows_in (map (filter t) flows) ≡ filter t (rows_in flows)
rows_filtered t [] = refl
rows_filtered t (flow ∷ flows) = ap (λ xs. filter t flow ++ xs) (rows_filtered t flows) ∙ sym (filter-append t flow (rows_in flows))

rows_mapped : (f : Row → Row) (flows : List (List Row)) → rows_in (map (map f) flows) ≡ map f (rows_in flows)
rows_mapped f [] = refl
rows_mapped f (flow ∷ flows) = ap (λ xs. map f flow ++ xs) (rows_mapped f flows) ∙ sym (map-append f flow (rows_in flows))

pub rows_both : (t : Tag → Bool) (xs ys : List Item) → rows_with t (xs ++ ys) ≡ rows_with t xs ++ rows_with t ys
rows_both t xs ys = ap (map (λ (x : Item). x.row)) (filter-append (λ (x : Item). t x.tag) xs ys) ∙ map-append (λ (x : Item). x.row) (filter (λ x. t x.tag) xs) (filter (λ (x : Item). t x.tag) ys)

module _ (depth : ℕ) (size : ℕ → ℕ) where
  abbrev pub from : ℕ → List Op → List (List Row) → List Item
  from i ops flows = flat_map (switch_items depth size i ops) flows

  -- ---- no item is tagged before the operator from which the switches go on

  one_before : (t : Tag → Bool) (i : ℕ) → ((j : ℕ) → i ≤ j → t (At j) ≡ false) → ((j : ℕ) → i ≤ j → t (Partial j) ≡ false) → (ops : List Op) (flow : List Row) → rows_with t (switch_items depth size i ops flow) ≡ []
  one_before t i ats pts [] flow = rows_none t (At i) (ats i (omega arith)) flow
  one_before t i ats pts (Filter p ∷ ops) flow = one_before t (suc i) (λ j le. ats j (omega arith)) (λ j le. pts j (omega arith)) ops (filter p flow)
  one_before t i ats pts (Map f ∷ ops) flow = one_before t (suc i) (λ j le. ats j (omega arith)) (λ j le. pts j (omega arith)) ops (map f flow)
  one_before t i ats pts (Distinct ∷ ops) flow = rows_none t (At i) (ats i (omega arith)) (beyond depth size i flow ++ firsts depth size i flow)
  one_before t i ats pts (Reduce g ∷ ops) flow = rows_after t (At i) (ats i (omega arith)) (beyond_keys depth size i g flow) (tagged (Partial i) (held depth size i g flow)) ∙ rows_none t (Partial i) (pts i (omega arith)) (held depth size i g flow)

  none_before : (t : Tag → Bool) (i : ℕ) → ((j : ℕ) → i ≤ j → t (At j) ≡ false) → ((j : ℕ) → i ≤ j → t (Partial j) ≡ false) → (ops : List Op) (flows : List (List Row)) → rows_with t (from i ops flows) ≡ []
  none_before t i ats pts ops [] = refl
  none_before t i ats pts ops (flow ∷ flows) =
      rows_both t (switch_items depth size i ops flow) (from i ops flows)
      ∙ ap (λ xs. xs ++ rows_with t (from i ops flows)) (one_before t i ats pts ops flow)
      ∙ none_before t i ats pts ops flows

  pub none_one : (i : ℕ) (ops : List Op) (flow : List Row) → rows_with (is_at i) (switch_items depth size (suc i) ops flow) ≡ []
  none_one i ops flow = one_before (is_at i) (suc i) (λ j le. nat_apart i j (λ e. omega arith)) (λ j le. refl) ops flow

  -- an operator without registers
  step : (i : ℕ) (op : Op) (ops : List Op) (rest : List Op) (flows : List (List Row)) → finish i (op ∷ rest) (from (suc i) ops flows) (rows_with (is_at i) (from (suc i) ops flows)) ≡ finish (suc i) rest (from (suc i) ops flows) (apply op [] ++ rows_with (is_at (suc i)) (from (suc i) ops flows))
  step i op ops rest flows =
      let found = from (suc i) ops flows in
      ap (λ into. finish (suc i) rest found (taken op into (rows_with (is_partial i) found) ++ rows_with (is_at (suc i)) found)) (none_before (is_at i) (suc i) (λ j le. nat_apart i j (λ e. omega arith)) (λ j le. refl) ops flows)
      ∙ ap (λ ps. finish (suc i) rest found (taken op [] ps ++ rows_with (is_at (suc i)) found)) (none_before (is_partial i) (suc i) (λ j le. refl) (λ j le. nat_apart i j (λ e. omega arith)) ops flows)
      ∙ ap (λ xs. finish (suc i) rest found (xs ++ rows_with (is_at (suc i)) found)) (taken_none op [])

  -- ---- a distinct

  -- of each switch the overflow rows and the firsts are the rows that occur
  one_occurs : (i : ℕ) (k : Row) (flow : List Row) → list_any (same_row k) (beyond depth size i flow ++ firsts depth size i flow) ≡ list_any (same_row k) flow
  one_occurs i k flow =
      let t : Row → Bool = λ row. has_home depth (size i) flow row in
      list_any-append (same_row k) (filter (λ row. not (t row)) flow) (once same_row (filter t flow))
      ∙ ap (λ b. list_any (same_row k) (filter (λ row. not (t row)) flow) || b) (any_once nat_list_eq_equiv same_row_exact k (filter t flow))
      ∙ sym (list_any-append (same_row k) (filter (λ row. not (t row)) flow) (filter t flow))
      ∙ bag_any (same_row k) (filter (λ row. not (t row)) flow ++ filter t flow) flow (bag_parted t flow)

  all_occur : (i : ℕ) (k : Row) (flows : List (List Row)) → list_any (same_row k) (flat_map (λ flow. beyond depth size i flow ++ firsts depth size i flow) flows) ≡ list_any (same_row k) (rows_in flows)
  all_occur i k [] = refl
  all_occur i k (flow ∷ flows) =
      let own = beyond depth size i flow ++ firsts depth size i flow in
      let rest = flat_map (λ flow. beyond depth size i flow ++ firsts depth size i flow) flows in
      list_any-append (same_row k) own rest
      ∙ ap (λ b. b || list_any (same_row k) rest) (one_occurs i k flow)
      ∙ ap (λ b. list_any (same_row k) flow || b) (all_occur i k flows)
      ∙ sym (list_any-append (same_row k) flow (rows_in flows))

  at_distinct : (i : ℕ) (ops rest : List Op) (flows : List (List Row)) → AllOf (Distinct ∷ rest) (rows_in flows) →
      SameBag (finish i (Distinct ∷ rest) (from i (Distinct ∷ ops) flows) (rows_with (is_at i) (from i (Distinct ∷ ops) flows))) (through (Distinct ∷ rest) (rows_in flows))
  at_distinct i ops rest flows had =
      let sent : List Row → List Row = λ flow. beyond depth size i flow ++ firsts depth size i flow in
      let rows : List Row = flat_map sent flows in
      let found : from i (Distinct ∷ ops) flows ≡ tagged (At i) rows = tagged_all (At i) sent flows in
      let run : List Item → List Row = λ xs. finish i (Distinct ∷ rest) xs (rows_with (is_at i) xs) in
      let reported : run (tagged (At i) rows) ≡ through rest (once same_row rows) =
      ap (λ into. finish i (Distinct ∷ rest) (tagged (At i) rows) into) (rows_all (is_at i) (At i) (nat_self i) rows)
      ∙ ap (λ ys. finish (suc i) rest (tagged (At i) rows) (once same_row rows ++ ys)) (rows_none (is_at (suc i)) (At i) (nat_apart (suc i) i (λ e. omega arith)) rows)
      ∙ ap (finish (suc i) rest (tagged (At i) rows)) (append-nil (once same_row rows))
      ∙ finish_alone (suc i) i (omega arith) rest rows (once same_row rows) in
      let bags : SameBag (once same_row rows) (once same_row (rows_in flows)) =
      apart_bag nat_list_eq_equiv same_row_exact (once same_row rows) (once same_row (rows_in flows)) (once_apart same_row rows) (once_apart same_row (rows_in flows))
      (λ k. any_once nat_list_eq_equiv same_row_exact k rows ∙ all_occur i k flows ∙ sym (any_once nat_list_eq_equiv same_row_exact k (rows_in flows))) in
      bag_then (bag_same (ap run found ∙ reported))
      (bag_back (through rest (once same_row (rows_in flows))) (through rest (once same_row rows))
      (through_bag rest (once same_row (rows_in flows)) (once same_row rows) (had_after Distinct rest (rows_in flows) had) (bag_back (once same_row rows) (once same_row (rows_in flows)) bags)))

  -- ---- a reduce

  module _ (i : ℕ) (g : Grouping) where
    abbrev over : List Row → List Row
    over flow = beyond_keys depth size i g flow

    abbrev holds : List Row → List Row
    holds flow = held depth size i g flow

    abbrev sent : List Row → List Item
    sent flow = tagged (At i) (over flow) ++ tagged (Partial i) (holds flow)

    at_rows : (flows : List (List Row)) → rows_with (is_at i) (flat_map sent flows) ≡ flat_map over flows
    at_rows [] = refl
    at_rows (flow ∷ flows) =
        rows_both (is_at i) (sent flow) (flat_map sent flows)
        ∙ ap (λ xs. xs ++ rows_with (is_at i) (flat_map sent flows))
        (rows_both (is_at i) (tagged (At i) (over flow)) (tagged (Partial i) (holds flow))
        ∙ ap (λ xs. xs ++ rows_with (is_at i) (tagged (Partial i) (holds flow))) (rows_all (is_at i) (At i) (nat_self i) (over flow))
        ∙ ap (λ xs. over flow ++ xs) (rows_none (is_at i) (Partial i) refl (holds flow)) ∙ append-nil (over flow))
        ∙ ap (λ xs. over flow ++ xs) (at_rows flows)

    part_rows : (flows : List (List Row)) → rows_with (is_partial i) (flat_map sent flows) ≡ flat_map holds flows
    part_rows [] = refl
    part_rows (flow ∷ flows) =
        rows_both (is_partial i) (sent flow) (flat_map sent flows)
        ∙ ap (λ xs. xs ++ rows_with (is_partial i) (flat_map sent flows)) (rows_after (is_partial i) (At i) refl (over flow) (tagged (Partial i) (holds flow)) ∙ rows_all (is_partial i) (Partial i) (nat_self i) (holds flow))
        ∙ ap (λ xs. holds flow ++ xs) (part_rows flows)

    next_rows : (flows : List (List Row)) → rows_with (is_at (suc i)) (flat_map sent flows) ≡ []
    next_rows [] = refl
    next_rows (flow ∷ flows) =
        rows_both (is_at (suc i)) (sent flow) (flat_map sent flows)
        ∙ ap (λ xs. xs ++ rows_with (is_at (suc i)) (flat_map sent flows)) (rows_after (is_at (suc i)) (At i) (nat_apart (suc i) i (λ e. omega arith)) (over flow) (tagged (Partial i) (holds flow)) ∙ rows_none (is_at (suc i)) (Partial i) refl (holds flow))
        ∙ next_rows flows

    passed : (rest : List Op) (flows : List (List Row)) (into : List Row) → finish (suc i) rest (flat_map sent flows) into ≡ through rest into
    passed rest [] into = finish_none (suc i) rest into
    passed rest (flow ∷ flows) into =
        ap (λ xs. finish (suc i) rest xs into) (append_assoc (tagged (At i) (over flow)) (tagged (Partial i) (holds flow)) (flat_map sent flows))
        ∙ finish_past (suc i) i (omega arith) rest (over flow) (tagged (Partial i) (holds flow) ++ flat_map sent flows) into
        ∙ finish_past_partial (suc i) i (omega arith) rest (holds flow) (flat_map sent flows) into
        ∙ passed rest flows into

    abbrev pairs : List Row → List (Row × ℕ)
    pairs rows = map (pair_of g) rows

    abbrev parts : List Row → List (Row × ℕ)
    parts rows = map (parted g) rows

    abbrev homes : List Row → List Row
    homes flow = homes_by_place depth (size i) (map (key_of g) flow)

    over_pairs : (flow : List Row) → pairs (over flow) ≡ filter (λ p. not (list_any (same_row p.0) (homes flow))) (pairs flow)
    over_pairs flow =
        let keys_in = map (key_of g) flow in
        filter_map (pair_of g) (λ (p : Row × ℕ). not (has_home depth (size i) keys_in p.0)) flow
        ∙ filter_same (λ (p : Row × ℕ). not (has_home depth (size i) keys_in p.0)) (λ p. not (list_any (same_row p.0) (homes flow))) (λ p. ap not (sym (homes_test depth (size i) keys_in p.0))) (pairs flow)

    held_parts : (flow : List Row) → parts (holds flow) ≡ map (with_of g (pairs flow)) (homes flow)
    held_parts flow = parted_rows g flow (homes flow) (homes_known depth (size i) (map (key_of g) flow))

    -- the rows of one switch beside anything else
    one_joined : (es : List (Row × ℕ)) (flow : List Row) → AllHad g es → AllHad g (pairs flow) → SameBag (grouped g ((es ++ pairs (over flow)) ++ parts (holds flow))) (grouped g (es ++ pairs flow))
    one_joined es flow had_es had =
        bag_then (bag_same (ap (λ xs. grouped g ((es ++ xs) ++ parts (holds flow))) (over_pairs flow) ∙ ap (λ ps. grouped g ((es ++ filter (λ p. not (list_any (same_row p.0) (homes flow))) (pairs flow)) ++ ps)) (held_parts flow)))
        (partial_joined g (homes flow) (pairs flow) (homes_apart_any depth (size i) (map (key_of g) flow))
        (λ k is. ap (list_any (same_row k)) (keys_of g flow) ∙ homes_known depth (size i) (map (key_of g) flow) k is) es had_es had)

    -- ---- values are had

    over_had : (flow : List Row) → AllHad g (pairs flow) → AllHad g (pairs (over flow))
    over_had flow had = subst (AllHad g) (sym (over_pairs flow)) (all_filter (λ (p : Row × ℕ). any_has g.by p.1) (λ p. not (list_any (same_row p.0) (homes flow))) (pairs flow) had)

    parts_had : (flow : List Row) → AllHad g (pairs flow) → AllHad g (parts (holds flow))
    parts_had flow had = subst (AllHad g) (sym (held_parts flow)) (each (homes flow))
      where
        each : (ks : List Row) → AllHad g (map (with_of g (pairs flow)) ks)
        each [] = tt
        each (k ∷ ks) = (total_had g (pairs flow) k had, each ks)

    front_had : (flow rows : List Row) → AllHad g (pairs (flow ++ rows)) → AllHad g (pairs flow)
    front_had flow rows had = all_front (λ (p : Row × ℕ). any_has g.by p.1) (pairs flow) (pairs rows) (subst (AllHad g) (map-append (pair_of g) flow rows) had)

    back_had : (flow rows : List Row) → AllHad g (pairs (flow ++ rows)) → AllHad g (pairs rows)
    back_had flow rows had = all_rest (λ (p : Row × ℕ). any_has g.by p.1) (pairs flow) (pairs rows) (subst (AllHad g) (map-append (pair_of g) flow rows) had)

    overs_had : (flows : List (List Row)) → AllHad g (pairs (rows_in flows)) → AllHad g (pairs (flat_map over flows))
    overs_had [] had = tt
    overs_had (flow ∷ flows) had =
        subst (AllHad g) (sym (map-append (pair_of g) (over flow) (flat_map over flows)))
        (all_append (λ (p : Row × ℕ). any_has g.by p.1) (pairs (over flow)) (pairs (flat_map over flows)) (over_had flow (front_had flow (rows_in flows) had)) (overs_had flows (back_had flow (rows_in flows) had)))

    all_parts_had : (flows : List (List Row)) → AllHad g (pairs (rows_in flows)) → AllHad g (parts (flat_map holds flows))
    all_parts_had [] had = tt
    all_parts_had (flow ∷ flows) had =
        subst (AllHad g) (sym (map-append (parted g) (holds flow) (flat_map holds flows)))
        (all_append (λ (p : Row × ℕ). any_has g.by p.1) (parts (holds flow)) (parts (flat_map holds flows)) (parts_had flow (front_had flow (rows_in flows) had)) (all_parts_had flows (back_had flow (rows_in flows) had)))

    -- ---- switch by switch

    all_joined : (flows : List (List Row)) (es : List (Row × ℕ)) → AllHad g es → AllHad g (pairs (rows_in flows)) → SameBag (grouped g (es ++ (pairs (flat_map over flows) ++ parts (flat_map holds flows)))) (grouped g (es ++ pairs (rows_in flows)))
    all_joined [] es had_es had = stays (grouped g (es ++ []))
    all_joined (flow ∷ flows) es had_es had =
        let P : Row × ℕ → Type 0 = λ p. any_has g.by p.1 in
        let o = pairs (over flow) in
        let os = pairs (flat_map over flows) in
        let h = parts (holds flow) in
        let hs = parts (flat_map holds flows) in
        let own = front_had flow (rows_in flows) had in
        let later = back_had flow (rows_in flows) had in
        let all_os = overs_had flows later in
        let all_hs = all_parts_had flows later in
        let had_rest : AllHad g (os ++ hs) = all_append P os hs all_os all_hs in
        let had_here : AllHad g (es ++ ((o ++ os) ++ (h ++ hs))) =
        all_append P es ((o ++ os) ++ (h ++ hs)) had_es
        (all_append P (o ++ os) (h ++ hs) (all_append P o os (over_had flow own) all_os) (all_append P h hs (parts_had flow own) all_hs)) in
        let first : SameBag (es ++ ((o ++ os) ++ (h ++ hs))) (((es ++ (os ++ hs)) ++ o) ++ h) =
        bag_then (bag_before es ((o ++ os) ++ (h ++ hs)) ((os ++ hs) ++ (o ++ h)) (four_turned o os h hs))
        (bag_same (sym (append_assoc es (os ++ hs) (o ++ h)) ∙ sym (append_assoc (es ++ (os ++ hs)) o h))) in
        let second : SameBag ((es ++ (os ++ hs)) ++ pairs flow) ((es ++ pairs flow) ++ (os ++ hs)) = last_turned es (os ++ hs) (pairs flow) in
        bag_then (bag_same (ap (λ xs. grouped g (es ++ (xs ++ parts (holds flow ++ flat_map holds flows)))) (map-append (pair_of g) (over flow) (flat_map over flows)) ∙ ap (λ xs. grouped g (es ++ ((o ++ os) ++ xs))) (map-append (parted g) (holds flow) (flat_map holds flows))))
        (bag_then (grouped_bag g (es ++ ((o ++ os) ++ (h ++ hs))) (((es ++ (os ++ hs)) ++ o) ++ h) first had_here)
        (bag_then (one_joined (es ++ (os ++ hs)) flow (all_append P es (os ++ hs) had_es had_rest) own)
        (bag_then (grouped_bag g ((es ++ (os ++ hs)) ++ pairs flow) ((es ++ pairs flow) ++ (os ++ hs)) second (all_append P (es ++ (os ++ hs)) (pairs flow) (all_append P es (os ++ hs) had_es had_rest) own))
        (bag_then (all_joined flows (es ++ pairs flow) (all_append P es (pairs flow) had_es own) later)
        (bag_same (ap (grouped g) (append_assoc es (pairs flow) (pairs (rows_in flows)) ∙ ap (λ xs. es ++ xs) (sym (map-append (pair_of g) flow (rows_in flows))))))))))
      where
        four_turned : (a b c d : List (Row × ℕ)) → SameBag ((a ++ b) ++ (c ++ d)) ((b ++ d) ++ (a ++ c))
        four_turned a b c d =
            bag_then (bag_same (append_assoc a b (c ++ d)))
            (bag_then (bag_before a (b ++ (c ++ d)) (c ++ (b ++ d))
            (bag_then (bag_same (sym (append_assoc b c d))) (bag_then (bag_after d (b ++ c) (c ++ b) (bag_swapped b c)) (bag_same (append_assoc c b d)))))
            (bag_then (bag_same (sym (append_assoc a c (b ++ d)))) (bag_swapped (a ++ c) (b ++ d))))

        last_turned : (a b c : List (Row × ℕ)) → SameBag ((a ++ b) ++ c) ((a ++ c) ++ b)
        last_turned a b c = bag_then (bag_same (append_assoc a b c)) (bag_then (bag_before a (b ++ c) (c ++ b) (bag_swapped b c)) (bag_same (sym (append_assoc a c b))))

    at_reduce : (ops rest : List Op) (flows : List (List Row)) → AllOf (Reduce g ∷ rest) (rows_in flows) →
        SameBag (finish i (Reduce g ∷ rest) (from i (Reduce g ∷ ops) flows) (rows_with (is_at i) (from i (Reduce g ∷ ops) flows))) (through (Reduce g ∷ rest) (rows_in flows))
    at_reduce ops rest flows had =
        let found : List Item = flat_map sent flows in
        let rows : List Row = grouped g (pairs (flat_map over flows) ++ parts (flat_map holds flows)) in
        let reported : finish i (Reduce g ∷ rest) found (rows_with (is_at i) found) ≡ through rest rows =
        ap (λ into. finish (suc i) rest found (taken (Reduce g) into (rows_with (is_partial i) found) ++ rows_with (is_at (suc i)) found)) (at_rows flows)
        ∙ ap (λ ps. finish (suc i) rest found (taken (Reduce g) (flat_map over flows) ps ++ rows_with (is_at (suc i)) found)) (part_rows flows)
        ∙ ap (λ ys. finish (suc i) rest found (rows ++ ys)) (next_rows flows)
        ∙ ap (finish (suc i) rest found) (append-nil rows)
        ∙ passed rest flows rows in
        bag_then (bag_same reported)
        (bag_back (through rest (apply (Reduce g) (rows_in flows))) (through rest rows)
        (through_bag rest (apply (Reduce g) (rows_in flows)) rows (had_after (Reduce g) rest (rows_in flows) had)
        (bag_back rows (apply (Reduce g) (rows_in flows)) (all_joined flows [] tt (pairs_had g rest (rows_in flows) had)))))

  -- ---- the whole

  go : (i : ℕ) (front back : List Op) (flows : List (List Row)) → AllOf (front ++ back) (rows_in flows) → SameBag (finish i (front ++ back) (from i front flows) (rows_with (is_at i) (from i front flows))) (through (front ++ back) (rows_in flows))
  go i [] back flows had =
      bag_same (ap (λ xs. finish i back xs (rows_with (is_at i) xs)) (tagged_all (At i) (λ flow. flow) flows)
      ∙ ap (finish i back (tagged (At i) (rows_in flows))) (rows_all (is_at i) (At i) (nat_self i) (rows_in flows))
      ∙ finish_alone i i (omega arith) back (rows_in flows) (rows_in flows))
  go i (Filter t ∷ front) back flows had =
      let next : List (List Row) = map (filter t) flows in
      let same : rows_in next ≡ filter t (rows_in flows) = rows_filtered t flows in
      bag_then (bag_same (ap (λ xs. finish i (Filter t ∷ (front ++ back)) xs (rows_with (is_at i) xs)) (flat_mapped (switch_items depth size (suc i) front) (filter t) flows) ∙ step i (Filter t) front (front ++ back) next))
      (bag_then (go (suc i) front back next (subst (AllOf (front ++ back)) (sym same) (had_after (Filter t) (front ++ back) (rows_in flows) had)))
      (bag_same (ap (through (front ++ back)) same)))
  go i (Map f ∷ front) back flows had =
      let next : List (List Row) = map (map f) flows in
      let same : rows_in next ≡ map f (rows_in flows) = rows_mapped f flows in
      bag_then (bag_same (ap (λ xs. finish i (Map f ∷ (front ++ back)) xs (rows_with (is_at i) xs)) (flat_mapped (switch_items depth size (suc i) front) (map f) flows) ∙ step i (Map f) front (front ++ back) next))
      (bag_then (go (suc i) front back next (subst (AllOf (front ++ back)) (sym same) (had_after (Map f) (front ++ back) (rows_in flows) had)))
      (bag_same (ap (through (front ++ back)) same)))
  go i (Distinct ∷ front) back flows had = at_distinct i front (front ++ back) flows had
  go i (Reduce g ∷ front) back flows had = at_reduce i g front (front ++ back) flows had

  pub merged : (cut : ℕ) (ops : List Op) (flows : List (List Row)) → AllOf ops (rows_in flows) → SameBag (value ops (all_items depth size cut ops flows)) (through ops (rows_in flows))
  merged cut ops flows had =
      let front = take cut ops in
      let found = all_items depth size cut ops flows in
      subst (λ (os : List Op). SameBag (finish 0 os found (rows_with (is_at 0) found)) (through os (rows_in flows))) (take-append-drop cut ops)
      (go 0 front (drop cut ops) flows (subst (λ (os : List Op). AllOf os (rows_in flows)) (sym (take-append-drop cut ops)) had))
