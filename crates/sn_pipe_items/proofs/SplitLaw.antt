-- The engine's value of a prefix's items is the branch on the rows.
use Rattle.std.proofs.Common.{◌≡◌, ℕ, suc, List, [], ◌∷◌, ◌++◌, map, filter, take, drop, Bool, true, false, not, refl, ap, sym, ◌∙◌, subst, append-nil, arith}
use Rattle.std.specs.List.{list_any}
use Rattle.std.specs.Cmp.Lexicographic.{nat_list_eq_equiv}
use Rattle.std.proofs.lemmas.List.{map-append, take-append-drop}
use Rattle.std.proofs.lemmas.List.Elements.{filter-append}
use Rattle.sn_base.specs.Bags.{SameBag}
use Rattle.sn_base.specs.Groups.{Row, once, same_row}
use Rattle.sn_base.specs.Operators.{Grouping, Op, Had, grouped, key_of, pair_of, parted, apply, through}
use Rattle.sn_base.specs.Operators.Op.{Filter, Map, Distinct, Reduce}
use Rattle.sn_report.specs.Items.{Item}
use Rattle.sn_report.specs.declared.frame.Tag.TheVariants.{At, Partial}
use Rattle.sn_base.proofs.Lists.{by_test, filter_map, filter_all, all_filter, all_append, filter_same as filter_agree, nat_self as at_self}
use Rattle.sn_base.proofs.BagLemmas.{bag_same, bag_then, bag_back}
use Rattle.sn_base.proofs.OnceLemmas.{all_once, once_parted}
use Rattle.sn_base.proofs.FoldedLemmas.{same_row_exact}
use Rattle.sn_base.proofs.GroupLemmas.{keys, keys_of, with_of, parted_rows, grouped_parted, partial_joined}
use Rattle.sn_base.proofs.OperatorLemmas.{AllOf, pairs_had, had_after, through_bag}
use Rattle.sn_chain.specs.Homes.{homes_by_place}
use Rattle.sn_chain.proofs.HomeLemmas.{homes_test, homes_known}
use Rattle.sn_pipe_items.specs.Items.{tagged, held}
use Rattle.sn_pipe_items.specs.Value.{is_at, is_partial, rows_with, taken, finish, value}
use Rattle.sn_pipe_items.proofs.Bagged.{some_row, resides, over_distinct, over_reduce, items_from, bagged}
use Rattle.sn_pipe_items.proofs.Cuts.{OnlyFilters, IsCutAfterDistinct, IsCut, cut_later}
use Rattle.sn_pipe_items.proofs.Homes.{homes_apart_any}
use Rattle.sn_pipe_items.proofs.ItemLemmas.{rows_all, rows_none, rows_after, rows_front, finish_past, taken_none, finish_alone, finish_alone_partial, no_at, no_partial}
use Rattle.sn_base.proofs.Tests.{nat_apart as at_other}

-- an operator over the rows that came to it and the overflow rows tagged At it
after_over : (i : ℕ) (op : Op) (ops : List Op) (over : List Row) (rest : List Item) (extra : List Row) → rows_with (is_at i) rest ≡ [] → rows_with (is_partial i) rest ≡ [] →
    finish i (op ∷ ops) (tagged (At i) over ++ rest) (extra ++ rows_with (is_at i) (tagged (At i) over ++ rest)) ≡ finish (suc i) ops rest (apply op (extra ++ over) ++ rows_with (is_at (suc i)) rest)
after_over i op ops over rest extra none none_partial =
    let xs = tagged (At i) over ++ rest in
    ap (λ ys. finish (suc i) ops xs (taken op (extra ++ ys) (rows_with (is_partial i) xs) ++ rows_with (is_at (suc i)) xs)) (rows_front (is_at i) (At i) (at_self i) over rest none)
    ∙ ap (λ ps. finish (suc i) ops xs (taken op (extra ++ over) ps ++ rows_with (is_at (suc i)) xs)) (rows_after (is_partial i) (At i) refl over rest ∙ none_partial)
    ∙ ap (λ ys. finish (suc i) ops xs (ys ++ rows_with (is_at (suc i)) xs)) (taken_none op (extra ++ over))
    ∙ ap (λ ys. finish (suc i) ops xs (apply op (extra ++ over) ++ ys)) (rows_after (is_at (suc i)) (At i) (at_other (suc i) i (λ e. omega arith)) over rest)
    ∙ finish_past (suc i) i (omega arith) ops over rest (apply op (extra ++ over) ++ rows_with (is_at (suc i)) rest)

-- an operator at which nothing overflows
step_on : (i : ℕ) (op : Op) (ops : List Op) (rest : List Item) (extra : List Row) → rows_with (is_at i) rest ≡ [] → rows_with (is_partial i) rest ≡ [] →
    finish i (op ∷ ops) rest (extra ++ rows_with (is_at i) rest) ≡ finish (suc i) ops rest (apply op extra ++ rows_with (is_at (suc i)) rest)
step_on i op ops rest extra none none_partial =
    after_over i op ops [] rest extra none none_partial ∙ ap (λ ys. finish (suc i) ops rest (apply op ys ++ rows_with (is_at (suc i)) rest)) (append-nil extra)

none_over : (rows : List Row) → some_row rows ≡ false → rows ≡ []
none_over [] e = refl
none_over (row ∷ rows) e = cc

module _ (depth : ℕ) (size : ℕ → ℕ) where
  abbrev homes : ℕ → List Row → List Row
  homes i keys = homes_by_place depth (size i) keys

  -- ---- no stateful operator

  at_cut : (i : ℕ) (back : List Op) (flow extra : List Row) → finish i back (tagged (At i) flow) (extra ++ rows_with (is_at i) (tagged (At i) flow)) ≡ through back (extra ++ flow)
  at_cut i back flow extra =
      ap (λ ys. finish i back (tagged (At i) flow) (extra ++ ys)) (rows_all (is_at i) (At i) (at_self i) flow) ∙ finish_alone i i (omega arith) back flow (extra ++ flow)

  flows : (i : ℕ) (front back : List Op) → OnlyFilters front → (flow extra : List Row) →
      finish i (front ++ back) (items_from depth size i false front flow) (extra ++ rows_with (is_at i) (items_from depth size i false front flow)) ≡ through (front ++ back) (extra ++ flow)
  flows i [] back only flow extra = at_cut i back flow extra
  flows i (Filter t ∷ front) back only flow extra =
      step_on i (Filter t) (front ++ back) (items_from depth size (suc i) false front (filter t flow)) extra (no_at depth size i (suc i) (omega arith) false front (filter t flow)) (no_partial depth size i (suc i) (omega arith) false front (filter t flow))
      ∙ flows (suc i) front back only (filter t flow) (filter t extra)
      ∙ ap (through (front ++ back)) (sym (filter-append t extra flow))
  flows i (Map f ∷ front) back only flow extra = absurd only
  flows i (Distinct ∷ front) back only flow extra = absurd only
  flows i (Reduce g ∷ front) back only flow extra = absurd only

  -- ---- one reduce

  known_keys : (i : ℕ) (g : Grouping) (flow : List Row) (k : Row) → list_any (same_row k) (homes i (map (key_of g) flow)) ≡ true → list_any (same_row k) (keys (map (pair_of g) flow)) ≡ true
  known_keys i g flow k is = ap (list_any (same_row k)) (keys_of g flow) ∙ homes_known depth (size i) (map (key_of g) flow) k is

  over_pairs : (i : ℕ) (g : Grouping) (flow : List Row) → map (pair_of g) (over_reduce depth size i g flow) ≡ filter (λ p. not (list_any (same_row p.0) (homes i (map (key_of g) flow)))) (map (pair_of g) flow)
  over_pairs i g flow =
      let keys_in = map (key_of g) flow in
      filter_map (pair_of g) (λ (p : Row × ℕ). not (resides depth size i keys_in p.0)) flow
      ∙ filter_agree (λ (p : Row × ℕ). not (resides depth size i keys_in p.0)) (λ p. not (list_any (same_row p.0) (homes i keys_in))) (λ p. ap not (sym (homes_test depth (size i) keys_in p.0))) (map (pair_of g) flow)

  one_reduce : (i : ℕ) (g : Grouping) (front back : List Op) → OnlyFilters front → (flow : List Row) → AllOf (Reduce g ∷ (front ++ back)) flow →
      SameBag (finish i (Reduce g ∷ (front ++ back)) (items_from depth size i false (Reduce g ∷ front) flow) (rows_with (is_at i) (items_from depth size i false (Reduce g ∷ front) flow))) (through (front ++ back) (apply (Reduce g) flow))
  one_reduce i g front back only flow had =
      let over = over_reduce depth size i g flow in
      let kept = held depth size i g flow in
      let rest = items_from depth size (suc i) false front kept in
      let hs = homes i (map (key_of g) flow) in
      bag_then
      (bag_same (after_over i (Reduce g) (front ++ back) over rest [] (no_at depth size i (suc i) (omega arith) false front kept) (no_partial depth size i (suc i) (omega arith) false front kept)
      ∙ flows (suc i) front back only kept (apply (Reduce g) over)))
      (bag_back (through (front ++ back) (apply (Reduce g) flow)) (through (front ++ back) (apply (Reduce g) over ++ kept))
      (through_bag (front ++ back) (apply (Reduce g) flow) (apply (Reduce g) over ++ kept) (had_after (Reduce g) (front ++ back) flow had)
      (bag_back (apply (Reduce g) over ++ kept) (apply (Reduce g) flow)
      (bag_then (bag_same (ap (λ ps. grouped g ps ++ kept) (over_pairs i g flow)))
      (grouped_parted g hs (map (pair_of g) flow) (homes_apart_any depth (size i) (map (key_of g) flow)) (known_keys i g flow))))))

  -- ---- after a distinct that has overflowed: rows come to the engine's operators beside the pipe's

  spilled : (i : ℕ) (front back : List Op) → IsCutAfterDistinct front → (flow extra : List Row) → AllOf (front ++ back) flow → AllOf (front ++ back) extra →
      SameBag (finish i (front ++ back) (items_from depth size i true front flow) (extra ++ rows_with (is_at i) (items_from depth size i true front flow))) (through (front ++ back) (extra ++ flow))
  spilled i [] back c flow extra had had_extra = bag_same (at_cut i back flow extra)
  spilled i (Filter t ∷ front) back c flow extra had had_extra =
      bag_then
      (bag_same (step_on i (Filter t) (front ++ back) (items_from depth size (suc i) true front (filter t flow)) extra (no_at depth size i (suc i) (omega arith) true front (filter t flow)) (no_partial depth size i (suc i) (omega arith) true front (filter t flow))))
      (bag_then
      (spilled (suc i) front back c (filter t flow) (filter t extra) (had_after (Filter t) (front ++ back) flow had) (had_after (Filter t) (front ++ back) extra had_extra))
      (bag_same (ap (through (front ++ back)) (sym (filter-append t extra flow)))))
  spilled i (Map f ∷ front) back c flow extra had had_extra =
      bag_then
      (bag_same (step_on i (Map f) (front ++ back) (items_from depth size (suc i) true front (map f flow)) extra (no_at depth size i (suc i) (omega arith) true front (map f flow)) (no_partial depth size i (suc i) (omega arith) true front (map f flow))))
      (bag_then
      (spilled (suc i) front back c (map f flow) (map f extra) (had_after (Map f) (front ++ back) flow had) (had_after (Map f) (front ++ back) extra had_extra))
      (bag_same (ap (through (front ++ back)) (sym (map-append f extra flow)))))
  spilled i (Distinct ∷ front) back c flow extra had had_extra = absurd c
  spilled i (Reduce g ∷ front) back c flow extra had had_extra =
      let ops = front ++ back in
      let over = over_reduce depth size i g flow in
      let kept = held depth size i g flow in
      let rest = tagged (Partial i) kept in
      let xs = tagged (At i) over ++ rest in
      let hs = homes i (map (key_of g) flow) in
      let pairs = map (pair_of g) flow in
      let es = map (pair_of g) extra in
      let joined_rows = grouped g ((es ++ filter (λ (p : Row × ℕ). not (list_any (same_row p.0) hs)) pairs) ++ map (with_of g pairs) hs) in
      let whole_rows = apply (Reduce g) (extra ++ flow) in
      let engine : finish i (Reduce g ∷ ops) xs (extra ++ rows_with (is_at i) xs) ≡ through ops (taken (Reduce g) (extra ++ over) kept) =
      ap (λ ys. finish (suc i) ops xs (taken (Reduce g) (extra ++ ys) (rows_with (is_partial i) xs) ++ rows_with (is_at (suc i)) xs)) (rows_front (is_at i) (At i) (at_self i) over rest (rows_none (is_at i) (Partial i) refl kept))
      ∙ ap (λ ps. finish (suc i) ops xs (taken (Reduce g) (extra ++ over) ps ++ rows_with (is_at (suc i)) xs)) (rows_after (is_partial i) (At i) refl over rest ∙ rows_all (is_partial i) (Partial i) (at_self i) kept)
      ∙ ap (λ ys. finish (suc i) ops xs (taken (Reduce g) (extra ++ over) kept ++ ys)) (rows_after (is_at (suc i)) (At i) (at_other (suc i) i (λ e. omega arith)) over rest ∙ rows_none (is_at (suc i)) (Partial i) refl kept)
      ∙ ap (finish (suc i) ops xs) (append-nil (taken (Reduce g) (extra ++ over) kept))
      ∙ finish_past (suc i) i (omega arith) ops over rest (taken (Reduce g) (extra ++ over) kept)
      ∙ finish_alone_partial (suc i) i (omega arith) ops kept (taken (Reduce g) (extra ++ over) kept) in
      let read : taken (Reduce g) (extra ++ over) kept ≡ joined_rows =
      ap (λ ps. grouped g (ps ++ map (parted g) kept)) (map-append (pair_of g) extra over ∙ ap (λ ps. es ++ ps) (over_pairs i g flow))
      ∙ ap (λ ps. grouped g ((es ++ filter (λ (p : Row × ℕ). not (list_any (same_row p.0) hs)) pairs) ++ ps)) (parted_rows g flow hs (homes_known depth (size i) (map (key_of g) flow))) in
      let bags : SameBag joined_rows whole_rows =
      bag_then
      (partial_joined g hs pairs (homes_apart_any depth (size i) (map (key_of g) flow)) (known_keys i g flow) es (pairs_had g ops extra had_extra) (pairs_had g ops flow had))
      (bag_same (ap (grouped g) (sym (map-append (pair_of g) extra flow)))) in
      bag_then (bag_same (engine ∙ ap (through ops) read))
      (bag_back (through ops whole_rows) (through ops joined_rows)
      (through_bag ops whole_rows joined_rows (had_after (Reduce g) ops (extra ++ flow) (all_append (Had (Reduce g ∷ ops)) extra flow had_extra had)) (bag_back joined_rows whole_rows bags)))

  -- ---- the whole

  pub whole : (i : ℕ) (front back : List Op) → IsCut front → (flow : List Row) → AllOf (front ++ back) flow →
      SameBag (finish i (front ++ back) (items_from depth size i false front flow) (rows_with (is_at i) (items_from depth size i false front flow))) (through (front ++ back) flow)
  whole i [] back c flow had = bag_same (at_cut i back flow [])
  whole i (Filter t ∷ front) back c flow had =
      bag_then
      (bag_same (step_on i (Filter t) (front ++ back) (items_from depth size (suc i) false front (filter t flow)) [] (no_at depth size i (suc i) (omega arith) false front (filter t flow)) (no_partial depth size i (suc i) (omega arith) false front (filter t flow))))
      (whole (suc i) front back c (filter t flow) (had_after (Filter t) (front ++ back) flow had))
  whole i (Map f ∷ front) back c flow had =
      bag_then
      (bag_same (step_on i (Map f) (front ++ back) (items_from depth size (suc i) false front (map f flow)) [] (no_at depth size i (suc i) (omega arith) false front (map f flow)) (no_partial depth size i (suc i) (omega arith) false front (map f flow))))
      (whole (suc i) front back c (map f flow) (had_after (Map f) (front ++ back) flow had))
  whole i (Distinct ∷ front) back c flow had =
      let ops = front ++ back in
      let over = over_distinct depth size i flow in
      let stay = filter (resides depth size i flow) flow in
      let b = some_row over in
      let rest = items_from depth size (suc i) b front (once same_row stay) in
      let had_all = had_after Distinct ops flow had in
      let run : Bool → List Row → List Row → List Row = λ sp o r. finish (suc i) ops (items_from depth size (suc i) sp front (once same_row r)) (once same_row o ++ rows_with (is_at (suc i)) (items_from depth size (suc i) sp front (once same_row r))) in
      let parts = once_parted nat_list_eq_equiv same_row_exact (resides depth size i flow) flow in
      bag_then
      (bag_same (after_over i Distinct ops over rest [] (no_at depth size i (suc i) (omega arith) b front (once same_row stay)) (no_partial depth size i (suc i) (omega arith) b front (once same_row stay))))
      (by_test (some_row over)
      (λ is. bag_then (bag_same (ap (λ sp. run sp over stay) is))
      (bag_then
      (spilled (suc i) front back c (once same_row stay) (once same_row over)
      (all_once same_row (Had ops) stay (all_filter (Had ops) (resides depth size i flow) flow had))
      (all_once same_row (Had ops) over (all_filter (Had ops) (λ row. not (resides depth size i flow row)) flow had)))
      (bag_back (through ops (once same_row flow)) (through ops (once same_row over ++ once same_row stay))
      (through_bag ops (once same_row flow) (once same_row over ++ once same_row stay) had_all
      (bag_back (once same_row over ++ once same_row stay) (once same_row flow) parts)))))
      (λ isnt. let none = none_over over isnt in
      bag_then (bag_same (ap (λ sp. run sp over stay) isnt ∙ ap (λ o. run false o stay) none ∙ ap (λ r. run false [] r) (filter_all (resides depth size i flow) flow none)))
      (whole (suc i) front back (cut_later front c) (once same_row flow) had_all)))
  whole i (Reduce g ∷ front) back c flow had = one_reduce i g front back c flow had

  -- the value of the items is the branch on the rows
  pub split : (ops : List Op) (cut : ℕ) (rows : List Row) → IsCut (take cut ops) → AllOf ops rows → SameBag (value ops (bagged depth size cut ops rows)) (through ops rows)
  split ops cut rows c had =
      let front = take cut ops in
      let found = items_from depth size 0 false front rows in
      subst (λ (os : List Op). SameBag (finish 0 os found (rows_with (is_at 0) found)) (through os rows)) (take-append-drop cut ops)
      (whole 0 front (drop cut ops) c rows (subst (λ (os : List Op). AllOf os rows) (sym (take-append-drop cut ops)) had))
