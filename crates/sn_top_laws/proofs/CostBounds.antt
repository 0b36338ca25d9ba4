-- What plans cost over training windows are numbers of 64 bits, and so are the bounds of their trees.
use Rattle.std.proofs.Common.{◌≡◌, ℕ, zero, suc, ◌+◌, ◌*◌, ◌-◌, ◌^◌, ◌≤◌, ◌<◌, Bool, true, false, cond, List, [], ◌∷◌, filter, length, map, Option, None, Some, slice_index, mul-le-mul_left, refl, sym, subst, arith, inl, inr}
use Rattle.std.specs.Prelude.{◌==◌, min, nat_eq, nat_lt}
use Rattle.std.specs.List.{AllByRecursion, sum_by}
use Rattle.std.specs.Option.{option_map}
use Rattle.std.proofs.lemmas.Bool.{ltb-false, ltb-true}
use Rattle.std.proofs.lemmas.List.{length-map}
use Rattle.std.proofs.lemmas.List.Sums.{sum_by-cons}
use Rattle.sn_base.proofs.Lists.{all_append, by_test, filter_short as fewer}
use Rattle.sn_base.specs.Groups.{Row}
use Rattle.sn_cost.specs.Entries.{cost_in, entry_count, front_of, records, sent_in, sent_of, trained}
use Rattle.sn_cost.specs.Training.{NeverFall}
use Rattle.sn_cost.proofs.Bounded.{entry_most}
use Rattle.sn_cost_counts.proofs.Arrivals.{few_packets}
use Rattle.sn_cost_laws.specs.Space.{trained_entry, trained_plans}
use Rattle.sn_ops.specs.Packets.{packet_rows}
use Rattle.sn_plan_choices.specs.Options.{Setting, option_at}
use Rattle.sn_plan_space.specs.Readable.{AreReadable}
use Rattle.sn_plan_space.proofs.Bounds.{lower_fits}
use Rattle.sn_engine_split.specs.Opened.{is_open}
use Rattle.sn_refine.specs.Passes.{passes_at, prefixes_before}
use Rattle.sn_refine.specs.Refined.{Windows, answered, before, is_in, column_of, refined_rows, seen_at}
use Rattle.sn_refine.specs.Steps.{windows_of}
use Rattle.sn_switch.specs.declared.switch.Switch.{Switch}
use Rattle.sn_switch.specs.Texts.{IsSwitch}
use Rattle.sn_tree_space.specs.declared.node.Node.{Node}
use Rattle.sn_tree_space.specs.Space.{IsOneOf, IsPartial, Space, children}
use Rattle.sn_tree_space.specs.Trees.{CoverAll, Covers, bound, broken, chosen, each, expand, none}
use Rattle.sn_tree_space.proofs.Partials.{child_partial}
use Rattle.sn_tree_text.specs.Printing.{IsSmall}
use Rattle.sn_types.specs.declared.typed_query.TypedQuery.{TypedQuery}
use Rattle.sn_types.specs.Cuts.{size_at}
use Rattle.sn_types.specs.Typed.{IsTyped, blank_query, branch_at, branch_of, query_at}
use Rattle.sn_types.specs.Values.{op_at}
use Rattle.sn_windows.specs.Windows as numbered
use Rattle.sn_top_laws.proofs.ItemCounts.{items_few, most, once_fewer}
use Rattle.sn_windows.specs.Rising.{Window}

-- ---- windows

-- the windows, and the tuples of each, are no more than this
abbrev pub AreFew : List Window → Type 0
AreFew given = AllByRecursion (λ (g : Window). length g.1 ≤ most) given

records_few : (ns : List ℕ) (ts : List (List ℕ)) → length (records ns ts) ≤ length ts
records_few [] ts = omega arith
records_few (n ∷ ns) [] = omega arith
records_few (n ∷ ns) (t ∷ ts) = let rest = records_few ns ts in omega (arith, rest)

each_few : (found : List (ℕ × List ℕ)) (ws : List ℕ) → length found ≤ most → AreFew (map (λ w. (w, numbered.in_window w found)) ws)
each_few found [] few = tt
each_few found (w ∷ ws) few =
    let a = length-map (filter (λ (p : ℕ × List ℕ). p.0 == w) found) numbered.record_at in
    let b = fewer (λ (p : ℕ × List ℕ). p.0 == w) found in
    (omega (arith, a, b, few), each_few found ws few)

module _ (numbers : List ℕ) (tuples : List (List ℕ)) (few : length tuples ≤ most) where
  pub trained_few : AreFew (trained numbers tuples)
  trained_few = let r = records_few numbers tuples in each_few (records numbers tuples) (numbered.windows_of (records numbers tuples)) (omega (arith, r, few))

  windows_few : length (trained numbers tuples) ≤ most
  windows_few =
      let found : List (ℕ × List ℕ) = records numbers tuples in
      let onto : ℕ → Window = λ w. (w, numbered.in_window w found) in
      let a = length-map (numbered.windows_of found) onto in
      let b = once_fewer nat_eq (map numbered.number_at found) in
      let c = length-map found numbered.number_at in
      let d = records_few numbers tuples in
      omega (arith, a, b, c, d, few)

-- ---- what a piece sees and sends

abbrev Few : Option (List (List ℕ)) → Type 0
Few None = Unit {0}
Few (Some tuples) = length tuples ≤ most

given_few : (given : List Window) → AreFew given → (w : ℕ) → Few (windows_of given w)
given_few [] h w = tt
given_few (g ∷ rest) h w = by_number (g.0 == w) (given_few rest h.1 w)
  where
    by_number : (b : Bool) → Few (windows_of rest w) → Few (cond b (Some g.1) (windows_of rest w))
    by_number true k = h.0
    by_number false k = k

answered_few : (query : TypedQuery) (bits : ℕ) (rows : List Row) (o : Option (List (List ℕ))) → Few o → Few (option_map (answered query bits rows) o)
answered_few query bits rows None h = tt
answered_few query bits rows (Some tuples) h = let a = fewer (is_in query.field bits (column_of query rows)) tuples in omega (arith, a, h)

seen_few : (query : TypedQuery) (windows : Windows) (front : List ℕ) (j w : ℕ) → Few (windows w) → Few (seen_at query windows front j w)
seen_few query windows front zero w h = h
seen_few query windows front (suc j) w h = answered_few query (slice_index front j) (before (refined_rows query windows front j) w) (windows w) h

passes_few : (query : TypedQuery) (entries : Option ℕ) (windows : Windows) (front : List ℕ) (j w : ℕ) → Few (windows w) → Few (passes_at query entries windows front j w)
passes_few query entries windows front zero w h = h
passes_few query entries windows front (suc j) w h = by_room (is_open entries (prefixes_before query windows front j w)) (seen_few query windows front (suc j) w h)
  where
    by_room : (b : Bool) → Few (seen_at query windows front (suc j) w) → Few (cond b (windows w) (seen_at query windows front (suc j) w))
    by_room true k = h
    by_room false k = k

sent_few : (query : TypedQuery) (b level depth : ℕ) (o : Setting) (seen : Option (List (List ℕ))) → length (branch_of query b).ops ≤ 12 → Few seen → sent_of query b level depth o seen ≤ 14 * most
sent_few query b level depth o None ops h = omega arith
sent_few query b level depth o (Some tuples) ops h =
    let rows = packet_rows query b level None tuples in
    let r = few_packets query b level None tuples in
    let k = items_few depth (size_at (branch_of query b).ops o.1) o.0 (map (op_at level) (branch_of query b).ops) rows (omega (arith, r, h)) in
    let m = length-map (branch_of query b).ops (op_at level) in
    omega (arith, k, m, ops)

-- at most twelve operators in each branch
abbrev pub HaveFewOps : List TypedQuery → Type 0
HaveFewOps queries = (q b : ℕ) → length (branch_of (query_at queries q) b).ops ≤ 12

sum_few : (f : Window → ℕ) (given : List Window) → ((g : Window) → f g ≤ 14 * most) → sum_by f given ≤ length given * (14 * most)
sum_few f [] h = omega arith
sum_few f (g ∷ gs) h = let one = sum_by-cons f g gs in let a = h g in let rest = sum_few f gs h in omega (arith, one, a, rest)

-- after the last query there is a blank one
blank_after : (queries : List TypedQuery) (q : ℕ) → length queries ≤ q → query_at queries q ≡ blank_query
blank_after [] q le = refl
blank_after (x ∷ xs) zero le = absurd (omega (arith, le))
blank_after (x ∷ xs) (suc q) le = blank_after xs q (omega (arith, le))

module _ (s : Switch) (switch : IsSwitch s) (window : ℕ) (queries : List TypedQuery) (typed : ∥ IsTyped window queries ∥₁) (ops : HaveFewOps queries) (numbers : List ℕ) (tuples : List (List ℕ)) (few : length tuples ≤ most)
    (alike : length numbers ≡ length tuples) (never : NeverFall numbers) where
  abbrev given : List Window
  given = trained numbers tuples

  -- without a query nothing is installed
  no_more : (n : ℕ) → n ≤ 14 * most → n + s.weight * 0 ≤ 14 * most
  no_more n le = omega (arith, le)

  none_installed : (prefix b : ℕ) (o : Setting) → ((w : ℕ) → sent_in blank_query s.entries (windows_of given) [] b s.chain o w ≤ 14 * most) → entry_count s.chain s.entries s.weight blank_query given prefix b o ≤ length given * (14 * most)
  none_installed prefix b o sends =
      sum_few (λ (g : Window). cost_in blank_query s.entries s.weight (windows_of given) [] b s.chain o g.0) given
      (λ g. no_more (sent_in blank_query s.entries (windows_of given) [] b s.chain o g.0) (sends g.0))

  pub entry_small : (q prefix b x : ℕ) → trained_entry s queries given q prefix b x ≤ 2 ^ 56
  entry_small q prefix b x =
      let o : Setting = option_at s (branch_at queries q b) x in
      let count = windows_few numbers tuples few in
      by_test (nat_lt q (length queries))
      (λ is.
      let most_cost = entry_most s.chain s.entries s.weight window q queries numbers tuples prefix b (14 * most) o typed (ltb-true q (length queries) is) alike never (sends q prefix b o) in
      let heavy : s.weight * length tuples ≤ s.weight * most = mul-le-mul_left s.weight few in
      let light = switch.weight.1 in
      omega (arith, most_cost, heavy, light, count))
      (λ isnt.
      let blank = blank_after queries q (ltb-false q (length queries) isnt) in
      let most_sent = subst (λ (y : TypedQuery). ((w : ℕ) → sent_in y s.entries (windows_of given) (front_of prefix y.levels) b s.chain o w ≤ 14 * most) → entry_count s.chain s.entries s.weight y given prefix b o ≤ length given * (14 * most)) (sym blank) (none_installed prefix b o) (sends q prefix b o) in
      omega (arith, most_sent, count))
    where
      sends : (q prefix b : ℕ) (o : Setting) (w : ℕ) → sent_in (query_at queries q) s.entries (windows_of given) (front_of prefix (query_at queries q).levels) b s.chain o w ≤ 14 * most
      sends q prefix b o w =
          let query : TypedQuery = query_at queries q in
          let front : List ℕ = front_of prefix query.levels in
          sent_few query b (slice_index front (length front - 1)) s.chain o (passes_at query s.entries (windows_of given) front (length front - 1) w) (ops q b)
          (passes_few query s.entries (windows_of given) front (length front - 1) w (given_few given (trained_few numbers tuples few) w))

  -- ---- bounds of partial plans, and trees of them

  module _ (readable : AreReadable queries) (few_queries : length queries ≤ 8) where
    abbrev plans : Space
    plans = trained_plans s queries given

    pub lower_small : (partial : List ℕ) → IsPartial plans partial → plans.lower partial < 2 ^ 64
    lower_small partial part = capped_small (plans.lower partial) (lower_fits s (trained_entry s queries given) entry_small queries partial readable few_queries part)
      where
        capped_small : (n : ℕ) → min n (2 ^ 64 - 1) ≡ n → n < 2 ^ 64
        capped_small n e = omega (arith, e)

    module _ (p : List ℕ) (part_p : IsPartial plans p) where
      mutual
        pub tree_small : (q : List ℕ) (tree : List Node) → Covers plans p q tree → IsPartial plans q → AllByRecursion IsSmall tree
        tree_small _ _ (broken q b) part = (tt, tt)
        tree_small _ _ chosen part = (lower_small p part_p, tt)
        tree_small _ _ (bound q h) part = (lower_small q part, tt)
        tree_small _ _ (expand q first count tree e all) part = (lower_small q part, trees_small (children plans q) tree all (λ child i. child_partial plans q child part i))

        trees_small : (qs : List (List ℕ)) (trees : List Node) → CoverAll plans p qs trees → ((q : List ℕ) → IsOneOf q qs → IsPartial plans q) → AllByRecursion IsSmall trees
        trees_small _ _ none parts = tt
        trees_small _ _ (each q qs tree trees one all) parts =
            all_append IsSmall tree trees (tree_small q tree one (parts q (inl refl))) (trees_small qs trees all (λ r i. parts r (inr i)))
