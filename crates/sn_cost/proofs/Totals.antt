-- The entries of a query, window by window.
use Rattle.std.proofs.Common.{◌≡◌, ℕ, ◌+◌, ◌*◌, ◌≤◌, ◌<◌, ◌^◌, List, [], ◌∷◌, length, slice_index, nat_eq, nat_lt, ap, sym, ◌∙◌, arith, Bool, true, false, refl}
use Rattle.std.proofs.Math.Nat.{mul-le-mul_right}
use Rattle.std.proofs.lemmas.Bool.{ltb-true}
use Rattle.std.proofs.lemmas.List.Sums.{sum_by-cons}
use Rattle.sn_switch.specs.declared.switch.Switch.{Switch}
use Rattle.sn_types.specs.declared.typed_query.TypedQuery.{TypedQuery}
use Rattle.sn_plan_choices.specs.declared.costs.CostTable.{CostTable}
use Rattle.sn_plan_choices.specs.Costs.{HasPlaces, IsPlace, entry_in}
use Rattle.sn_refine.specs.Refined.{Windows}
use Rattle.sn_windows.specs.Rising.{Window}
use Rattle.sn_cost.specs.Adding.{Adds, where_so}
use Rattle.sn_cost.specs.Entries.{front_of}
use Rattle.sn_cost.specs.Training.{added, at_front, of_window, window_counts}
use Rattle.sn_cost.proofs.Growing.{both_where, place_on}
use Rattle.sn_windows.specs.Blocks.{most_records}

four : (x y z v : Bool) (m n k : ℕ) → m + n ≡ k → where_so x (where_so y (where_so z (where_so v m))) + where_so x (where_so y (where_so z (where_so v n))) ≡ where_so x (where_so y (where_so z (where_so v k)))
four x y z v m n k e =
    both_where x (where_so y (where_so z (where_so v m))) (where_so y (where_so z (where_so v n)))
    ∙ ap (where_so x) (both_where y (where_so z (where_so v m)) (where_so z (where_so v n))
    ∙ ap (where_so y) (both_where z (where_so v m) (where_so v n) ∙ ap (where_so z) (both_where v m n ∙ ap (where_so v) e)))

nothing : (x y z v : Bool) → where_so x (where_so y (where_so z (where_so v 0))) ≡ 0
nothing true true true true = refl
nothing true true true false = refl
nothing true true false v = refl
nothing true false z v = refl
nothing false y z v = refl

where_most : (c d : Bool) (n m : ℕ) → (d ≡ true → n ≤ m) → where_so c (where_so d n) ≤ m
where_most true true n m le = le refl
where_most true false n m le = omega arith
where_most false d n m le = omega arith

module _ (s : Switch) (q : ℕ) (query : TypedQuery) (windows : Windows) where
  -- what these windows add
  abbrev pub more : List Window → ℕ → ℕ → ℕ → ℕ → ℕ
  more given q' prefix b option =
      where_so (nat_eq q q') (where_so (nat_lt prefix (2 ^ length query.levels)) (where_so (nat_lt 0 (length (front_of prefix query.levels)))
      (where_so (nat_lt b (length query.branches)) (added s query windows (front_of prefix query.levels) b option given))))

  pub none_more : (q' prefix b option : ℕ) → more [] q' prefix b option ≡ 0
  none_more q' prefix b option = nothing (nat_eq q q') (nat_lt prefix (2 ^ length query.levels)) (nat_lt 0 (length (front_of prefix query.levels))) (nat_lt b (length query.branches))

  -- After this many tuples: with what these windows add, the entries are those of all windows, and they are small. The prefixes that
  -- are kept are owed: they may cost something in the next window.
  pub record Counted (first : CostTable) (all rest : List Window) (done owed : ℕ) (table : CostTable) : Type 0 where
    pub left : (q' prefix b option : ℕ) → IsPlace first q' prefix b option → entry_in table q' prefix b option + more rest q' prefix b option ≡ entry_in first q' prefix b option + more all q' prefix b option
    pub places : (queries : ℕ) → HasPlaces first queries → HasPlaces table queries
    pub small : (prefix b option : ℕ) → IsPlace first q prefix b option → entry_in table q prefix b option + 65536 * owed ≤ done * (13 * most_records + 65536)

  pub next_window : (first table new : CostTable) (all rest : List Window) (g : Window) (done count owed next : ℕ) → s.weight ≤ 65536 → Counted first all (g ∷ rest) done owed table → 0 < count → next ≤ count
      → ((prefix b option : ℕ) → prefix < 2 ^ length query.levels → at_front s query windows g.0 prefix b option ≤ 13 * most_records + s.weight * owed)
      → Adds table new (of_window s q query windows g.0 (2 ^ length query.levels)) → Counted first all rest (done + count) next new
  next_window first table new all rest g done count owed next light so_far some few small adds = record {
    left = λ q' prefix b option p.
        let now = so_far.left q' prefix b option p in
        let grown = adds.grown q' prefix b option (place_on first table q' prefix b option so_far.places p) in
        let front : List ℕ = front_of prefix query.levels in
        let here : ℕ = slice_index (window_counts s query windows front b g.0) option in
        let later : ℕ = added s query windows front b option rest in
        let sum : here + later ≡ added s query windows front b option (g ∷ rest) = sym (sum_by-cons (λ (x : Window). slice_index (window_counts s query windows front b x.0) option) g rest) in
        let both = four (nat_eq q q') (nat_lt prefix (2 ^ length query.levels)) (nat_lt 0 (length front)) (nat_lt b (length query.branches)) here later (added s query windows front b option (g ∷ rest)) sum in
        omega (arith, now, grown, both);
    places = λ queries has. adds.places queries (so_far.places queries has);
    small = λ prefix b option p.
        let grown = adds.grown q prefix b option (place_on first table q prefix b option so_far.places p) in
        let before = so_far.small prefix b option p in
        let cost : ℕ = at_front s query windows g.0 prefix b option in
        let most = where_most (nat_eq q q) (nat_lt prefix (2 ^ length query.levels)) cost (13 * most_records + s.weight * owed) (λ is. small prefix b option (ltb-true prefix (2 ^ length query.levels) is)) in
        let paid = mul-le-mul_right owed light in
        omega (arith, grown, before, most, some, few, paid);
  }
