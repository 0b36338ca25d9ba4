-- The entries of a table, query by query.
use Rattle.std.proofs.Common.{◌≡◌, ℕ, zero, suc, ◌+◌, ◌-◌, ◌*◌, ◌≤◌, ◌<◌, ◌^◌, List, [], ◌∷◌, length, length-append, map, take, slice_index, nat_eq, nat_lt}
use Rattle.std.proofs.Common.{Option, None, Some, refl, ap, sym, ◌∙◌, arith}
use Rattle.std.specs.Prelude.{slice_get, unwrap_or}
use Rattle.std.specs.List.{flat_map, range_with_len, sum_by}
use Rattle.std.proofs.lemmas.Bool.{lt-ltb}
use Rattle.std.proofs.lemmas.List.{length-map}
use Rattle.std.proofs.lemmas.List.Sums.{sum_by-cons}
use Rattle.sn_switch.specs.declared.switch.Switch.{Switch}
use Rattle.sn_switch.specs.Texts.{IsSwitch}
use Rattle.sn_types.specs.declared.typed_query.TypedBranch.{TypedBranch}
use Rattle.sn_types.specs.declared.typed_query.TypedQuery.{TypedQuery}
use Rattle.sn_types.specs.Cuts.{stateful}
use Rattle.sn_types.specs.Typed.{IsTyped, branch_at, branch_of, query_at}
use Rattle.sn_types.proofs.Facts.{few_branches}
use Rattle.sn_plan_choices.specs.declared.costs.CostTable.{CostTable}
use Rattle.sn_plan_choices.specs.Costs.{HasPlaces, IsPlace, entry_in}
use Rattle.sn_plan_choices.specs.Options.{option_at, options, size_lists}
use Rattle.sn_plan_choices.specs.Settings.{IsNarrow}
use Rattle.sn_plan_choices.proofs.Narrow.{typed_narrow}
use Rattle.sn_plan_choices.proofs.OptionLists.{of_cut, one_size, pair, two_sizes}
use Rattle.sn_cost_counts.specs.Counts.{setting_count}
use Rattle.sn_ops.specs.Packets.{packet_rows}
use Rattle.sn_refine.specs.Passes.{passes_at}
use Rattle.sn_refine.specs.Refined.{Windows}
use Rattle.sn_refine.specs.Steps.{windows_of}
use Rattle.sn_cost.specs.Adding.{Adds, where_so}
use Rattle.sn_cost.specs.Entries.{IsPiece, cost_in, entry_count, front_of, installed_in, sent_of}
use Rattle.sn_cost.specs.Training.{IsFresh, added, at_prefix, counts_in, of_fronts, of_queries, window_counts}
use Rattle.sn_cost.proofs.Paths.{few_fronts, four_levels}
use Rattle.sn_cost.proofs.Growing.{fee_within, next_where, none_where}
use Rattle.sn_windows.specs.Rising.{Window}
use Rattle.sn_base.proofs.Tests.{not_less}

-- ---- a piece has few options

square : (n : ℕ) → n ≤ 4 → n * n ≤ 16
square zero le = omega arith
square (suc zero) le = omega arith
square (suc (suc zero)) le = omega arith
square (suc (suc (suc zero))) le = omega arith
square (suc (suc (suc (suc zero)))) le = omega arith
square (suc (suc (suc (suc (suc n))))) le = absurd (omega (arith, le))

few_lists : (sizes : List ℕ) (count : ℕ) → length sizes ≤ 4 → count ≤ 2 → length (size_lists sizes count) ≤ 16
few_lists sizes zero le two = omega arith
few_lists sizes (suc zero) le two = let e = one_size sizes in omega (arith, e, le)
few_lists sizes (suc (suc zero)) le two = let e = two_sizes sizes in let most = square (length sizes) le in omega (arith, e, most)
few_lists sizes (suc (suc (suc n))) le two = absurd (omega (arith, two))

few_cuts : (s : Switch) (b : TypedBranch) → length s.slots ≤ 4 → IsNarrow b → (count cut : ℕ) → cut + count ≤ b.max_cut + 1 → length (flat_map (of_cut s b) (range_with_len cut count)) ≤ 16 * count
few_cuts s b le narrow zero cut within = omega arith
few_cuts s b le narrow (suc count) cut within =
    let lists : List (List ℕ) = size_lists s.slots (stateful (take cut b.ops)) in
    let here : length lists ≤ 16 = few_lists s.slots (stateful (take cut b.ops)) le (narrow.few cut (omega (arith, within))) in
    let mapped : length (of_cut s b cut) ≡ length lists = length-map lists (pair cut) in
    let rest = few_cuts s b le narrow count (cut + 1) (omega (arith, within)) in
    let all : length (flat_map (of_cut s b) (range_with_len cut (suc count))) ≡ length (of_cut s b cut) + length (flat_map (of_cut s b) (range_with_len (cut + 1) count)) =
    length-append (of_cut s b cut) (flat_map (of_cut s b) (range_with_len (cut + 1) count)) in
    omega (arith, here, mapped, rest, all)

few_options : (s : Switch) (b : TypedBranch) → IsSwitch s → IsNarrow b → length (options s b) ≤ 208
few_options s b switch narrow =
    let few : length (options s b) ≤ 16 * (b.max_cut + 1) = few_cuts s b switch.slots.most narrow (b.max_cut + 1) 0 (omega arith) in
    omega (arith, few, narrow.cut)

-- ---- what a window adds is what the piece costs

mapped_at : {X : Type 0} (f : X → ℕ) (d : X) (xs : List X) (n : ℕ) → n < length xs → slice_index (map f xs) n ≡ f (unwrap_or (slice_get xs n) d)
mapped_at f d [] n lt = absurd (omega (arith, lt))
mapped_at f d (x ∷ xs) zero lt = refl
mapped_at f d (x ∷ xs) (suc n) lt = mapped_at f d xs n (omega (arith, lt))

pub sums_same : {X : Type 0} (f g : X → ℕ) → ((x : X) → f x ≡ g x) → (xs : List X) → sum_by f xs ≡ sum_by g xs
sums_same f g e [] = refl
sums_same f g e (x ∷ xs) = sum_by-cons f x xs ∙ ap (λ n. n + sum_by f xs) (e x) ∙ ap (λ n. g x + n) (sums_same f g e xs) ∙ sym (sum_by-cons g x xs)

sent_seen : (s : Switch) (query : TypedQuery) (b level n : ℕ) (passing : Option (List (List ℕ))) → n < length (options s (branch_of query b))
    → slice_index (counts_in s query b level passing) n ≡ sent_of query b level s.chain (option_at s (branch_of query b) n) passing
sent_seen s query b level n None lt = mapped_at (λ o. 0) (0, []) (options s (branch_of query b)) n lt
sent_seen s query b level n (Some passing) lt =
    mapped_at (setting_count (branch_of query b) level s.chain (packet_rows query b level None passing)) (0, []) (options s (branch_of query b)) n lt

counts_long : (s : Switch) (query : TypedQuery) (b level : ℕ) (passing : Option (List (List ℕ))) → length (counts_in s query b level passing) ≡ length (options s (branch_of query b))
counts_long s query b level None = length-map (options s (branch_of query b)) (λ o. 0)
counts_long s query b level (Some passing) = length-map (options s (branch_of query b)) (setting_count (branch_of query b) level s.chain (packet_rows query b level None passing))

cost_seen : (s : Switch) (query : TypedQuery) (windows : Windows) (front : List ℕ) (b n w : ℕ) → n < length (options s (branch_of query b))
    → slice_index (window_counts s query windows front b w) n ≡ cost_in query s.entries s.weight windows front b s.chain (option_at s (branch_of query b) n) w
cost_seen s query windows front b n w lt =
    let last : ℕ = length front - 1 in
    let level : ℕ = slice_index front last in
    let passing : Option (List (List ℕ)) = passes_at query s.entries windows front last w in
    let fee : ℕ = s.weight * installed_in query s.entries windows front last w in
    let long = counts_long s query b level passing in
    fee_within fee (counts_in s query b level passing) n (omega (arith, long, lt)) ∙ ap (λ m. m + fee) (sent_seen s query b level n passing lt)

counted_sent : (s : Switch) (query : TypedQuery) (given : List Window) (prefix b n : ℕ) → n < length (options s (branch_of query b))
    → added s query (windows_of given) (front_of prefix query.levels) b n given ≡ entry_count s.chain s.entries s.weight query given prefix b (option_at s (branch_of query b) n)
counted_sent s query given prefix b n lt =
    let windows : Windows = windows_of given in
    let front : List ℕ = front_of prefix query.levels in
    sums_same (λ (g : Window). slice_index (window_counts s query windows front b g.0) n) (λ (g : Window). cost_in query s.entries s.weight windows front b s.chain (option_at s (branch_of query b) n) g.0)
    (λ g. cost_seen s query windows front b n g.0 lt) given

-- ---- query by query

module _ (s : Switch) (queries : List TypedQuery) (given : List Window) where
  -- the entries of a table where this many queries are counted
  pub record BuiltTo (n : ℕ) (table : CostTable) : Type 0 where
    pub places : HasPlaces table (length queries)
    pub entries : (q prefix b option : ℕ) → q < length queries → prefix < 16 → b < 2 → option < 256 → entry_in table q prefix b option ≡ of_queries s queries n given q prefix b option

  place_in : (table : CostTable) (q prefix b option : ℕ) → HasPlaces table (length queries) → q < length queries → prefix < 16 → b < 2 → option < 256 → IsPlace table q prefix b option
  place_in table q prefix b option places lt of_prefix of_branch of_option = record { of_query = omega (arith, places, lt); of_prefix = of_prefix; of_branch = of_branch; of_option = of_option }

  abbrev at_query : ℕ → ℕ → ℕ → ℕ → ℕ
  at_query prefix b option q = where_so (nat_lt prefix (2 ^ length (query_at queries q).levels)) (at_prefix s (query_at queries q) given prefix b option)

  pub none_built : (table : CostTable) → HasPlaces table (length queries) → ((q prefix b option : ℕ) → entry_in table q prefix b option ≡ 0) → BuiltTo 0 table
  none_built table places fresh = record { places = places; entries = λ q prefix b option lt l m n. fresh q prefix b option ∙ sym (none_where q (at_query prefix b option q)) }

  pub next_built : (table new : CostTable) (n : ℕ) → BuiltTo n table → Adds table new (of_fronts s n (query_at queries n) (2 ^ length (query_at queries n).levels) given) → BuiltTo (n + 1) new
  next_built table new n so_far adds = record {
    places = adds.places (length queries) so_far.places;
    entries = λ q prefix b option lt of_prefix of_branch of_option.
        adds.grown q prefix b option (place_in table q prefix b option so_far.places lt of_prefix of_branch of_option)
        ∙ ap (λ m. m + where_so (nat_eq n q) (at_query prefix b option n)) (so_far.entries q prefix b option lt of_prefix of_branch of_option)
        ∙ next_where (at_query prefix b option) q n;
  }

  -- the entries of the next query are 0 still
  pub query_fresh : (table : CostTable) (n : ℕ) → n < length queries → BuiltTo n table → (prefix : ℕ) → IsFresh table n prefix
  query_fresh table n lt so_far prefix = λ b option p.
      so_far.entries n prefix b option lt p.of_prefix p.of_branch p.of_option ∙ ap (λ c. where_so c (at_query prefix b option n)) (not_less n n (omega arith))

  -- the table of all queries holds what each piece costs
  pub all_built : (window n : ℕ) (table : CostTable) → ∥ IsTyped window queries ∥₁ → IsSwitch s → length queries ≤ n → BuiltTo n table
      → (q prefix b o : ℕ) → IsPiece s queries q prefix b o → entry_in table q prefix b o ≡ entry_count s.chain s.entries s.weight (query_at queries q) given prefix b (option_at s (branch_at queries q b) o)
  all_built window n table t switch le so_far q prefix b o piece =
      let query : TypedQuery = query_at queries q in
      let front : List ℕ = front_of prefix query.levels in
      let counted : ℕ = added s query (windows_of given) front b o given in
      let branches = few_branches window queries q t piece.of_query in
      let fronts = few_fronts query.levels (four_levels window queries q t piece.of_query) in
      let options = few_options s (branch_at queries q b) switch (typed_narrow window queries q b t piece.of_query piece.of_branch) in
      so_far.entries q prefix b o piece.of_query (omega (arith, fronts, piece.of_levels)) (omega (arith, branches, piece.of_branch)) (omega (arith, options, piece.of_option))
      ∙ ap (λ c. where_so c (where_so (nat_lt prefix (2 ^ length query.levels)) (at_prefix s query given prefix b o))) (lt-ltb q n (omega (arith, le, piece.of_query)))
      ∙ ap (λ c. where_so c (at_prefix s query given prefix b o)) (lt-ltb prefix (2 ^ length query.levels) piece.of_levels)
      ∙ ap (λ c. where_so c (where_so (nat_lt b (length query.branches)) counted)) (lt-ltb 0 (length front) piece.some_level)
      ∙ ap (λ c. where_so c counted) (lt-ltb b (length query.branches) piece.of_branch)
      ∙ counted_sent s query given prefix b o piece.of_option
