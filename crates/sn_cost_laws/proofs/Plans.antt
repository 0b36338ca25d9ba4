-- The cost of a plan is the number of items that its pieces send, and the weight for each prefix that is installed.
use Rattle.std.proofs.Common.{◌≡◌, mul-add, ℕ, suc, ◌+◌, ◌*◌, ◌<◌, List, [], ◌∷◌, ◌++◌, drop, length, map, sum, slice_get, unwrap_or, Option, Some, true, refl, ap, sym}
use Rattle.std.proofs.Common.{subst, ◌∙◌, arith}
use Rattle.std.specs.List.{AllByRecursion, sum_by}
use Rattle.std.proofs.lemmas.List.{length-take-le, map-append}
use Rattle.std.proofs.lemmas.List.Sums.{sum_by-append, sum_by-cons}
use Rattle.sn_plan_lists.specs.Chosen.{HasLevels, option_of}
use Rattle.sn_plan_lists.specs.Costs.{bits_of, entry_cost, is_upto, piece_cost, plan_cost}
use Rattle.sn_plan_lists.specs.Theorems.{HaveRisingNumbers}
use Rattle.sn_plan_lists.proofs.OptionNumbers.{number_of_option}
use Rattle.sn_plan_lists.proofs.Pieces.{GoodPiece, is_option}
use Rattle.sn_plan_lists.proofs.Readings.{good_entry}
use Rattle.sn_plan_choices.specs.Options.{Setting}
use Rattle.sn_cost.specs.Entries as cost
use Rattle.sn_cost.specs.Entries.{IsPiece, entry_count}
use Rattle.sn_engine_lockstep.specs.Windows.{piece_count}
use Rattle.sn_engine_lockstep.proofs.Apart.{levels_known, place_is}
use Rattle.sn_emit.specs.Plans.{Placed, pieces_from, placed, tables_of}
use Rattle.sn_plan_fit.specs.Fits.{AreEntriesOf, Fits, IsEntryOf, OnBranch, PieceFits, PiecesFit}
use Rattle.sn_plan_fit.specs.Paths.{is_among, place_in}
use Rattle.sn_plan_fit.specs.Pieces.{piece_branch}
use Rattle.sn_base.specs.Rising.{IsRising}
use Rattle.sn_plan_grammar.specs.declared.plan.Entry.{Entry}
use Rattle.sn_plan_grammar.specs.declared.plan.Piece.{Piece}
use Rattle.sn_cost_laws.specs.Sent.{cost_over, installed_over, piece_installed, sent_over}
use Rattle.sn_cost_laws.specs.Priced.{AreCounted}
use Rattle.sn_cost_laws.specs.Space.{trained_entry}
use Rattle.sn_cost_laws.proofs.Pieces.{drop_more, get_ahead}
use Rattle.sn_cost_laws.proofs.Fronts.{bits_below, front_is}
use Rattle.sn_cost_laws.proofs.Seeing.{piece_costs}
use Rattle.sn_refine.specs.Refined.{Windows}
use Rattle.sn_refine.specs.Steps.{windows_of}
use Rattle.sn_switch.specs.declared.switch.Switch.{Switch}
use Rattle.sn_types.specs.declared.typed_query.TypedBranch.{TypedBranch}
use Rattle.sn_types.specs.declared.typed_query.TypedQuery.{TypedQuery}
use Rattle.sn_types.specs.Typed.{blank_query, branch_of, query_at}
use Rattle.sn_windows.specs.Rising.{Window}
use Rattle.sn_base.proofs.Lists.{index_within}
use Rattle.sn_cost.proofs.Built.{sums_same}
use Rattle.sn_cost.proofs.Fees.{no_fee}
use Rattle.sn_emit.proofs.CountLaw.{sum-cons}

-- ---- sums

abbrev same : ℕ → ℕ
same n = n

sum_both : (ms ns : List ℕ) → sum (ms ++ ns) ≡ sum ms + sum ns
sum_both ms ns = sum_by-append same ms ns

sums_none : {X : Type 0} (xs : List X) → sum_by (λ x. 0) xs ≡ 0
sums_none [] = refl
sums_none (x ∷ xs) = sum_by-cons (λ y. 0) x xs ∙ ap (λ n. 0 + n) (sums_none xs)

sums_two : {X : Type 0} (f g h : X → ℕ) → ((x : X) → h x ≡ f x + g x) → (xs : List X) → sum_by f xs + sum_by g xs ≡ sum_by h xs
sums_two f g h e [] = refl
sums_two f g h e (x ∷ xs) =
    let one = sum_by-cons f x xs in
    let two = sum_by-cons g x xs in
    let both = sum_by-cons h x xs in
    let rest = sums_two f g h e xs in
    let here = e x in
    omega (arith, one, two, both, rest, here)

sums_times : {X : Type 0} (n : ℕ) (f : X → ℕ) (xs : List X) → sum_by (λ x. n * f x) xs ≡ n * sum_by f xs
sums_times n f [] = sym (no_fee n)
sums_times n f (x ∷ xs) =
    sum_by-cons (λ y. n * f y) x xs ∙ ap (λ m. n * f x + m) (sums_times n f xs)
    ∙ sym (mul-add n (f x) (sum_by f xs)) ∙ ap (λ m. n * m) (sym (sum_by-cons f x xs))

-- numbers each with another that many times, one after another
sum_each : {X : Type 0} (n : ℕ) (f g : X → ℕ) (xs : List X) → sum (map (λ x. f x + n * g x) xs) ≡ sum (map f xs) + n * sum (map g xs)
sum_each n f g [] = let none : 0 + n * 0 ≡ 0 = omega arith in sym none
sum_each n f g (x ∷ xs) =
    let one : sum (map (λ y. f y + n * g y) (x ∷ xs)) ≡ f x + n * g x + sum (map (λ y. f y + n * g y) xs) = sum-cons (f x + n * g x) (map (λ y. f y + n * g y) xs) in
    let a : sum (map f (x ∷ xs)) ≡ f x + sum (map f xs) = sum-cons (f x) (map f xs) in
    let b : n * sum (map g (x ∷ xs)) ≡ n * g x + n * sum (map g xs) = ap (λ m. n * m) (sum-cons (g x) (map g xs)) ∙ mul-add n (g x) (sum (map g xs)) in
    let rest = sum_each n f g xs in
    omega (arith, one, a, b, rest)

-- ---- a plan

module _ (s : Switch) (queries : List TypedQuery) (given : List Window) (entry : ℕ → ℕ → ℕ → ℕ → ℕ) (counted : AreCounted s queries given entry) where
  abbrev windows : Windows
  windows = windows_of given

  abbrev piece_total : ℕ → Placed → ℕ
  piece_total w x = piece_count queries (tables_of s) windows w x + s.weight * piece_installed s queries windows w x

  abbrev costs : List Placed → ℕ → ℕ
  costs xs w = sum (map (piece_total w) xs)

  piece_priced : (n : ℕ) (e : Entry) (p : Piece) → n < length queries → IsRising (query_at queries n).levels → IsEntryOf (query_at queries n) e → GoodPiece s (query_at queries n) e.levels p → is_among e.levels p.level ≡ true
      → piece_cost s entry n (query_at queries n) e.levels p ≡ sum_by (λ (g : Window). piece_total g.0 (placed n e.levels p)) given
  piece_priced n e p lt rising is good among =
      let query : TypedQuery = query_at queries n in
      let branch : TypedBranch = branch_of query p.branch in
      let o : Setting = (p.cut, p.slots) in
      let prefix : ℕ = bits_of (is_upto e.levels p.level) query.levels in
      let at = place_is e.levels p.level among in
      let j : ℕ = place_in e.levels p.level in
      let front = front_is query.levels e.levels p.level j rising is.path.rising is.path.known at.within at.is in
      let long = ap length front ∙ length-take-le (suc j) e.levels (omega (arith, at.within)) in
      let option = number_of_option s branch o (is_option s query e.levels p good) in
      let piece : IsPiece s queries n prefix p.branch (option_of s query p) = record {
        of_query = lt;
        of_levels = bits_below (is_upto e.levels p.level) query.levels;
        some_level = omega (arith, long);
        of_branch = index_within query.branches p.branch branch good.known;
        of_option = option.0;
      } in
      counted n prefix p.branch (option_of s query p) piece
      ∙ ap (λ (x : Setting). entry_count s.chain s.entries s.weight query given prefix p.branch x) option.1
      ∙ sums_same (λ (g : Window). cost.cost_in query s.entries s.weight windows (cost.front_of prefix query.levels) p.branch s.chain o g.0) (λ (g : Window). piece_total g.0 (placed n e.levels p))
      (λ g. piece_costs s queries n windows e.levels (cost.front_of prefix query.levels) p g.0 among front) given

  pieces_priced : (n : ℕ) (e : Entry) (ps : List Piece) → n < length queries → IsRising (query_at queries n).levels → IsEntryOf (query_at queries n) e → AllByRecursion (GoodPiece s (query_at queries n) e.levels) ps
      → AllByRecursion (λ p. is_among e.levels p.level ≡ true) ps → sum_by (piece_cost s entry n (query_at queries n) e.levels) ps ≡ sum_by (λ (g : Window). costs (map (placed n e.levels) ps) g.0) given
  pieces_priced n e [] lt rising is good among = sym (sums_none given)
  pieces_priced n e (p ∷ ps) lt rising is good among =
      let query : TypedQuery = query_at queries n in
      let one = sum_by-cons (piece_cost s entry n query e.levels) p ps in
      let here = piece_priced n e p lt rising is good.0 among.0 in
      let rest = pieces_priced n e ps lt rising is good.1 among.1 in
      let both = sums_two (λ (g : Window). piece_total g.0 (placed n e.levels p)) (λ (g : Window). costs (map (placed n e.levels) ps) g.0) (λ (g : Window). costs (map (placed n e.levels) (p ∷ ps)) g.0)
      (λ g. sum-cons (piece_total g.0 (placed n e.levels p)) (map (piece_total g.0) (map (placed n e.levels) ps))) given in
      one ∙ ap (λ (m : ℕ). m + sum_by (piece_cost s entry n query e.levels) ps) here
      ∙ ap (λ (m : ℕ). sum_by (λ (g : Window). piece_total g.0 (placed n e.levels p)) given + m) rest ∙ both

  entry_priced : (n : ℕ) (q : TypedQuery) (e : Entry) → query_at queries n ≡ q → n < length queries → IsRising q.levels → IsEntryOf q e → AllByRecursion (λ p. OnBranch (λ b. PieceFits s e.levels b p) (piece_branch q p)) e.pieces
      → entry_cost s entry n q e ≡ sum_by (λ (g : Window). costs (map (placed n e.levels) e.pieces) g.0) given
  entry_priced n q e at lt =
      subst (λ (x : TypedQuery). IsRising x.levels → IsEntryOf x e → AllByRecursion (λ p. OnBranch (λ b. PieceFits s e.levels b p) (piece_branch x p)) e.pieces
      → entry_cost s entry n x e ≡ sum_by (λ (g : Window). costs (map (placed n e.levels) e.pieces) g.0) given) at
      (λ rising is fits. pieces_priced n e e.pieces lt rising is (good_entry s (query_at queries n) e is fits).good (levels_known (query_at queries n) e is))

  entries_priced : (n : ℕ) (qs : List TypedQuery) (es : List Entry) → drop n queries ≡ qs → AllByRecursion HasLevels qs → AreEntriesOf qs es → PiecesFit (PieceFits s) qs es
      → plan_cost s entry n qs es ≡ sum_by (λ (g : Window). costs (pieces_from n es) g.0) given
  entries_priced n [] [] at levels are fit = sym (sums_none given)
  entries_priced n [] (e ∷ es) at levels are fit = absurd are
  entries_priced n (q ∷ qs) [] at levels are fit = absurd are
  entries_priced n (q ∷ qs) (e ∷ es) at levels are fit =
      let here : slice_get queries n ≡ Some q = get_ahead queries n q qs at in
      let lt : n < length queries = index_within queries n q here in
      let next : suc n ≡ n + 1 = omega arith in
      let one = entry_priced n q e (ap (λ (x : Option TypedQuery). unwrap_or x blank_query) here) lt levels.0.rising are.0 fit.0 in
      let rest : plan_cost s entry (n + 1) qs es ≡ sum_by (λ (g : Window). costs (pieces_from (suc n) es) g.0) given =
      ap (λ (m : ℕ). plan_cost s entry m qs es) (sym next) ∙ entries_priced (suc n) qs es (drop_more queries n q qs at) levels.1 are.1 fit.1 in
      let own : List Placed = map (placed n e.levels) e.pieces in
      let both = sums_two (λ (g : Window). costs own g.0) (λ (g : Window). costs (pieces_from (suc n) es) g.0) (λ (g : Window). costs (pieces_from n (e ∷ es)) g.0)
      (λ g. ap sum (map-append (piece_total g.0) own (pieces_from (suc n) es))
      ∙ sum_both (map (piece_total g.0) own) (map (piece_total g.0) (pieces_from (suc n) es))) given in
      ap (λ (m : ℕ). m + plan_cost s entry (n + 1) qs es) one
      ∙ ap (λ (m : ℕ). sum_by (λ (g : Window). costs own g.0) given + m) rest ∙ both

  -- the items and the prefixes apart
  both_apart : (xs : List Placed) → sum_by (λ (g : Window). costs xs g.0) given
      ≡ sum_by (λ (g : Window). sum (map (piece_count queries (tables_of s) windows g.0) xs)) given + s.weight * sum_by (λ (g : Window). sum (map (piece_installed s queries windows g.0) xs)) given
  both_apart xs =
      let items : Window → ℕ = λ g. sum (map (piece_count queries (tables_of s) windows g.0) xs) in
      let held : Window → ℕ = λ g. sum (map (piece_installed s queries windows g.0) xs) in
      sym (sums_two items (λ g. s.weight * held g) (λ (g : Window). costs xs g.0) (λ g. sum_each s.weight (piece_count queries (tables_of s) windows g.0) (piece_installed s queries windows g.0) xs) given)
      ∙ ap (λ (m : ℕ). sum_by items given + m) (sums_times s.weight held given)

-- the cost of a plan that fits is the number of items that its pieces send over the windows, and the weight for each prefix that is installed
pub plan_priced : (s : Switch) (queries : List TypedQuery) (given : List Window) (entry : ℕ → ℕ → ℕ → ℕ → ℕ) (entries : List Entry) → HaveRisingNumbers s queries → AreCounted s queries given entry
    → Fits queries s entries → plan_cost s entry 0 queries entries ≡ cost_over s queries entries given
plan_priced s queries given entry entries rising counted fits =
    entries_priced s queries given entry counted 0 queries entries refl rising.levels fits.paths fits.pieces ∙ both_apart s queries given entry counted (pieces_from 0 entries)

-- over the windows themselves
pub trained_priced : (s : Switch) (queries : List TypedQuery) (given : List Window) (entries : List Entry) → HaveRisingNumbers s queries → Fits queries s entries
    → plan_cost s (trained_entry s queries given) 0 queries entries ≡ cost_over s queries entries given
trained_priced s queries given entries rising fits = plan_priced s queries given (trained_entry s queries given) entries rising (λ q prefix b n is. refl) fits

pub no_weight : (n : ℕ) → 0 * n ≡ 0
no_weight n = omega arith

-- with weight 0 it is the number of items
pub unweighted_cost : (s : Switch) (queries : List TypedQuery) (given : List Window) (entries : List Entry) → s.weight ≡ 0 → cost_over s queries entries given ≡ sent_over s queries entries given
unweighted_cost s queries given entries light =
    let none : s.weight * installed_over s queries entries given ≡ 0 = ap (λ (n : ℕ). n * installed_over s queries entries given) light ∙ no_weight (installed_over s queries entries given) in
    omega (arith, none)
