-- What the last level of a front sends and answers in the next window.
use Rattle.std.proofs.Common.{◌≡◌, ℕ, ◌-◌, ◌*◌, ◌≤◌, ◌<◌, ◌^◌, List, [], ◌∷◌, ◌++◌, length, nat_eq, nat_lt, slice_index, true, Option, None, Some, refl, ap, sym, subst, ◌∙◌, arith}
use Rattle.std.proofs.Math.Nat.{mul-le-mul_left}
use Rattle.std.proofs.Math.Pow.{pow_mono}
use Rattle.std.proofs.lemmas.Bool.{eqb-true, false≢true}
use Rattle.std.specs.FinSet as set
use Rattle.sn_base.specs.Sorted.{sorted_rows}
use Rattle.sn_ops.specs.Plain.{query_rows}
use Rattle.sn_ops.specs.declared.packets.Kept.{Kept}
use Rattle.sn_plan_choices.specs.declared.costs.CostTable.{CostTable}
use Rattle.sn_refine.specs.Passes.{passes_at}
use Rattle.sn_refine.specs.Refined.{Windows, refined_rows}
use Rattle.sn_refine.specs.Steps.{Sees, Set, prefixes_of}
use Rattle.sn_refine.proofs.Levels.{sees_refined}
use Rattle.sn_refine.proofs.Windows.{no_prefixes}
use Rattle.sn_switch.specs.declared.switch.Switch.{Switch}
use Rattle.sn_types.specs.declared.typed_query.TypedQuery.{TypedQuery}
use Rattle.sn_cost.specs.Adding.{Adds, AreSmall, kept_counts, of_branches, with_fee}
use Rattle.sn_cost.specs.Entries.{front_of, installed_in}
use Rattle.sn_cost.specs.Training.{AddsFront, IsKept, IsNext, admitted, answered_by, counts_in, fee_of, kept_size, sees_nothing, window_counts}
use Rattle.sn_cost.proofs.Bits.{front_is, last_is, one_longer, rest_lt, top_lt}
use Rattle.sn_cost.proofs.Fees.{fee_kept, most_at, size_kept}
use Rattle.sn_cost.proofs.Growing.{adds_none, fee_most, small_at, zeros}
use Rattle.sn_cost.proofs.Nothing.{nothing_answered, nothing_costs, nothing_small}
use Rattle.sn_cost.proofs.Seeing.{same_counts, same_fee, sees_after}
use Rattle.sn_windows.specs.Rising.{IsAbove}

module _ (s : Switch) (q : ℕ) (query : TypedQuery) (m top : ℕ) (low : 2 ^ top ≤ m) (high : m < 2 * 2 ^ top) (within : m < 2 ^ length query.levels) (last : Option ℕ) (sets : List Set) (w : ℕ) (tuples : List (List ℕ)) (o : Option Kept)
    (above : IsAbove last w) (kept : IsKept query.levels last sets w (m - 2 ^ top) o) where
  abbrev level : ℕ
  level = slice_index query.levels top

  abbrev rest : List ℕ
  rest = front_of (m - 2 ^ top) query.levels

  abbrev path : List ℕ
  path = rest ++ level ∷ []

  path_is : front_of m query.levels ≡ path
  path_is = front_is m top query.levels low high within

  place_is : length path - 1 ≡ length rest
  place_is = let e = one_longer rest level in omega (arith, e)

  sees : (windows : Windows) → IsNext query windows last sets w tuples → Sees query windows path (length rest) w o
  sees windows next =
      let top_less = top_lt m top query.levels low high within in
      let rest_less = rest_lt m top query.levels low high within in
      let coarser : top ≤ length query.levels - 1 = omega (arith, top_less) in
      let most : 2 ^ top ≤ 2 ^ (length query.levels - 1) = pow_mono coarser in
      sees_after query windows last sets w tuples above next (m - 2 ^ top) level o (omega (arith, rest_less, low, within)) (λ some. omega (arith, rest_less, most)) kept

  abbrev installed : Option Kept
  installed = admitted s.entries o

  abbrev costs : ℕ → List ℕ
  costs b = with_fee (fee_of s installed) (kept_counts s query level installed tuples b)

  same_costs : (windows : Windows) → IsNext query windows last sets w tuples → (b : ℕ) → costs b ≡ window_counts s query windows (front_of m query.levels) b w
  same_costs windows next b =
      let seen : Sees query windows path (length rest) w o = sees windows next in
      let counted : ℕ → ℕ → List ℕ = λ place bits. with_fee (s.weight * installed_in query s.entries windows path place w) (counts_in s query b bits (passes_at query s.entries windows path place w)) in
      ap (λ fee. with_fee fee (kept_counts s query level installed tuples b)) (same_fee s query windows path w tuples next.holds (length rest) o seen)
      ∙ ap (with_fee (s.weight * installed_in query s.entries windows path (length rest) w)) (sym (same_counts s query windows path w tuples next.holds level b (length rest) o seen))
      ∙ sym (ap (λ bits. counted (length rest) bits) (last_is rest level))
      ∙ sym (ap (λ place. counted place (slice_index path (length path - 1))) place_is)
      ∙ sym (ap (λ xs. window_counts s query windows xs b w) path_is)

  pub front_adds : (old new : CostTable) (found : ℕ) → found ≡ level
      → Adds old new (of_branches q m (length query.branches) (λ b. with_fee (fee_of s installed) (kept_counts s query found installed tuples b))) → ((b : ℕ) → b < length query.branches → AreSmall (kept_counts s query found installed tuples b))
      → AddsFront s q query m last sets w tuples old new
  front_adds old new found is adds all_small = record {
    counts = costs;
    adds = subst (λ bits. Adds old new (of_branches q m (length query.branches) (λ b. with_fee (fee_of s installed) (kept_counts s query bits installed tuples b)))) is adds;
    small = λ most few b option lt.
        let counts : List ℕ = kept_counts s query level installed tuples b in
        let with = fee_most (fee_of s installed) counts option in
        let count = small_at counts option (subst (λ bits. AreSmall (kept_counts s query bits installed tuples b)) is (all_small b lt)) in
        let fee = fee_kept s o in
        let size = size_kept query.levels last sets w (m - 2 ^ top) o kept in
        let all = most_at most sets (m - 2 ^ top) few in
        let most_fee : s.weight * kept_size o ≤ s.weight * most = mul-le-mul_left s.weight (omega (arith, size, all)) in
        omega (arith, with, count, fee, most_fee);
    exact = same_costs;
  }

  -- what it answers is what the front answers
  pub front_answers : (windows : Windows) → IsNext query windows last sets w tuples → prefixes_of query (sorted_rows (query_rows query level o tuples)) ≡ answered_by query windows m w
  front_answers windows next =
      let seen : Sees query windows path (length rest) w o = sees windows next in
      let at : slice_index path (length rest) ≡ level = sym (ap (slice_index path) place_is) ∙ last_is rest level in
      sym (ap (λ bits. prefixes_of query (sorted_rows (query_rows query bits o tuples))) at)
      ∙ ap (prefixes_of query) (sees_refined query windows path (length rest) w o tuples next.holds seen)
      ∙ sym (ap (λ place. prefixes_of query (refined_rows query windows path place w)) place_is)
      ∙ sym (ap (λ xs. prefixes_of query (refined_rows query windows xs (length xs - 1) w)) path_is)

  -- ---- where no prefix is kept

  no_costs : (x : Option Kept) → sees_nothing x ≡ true → (b option : ℕ) → slice_index (with_fee (fee_of s (admitted s.entries x)) (kept_counts s query level (admitted s.entries x) tuples b)) option ≡ 0
  no_costs None e b option = absurd (false≢true e)
  no_costs (Some k) e b option = nothing_costs query level k tuples (eqb-true (set.len k.members.now) 0 e) s b option

  small_costs : (x : Option Kept) → sees_nothing x ≡ true → (b : ℕ) → AreSmall (kept_counts s query level (admitted s.entries x) tuples b)
  small_costs None e b = absurd (false≢true e)
  small_costs (Some k) e b = nothing_small query level k tuples (eqb-true (set.len k.members.now) 0 e) s b

  no_answers : (x : Option Kept) → sees_nothing x ≡ true → sorted_rows (query_rows query level x tuples) ≡ []
  no_answers None e = absurd (false≢true e)
  no_answers (Some k) e = nothing_answered query level k tuples (eqb-true (set.len k.members.now) 0 e)

  pub nothing_adds : (table : CostTable) → sees_nothing o ≡ true → AddsFront s q query m last sets w tuples table table
  nothing_adds table e =
      front_adds table table level refl
      (adds_none table (of_branches q m (length query.branches) costs) (λ q' prefix b option. zeros (nat_eq q q') (nat_eq m prefix) (nat_lt b (length query.branches)) (slice_index (costs b) option) (no_costs o e b option)))
      (λ b lt. small_costs o e b)

  pub nothing_answers : sees_nothing o ≡ true → (windows : Windows) → IsNext query windows last sets w tuples → set.empty ≡ answered_by query windows m w
  nothing_answers e windows next = no_prefixes query (sorted_rows (query_rows query level o tuples)) (no_answers o e) ∙ front_answers windows next
