-- What passes at the last level of a front, and what is installed, in the next window.
use Rattle.std.proofs.Common.{◌≡◌, ℕ, zero, suc, ◌-◌, ◌*◌, ◌<◌, ◌^◌, List, [], ◌∷◌, ◌++◌, Bool, cond, filter, length, slice_get, slice_index, unwrap_or, Option, None, Some, ap, sym, subst, ◌∙◌, arith}
use Rattle.std.specs.FinSet as set
use Rattle.std.specs.Option.{option_map}
use Rattle.sn_base.proofs.Lists.{by_test}
use Rattle.sn_engine_split.specs.Opened.{is_open}
use Rattle.sn_switch.specs.declared.switch.Switch.{Switch}
use Rattle.sn_types.specs.declared.typed_query.TypedQuery.{TypedQuery}
use Rattle.sn_types.specs.Typed.{branch_of}
use Rattle.sn_cost_counts.specs.Counts.{counts_of}
use Rattle.sn_ops.specs.Packets.{packet_rows}
use Rattle.sn_ops.specs.declared.packets.Kept.{Kept}
use Rattle.sn_refine.specs.Passes.{passes_at, prefixes_before}
use Rattle.sn_refine.specs.Refined.{Windows, answered, before, refined_parts, refined_rows, seen_at}
use Rattle.sn_refine.specs.Steps.{Sees, Set, follows, is_held, kept_at, kept_of, prefixes_of}
use Rattle.sn_refine.proofs.Held.{held_answered, packets_held}
use Rattle.sn_refine.proofs.Windows.{remembered, seen_from}
use Rattle.sn_cost.specs.Adding.{kept_counts}
use Rattle.sn_cost.specs.Entries.{front_of, installed_in}
use Rattle.sn_cost.specs.Training.{IsKept, IsNext, Knows, admitted, counts_in, fee_of}
use Rattle.sn_cost.proofs.Bits.{before_end, front_none, one_longer, rows_along, some_level}
use Rattle.sn_cost.proofs.Fees.{no_fee}
use Rattle.sn_windows.specs.Rising.{IsAbove}

-- ---- a front sees what the front before answered

module _ (query : TypedQuery) (windows : Windows) (last : Option ℕ) (sets : List Set) (w : ℕ) (tuples : List (List ℕ)) (above : IsAbove last w) (next : IsNext query windows last sets w tuples) where
  -- what was kept of a front is what it answered in the window before
  module _ (below level : ℕ) (some : 0 < below) (coarse : below < 2 ^ (length query.levels - 1)) (long : 0 < length (front_of below query.levels)) where
    abbrev front : List ℕ
    front = front_of below query.levels

    abbrev path : List ℕ
    path = front ++ level ∷ []

    abbrev place : ℕ
    place = length front - 1

    within : suc place < length path
    within = let e = one_longer front level in omega (arith, e, long)

    by_last : (o : Option ℕ) → IsAbove o w → ((v : ℕ) → IsAbove o v → v < w → windows v ≡ None) → Knows query windows o sets → kept_at o sets w below ≡ prefixes_before query windows path place w
    by_last None up between knows = seen_from query windows path None [] w place within up between tt
    by_last (Some l) up between knows =
        let kept : List Set = kept_of query path (refined_parts 0 query windows path l) in
        let same : unwrap_or (slice_get sets below) set.empty ≡ unwrap_or (slice_get kept place) set.empty =
        knows below some coarse ∙ sym (ap (prefixes_of query) (rows_along query windows front level place l (omega (arith, long)))) ∙ sym (remembered 0 query windows path l place within) in
        ap (λ (x : Set). cond (follows (Some l) w) x set.empty) same ∙ seen_from query windows path (Some l) kept w place within up between (remembered 0 query windows path l)

    answers_before : kept_at last sets w below ≡ prefixes_before query windows path place w
    answers_before = by_last last above next.between next.knows

  -- the level after a front sees what the front answered in the window before
  pub sees_after : (below level : ℕ) (o : Option Kept) → below < 2 ^ length query.levels → (0 < below → below < 2 ^ (length query.levels - 1)) → IsKept query.levels last sets w below o
      → Sees query windows (front_of below query.levels ++ level ∷ []) (length (front_of below query.levels)) w o
  sees_after zero level o within coarse is =
      subst (λ (x : Option Kept). Sees query windows (front_of 0 query.levels ++ level ∷ []) (length (front_of 0 query.levels)) w x) (sym is)
      (subst (λ n. Sees query windows (front_of 0 query.levels ++ level ∷ []) n w None) (sym (ap length (front_none query.levels))) tt)
  sees_after (suc m) level None within coarse is = absurd is
  sees_after (suc m) level (Some k) within coarse is =
      let front : List ℕ = front_of (suc m) query.levels in
      let some : 0 < length front = some_level (suc m) query.levels (omega arith) within in
      let e : suc (length front - 1) ≡ length front = omega (arith, some) in
      subst (λ n. Sees query windows (front ++ level ∷ []) n w (Some k)) e
      (is.0 ∙ sym (before_end front level (length front - 1) (omega (arith, some))), is.1 ∙ answers_before (suc m) level (omega arith) (coarse (omega arith)) some)

-- ---- what is seen is what passes

module _ (s : Switch) (query : TypedQuery) (windows : Windows) (front : List ℕ) (w : ℕ) (tuples : List (List ℕ)) (holds : windows w ≡ Some tuples) where
  -- the tuples that are admitted are those that pass
  pub same_counts : (level b place : ℕ) (o : Option Kept) → Sees query windows front place w o → counts_in s query b level (passes_at query s.entries windows front place w) ≡ kept_counts s query level (admitted s.entries o) tuples b
  same_counts level b zero None sees = ap (counts_in s query b level) holds
  same_counts level b zero (Some k) sees = absurd sees
  same_counts level b (suc j) None sees = absurd sees
  same_counts level b (suc j) (Some k) sees =
      let rows = before (refined_rows query windows front j) w in
      let passing : Bool → List ℕ = λ c. counts_in s query b level (cond c (windows w) (seen_at query windows front (suc j) w)) in
      let admits : Bool → List ℕ = λ c. kept_counts s query level (cond c None (Some k)) tuples b in
      by_test (is_open s.entries (prefixes_of query rows))
      (λ more. ap passing more ∙ ap (counts_in s query b level) holds ∙ sym (ap admits (ap (is_open s.entries) sees.1 ∙ more)))
      (λ all. ap passing all
      ∙ ap (λ (x : Option (List (List ℕ))). counts_in s query b level (option_map (answered query (slice_index front j) rows) x)) holds
      ∙ ap (λ (ts : List (List ℕ)). counts_of (branch_of query b) level s.chain s.slots (packet_rows query b level None ts)) (sym (held_answered query (slice_index front j) rows k.members.now tuples sees.1))
      ∙ ap (λ (bits : ℕ). counts_of (branch_of query b) level s.chain s.slots (packet_rows query b level None (filter (is_held query.field bits k.members.now) tuples))) (sym sees.0)
      ∙ ap (counts_of (branch_of query b) level s.chain s.slots) (sym (packets_held query b level k tuples))
      ∙ sym (ap admits (ap (is_open s.entries) sees.1 ∙ all)))

  -- and the prefixes that cost something are those that are installed
  pub same_fee : (place : ℕ) (o : Option Kept) → Sees query windows front place w o → fee_of s (admitted s.entries o) ≡ s.weight * installed_in query s.entries windows front place w
  same_fee zero None sees = sym (no_fee s.weight)
  same_fee zero (Some k) sees = absurd sees
  same_fee (suc j) None sees = absurd sees
  same_fee (suc j) (Some k) sees =
      let prefixes : Set = prefixes_before query windows front j w in
      let asked : Bool → ℕ = λ c. fee_of s (cond c None (Some k)) in
      let installed : Bool → ℕ = λ c. s.weight * cond c 0 (set.len prefixes) in
      by_test (is_open s.entries prefixes)
      (λ more. ap asked (ap (is_open s.entries) sees.1 ∙ more) ∙ sym (ap installed more ∙ no_fee s.weight))
      (λ all. ap asked (ap (is_open s.entries) sees.1 ∙ all) ∙ ap (λ (ks : Set). s.weight * set.len ks) sees.1 ∙ sym (ap installed all))
