-- The plans by a table that counts training windows are those of the windows.
use Rattle.std.proofs.Common.{◌≡◌, ℕ, suc, ◌+◌, ◌<◌, List, [], ◌∷◌, drop, length, unwrap_or, Option, refl, ap, sym, ◌∙◌, subst, arith}
use Rattle.std.specs.List.{AllByRecursion}
use Rattle.sn_tree.specs.Alike.{AreAlike}
use Rattle.sn_base.proofs.Lists.{all_weaker, index_within}
use Rattle.sn_switch.specs.declared.switch.Switch.{Switch}
use Rattle.sn_types.specs.declared.typed_query.TypedBranch.{TypedBranch}
use Rattle.sn_types.specs.declared.typed_query.TypedQuery.{TypedQuery}
use Rattle.sn_types.specs.Typed.{blank_query, branch_at, query_at}
use Rattle.sn_plan_choices.specs.Options.{options}
use Rattle.sn_plan_choices.specs.Planning.{PieceTask, first_tasks}
use Rattle.sn_plan_lists.specs.Theorems.{plans_of}
use Rattle.sn_windows.specs.Rising.{Window}
use Rattle.sn_cost.specs.Entries.{IsPiece}
use Rattle.sn_cost_laws.specs.Priced.{AreCounted}
use Rattle.sn_cost_laws.specs.Space.{trained_entry, trained_plans}
use Rattle.sn_cost_laws.proofs.Entries.{Same, SamePath, SamePiece, tables_alike}
use Rattle.sn_cost_laws.proofs.Pieces.{IsPieceOf, drop_more, front_some, get_ahead, pieces_are}

module _ (s : Switch) (queries : List TypedQuery) (given : List Window) (entry : ℕ → ℕ → ℕ → ℕ → ℕ) (counted : AreCounted s queries given entry) where
  abbrev counts : ℕ → ℕ → ℕ → ℕ → ℕ
  counts = trained_entry s queries given

  piece_same : (n : ℕ) → n < length queries → (t : PieceTask) → IsPieceOf n (query_at queries n) t → SamePiece s entry counts t
  piece_same n lt t is x within =
      let options_of : length (options s t.branch) ≡ length (options s (branch_at queries n t.number)) = ap (λ (b : TypedBranch). length (options s b)) is.of_branch in
      let piece : IsPiece s queries n t.levels t.number x = record {
        of_query = lt;
        of_levels = is.below;
        some_level = front_some t.levels (query_at queries n).levels is.some is.below;
        of_branch = is.of_number;
        of_option = omega (arith, within, options_of);
      } in
      ap (λ (q : ℕ). entry q t.levels t.number x) is.of_query ∙ counted n t.levels t.number x piece ∙ ap (λ (q : ℕ). counts q t.levels t.number x) (sym is.of_query)

  path_same : (n : ℕ) → n < length queries → SamePath s entry counts (record { query = n; typed = query_at queries n })
  path_same n lt m within = all_weaker (IsPieceOf n (query_at queries n)) (SamePiece s entry counts) (piece_same n lt) _ (pieces_are n (query_at queries n) m)

  firsts_same : (n : ℕ) (qs : List TypedQuery) → drop n queries ≡ qs → AllByRecursion (Same s entry counts) (first_tasks n qs)
  firsts_same n [] at = tt
  firsts_same n (q ∷ qs) at =
      let here = get_ahead queries n q qs at in
      let is : query_at queries n ≡ q = ap (λ (o : Option TypedQuery). unwrap_or o blank_query) here in
      let next : n + 1 ≡ suc n = omega arith in (
        subst (λ (x : TypedQuery). SamePath s entry counts (record { query = n; typed = x })) is (path_same n (index_within queries n q here)),
        firsts_same (n + 1) qs (ap (λ (k : ℕ). drop k queries) next ∙ drop_more queries n q qs at),
      )

  pub counted_alike : AreAlike (plans_of s entry queries) (trained_plans s queries given)
  counted_alike = tables_alike s entry counts (first_tasks 0 queries) (firsts_same 0 queries refl)
