-- Two tables with the same entries have one text.
use Rattle.std.proofs.Common.{◌≡◌, ℕ, zero, suc, ◌+◌, ◌-◌, ◌<◌, ◌≤◌, List, ◌++◌, length, refl, ap, ◌∙◌, arith}
use Rattle.std.specs.Prelude.{◌^◌}
use Rattle.std.specs.List.{flat_map, range_with_len}
use Rattle.sn_cost.specs.Entries.{IsPiece, front_of}
use Rattle.sn_cost.proofs.Bits.{some_level}
use Rattle.sn_plan_choices.specs.Options.{options, option_at}
use Rattle.sn_switch.specs.declared.switch.Switch.{Switch}
use Rattle.sn_types.specs.declared.typed_query.TypedQuery.{TypedQuery}
use Rattle.sn_types.specs.Typed.{branch_at, query_at}
use Rattle.sonata_entries.specs.Table.{branches_text, entry_text, fronts_text, option_text, options_text, table_text}

parts_same : (f g : ℕ → List ℕ) (start count : ℕ) → ((n : ℕ) → start ≤ n → n < start + count → f n ≡ g n) → flat_map f (range_with_len start count) ≡ flat_map g (range_with_len start count)
parts_same f g start zero same = refl
parts_same f g start (suc count) same =
    ap (λ part. part ++ flat_map f (range_with_len (start + 1) count)) (same start (omega arith) (omega arith))
    ∙ ap (λ rest. g start ++ rest) (parts_same f g (start + 1) count (λ n low high. same n (omega (arith, low)) (omega (arith, high))))

module _ (s : Switch) (queries : List TypedQuery) (entry other : ℕ → ℕ → ℕ → ℕ → ℕ) (same : (q front b n : ℕ) → IsPiece s queries q front b n → entry q front b n ≡ other q front b n) where
  module _ (q front : ℕ) (lt : q < length queries) (some : 1 ≤ front) (few : front < 2 ^ length (query_at queries q).levels) where
    same_options : (b : ℕ) → b < length (query_at queries q).branches → options_text s entry queries q front b ≡ options_text s other queries q front b
    same_options b known =
        parts_same (option_text s entry queries q front b) (option_text s other queries q front b) 0 (length (options s (branch_at queries q b))) (λ n low high.
        ap (entry_text (query_at queries q).name (front_of front (query_at queries q).levels) b (option_at s (branch_at queries q b) n))
        (same q front b n (record {
          of_query = lt;
          of_levels = few;
          some_level = some_level front (query_at queries q).levels (omega (arith, some)) few;
          of_branch = known;
          of_option = omega (arith, high);
        })))

    same_branches : branches_text s entry queries q front ≡ branches_text s other queries q front
    same_branches =
        parts_same (options_text s entry queries q front) (options_text s other queries q front) 0 (length (query_at queries q).branches) (λ b low high. same_options b (omega (arith, high)))

  same_fronts : (q : ℕ) → q < length queries → fronts_text s entry queries q ≡ fronts_text s other queries q
  same_fronts q lt =
      parts_same (branches_text s entry queries q) (branches_text s other queries q) 1 (2 ^ length (query_at queries q).levels - 1) (λ front low high. same_branches q front lt low (omega (arith, low, high)))

  pub same_table : table_text s entry queries ≡ table_text s other queries
  same_table = parts_same (fronts_text s entry queries) (fronts_text s other queries) 0 (length queries) (λ q low high. same_fronts q (omega (arith, high)))
