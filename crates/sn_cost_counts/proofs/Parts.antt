-- What is so of the two parts of a branch's longest prefix, before its first distinct or reduce and from there on, and of packet rows
-- that come through the first: no list is too long, all can be evaluated, and the counts of both parts are those of the whole prefix.
-- Both ways to the counts of a branch, packet by packet and by packets that stand for others, are answered from it.
use Rattle.std.proofs.Common.{◌≡◌, ℕ, ◌*◌, ◌≤◌, List, [], ◌∷◌, ◌++◌, Bool, length, map, ap, sym, subst, ◌∙◌, arith}
use Rattle.std.specs.List.{AllByRecursion}
use Rattle.std.proofs.lemmas.List.{length-drop, length-take}
use Rattle.sn_base.specs.Columns.{IsOf}
use Rattle.sn_base.specs.Groups.{Row}
use Rattle.sn_base.specs.Operators.{through}
use Rattle.sn_cost_seats.specs.Ways.{AreStateless}
use Rattle.sn_engine_split.proofs.Typed.{cut_of}
use Rattle.sn_ops.specs.Flow.{AllFit}
use Rattle.sn_ops.proofs.Branches.{branch_fit}
use Rattle.sn_pipe.proofs.Fronts.{cut_within}
use Rattle.sn_pipe.proofs.Takes.{fit_front}
use Rattle.sn_types.specs.Cuts.{greatest_cut}
use Rattle.sn_types.specs.declared.typed_op.TOp.{TOp}
use Rattle.sn_types.specs.Typed.{first_columns}
use Rattle.sn_types.specs.Values.{op_at}
use Rattle.sn_types.proofs.Facts.{few_ops}
use Rattle.sn_cost_counts.specs.declared.branch_at.BranchAt.{BranchAt}
use Rattle.sn_cost_counts.specs.BranchAt.{AreParts, asked_branch, prefix_of}
use Rattle.sn_cost_counts.specs.Coming.{ahead, coming_to}
use Rattle.sn_cost_counts.specs.Counts.{counts_of}
use Rattle.sn_cost_counts.specs.Fitting.{Takes}
use Rattle.sn_cost_counts.specs.Flows.{counts_from, starting}
use Rattle.sn_cost_counts.proofs.Ahead.{counts_on, few_on, fits_on, front_stateless, given_on, none_fits_on, takes_on}
use Rattle.sn_cost_counts.proofs.Branching.{all_counts, branch_takes, counts_small, started, takes_front}
use Rattle.sn_cost_counts.proofs.Shapes.{cut_taken, left_of_cut}
use Rattle.sn_cost_counts.proofs.Unsplit.{given}
use Rattle.sn_windows.specs.Blocks.{most_records}

module _ (at : BranchAt) where
  abbrev os : List TOp
  os = prefix_of (asked_branch at)

  within : (asked_branch at).max_cut ≤ length (asked_branch at).ops
  within = cut_within at.t.now.window_us at.t.now.queries at.q at.b at.t.now.typed at.has_query at.has_branch

  most : (asked_branch at).max_cut ≤ greatest_cut (asked_branch at).ops
  most = cut_of at.t.now.window_us at.t.now.queries at.q at.b (asked_branch at).max_cut at.t.now.typed at.has_query at.has_branch (omega arith)

  long : length os ≡ (asked_branch at).max_cut
  long = omega (arith, length-take (asked_branch at).max_cut (asked_branch at).ops, within)

  few : length os ≤ 12
  few = omega (arith, length-take (asked_branch at).max_cut (asked_branch at).ops, few_ops at.t.now.window_us at.t.now.queries at.q at.b at.t.now.typed at.has_query at.has_branch)

  takes_all : (rows : List Row) → AllByRecursion (IsOf (first_columns (asked_branch at))) rows → AllByRecursion (Takes at.level os) rows
  takes_all rows of = branch_takes at.t.now.window_us at.t.now.queries at.q at.b at.level (asked_branch at).max_cut rows at.t.now.typed at.has_query at.has_branch of

  fits_all : (rows : List Row) → AllByRecursion (IsOf (first_columns (asked_branch at))) rows → AllFit at.level os rows
  fits_all rows of =
      fit_front at.level (asked_branch at).max_cut (asked_branch at).ops rows
      (branch_fit at.t.now.window_us at.t.now.queries at.q at.b at.level rows at.t.now.typed at.has_query at.has_branch of)

  module _ (front rest : List TOp) (parts : AreParts (asked_branch at) front rest) where
    pub short_front : length front ≤ 12
    short_front = omega (arith, few, length-take (ahead os) os, ap length parts.front_is)

    pub short_rest : length rest ≤ 12
    short_rest = omega (arith, few, length-drop (ahead os) os, ap length parts.rest_is)

    pub stateless : AreStateless (map (op_at at.level) front)
    stateless = front_stateless at.level os front parts.front_is

    pub takes_one : (row : Row) → IsOf (first_columns (asked_branch at)) row → Takes at.level front row
    takes_one row of = subst (λ (xs : List TOp). Takes at.level xs row) (sym parts.front_is) (takes_front at.level (ahead os) os row (takes_all (row ∷ []) (of, tt)).0)

    pub shape_rest : length rest ≤ greatest_cut rest
    shape_rest =
        subst (λ (xs : List TOp). length xs ≤ greatest_cut xs) (sym parts.rest_is)
        (left_of_cut os (cut_taken (asked_branch at).max_cut (asked_branch at).ops most))

    module _ (packets rows : List Row) (few_packets : length packets ≤ most_records) (of : AllByRecursion (IsOf (first_columns (asked_branch at))) packets) (come : rows ≡ through (map (op_at at.level) front) packets) where
      pub few_rows : length rows ≤ most_records
      few_rows = omega (arith, few_packets, few_on at.level os front rest packets rows parts.front_is parts.rest_is come)

      pub takes_rows : AllByRecursion (Takes at.level rest) rows
      takes_rows = takes_on at.level os front rest packets rows parts.front_is parts.rest_is come (takes_all packets of)

      pub fits_none : AllFit at.level rest []
      fits_none = none_fits_on at.level os front rest packets rows parts.front_is parts.rest_is come (fits_all [] tt)

      pub fits_rows : AllFit at.level rest rows
      fits_rows = fits_on at.level os front rest packets rows parts.front_is parts.rest_is come (fits_all packets of)

      both : (chain : ℕ) (sizes before counts : List ℕ) → before ≡ coming_to at.level front packets → counts ≡ before ++ counts_from chain at.level sizes rest (starting rows ∷ []) → counts ≡ counts_from chain at.level sizes os (starting packets ∷ [])
      both chain sizes before counts first is = counts_on at.level os front rest packets rows parts.front_is parts.rest_is come chain sizes before counts first is

      pub whole_counts : (chain : ℕ) (sizes before counts : List ℕ) → before ≡ coming_to at.level front packets → counts ≡ before ++ counts_from chain at.level sizes rest (starting rows ∷ []) → counts ≡ counts_of (asked_branch at) at.level chain sizes packets
      whole_counts chain sizes before counts first is = both chain sizes before counts first is ∙ all_counts chain at.level sizes (asked_branch at) packets most long

      pub small_counts : (chain : ℕ) (sizes before counts : List ℕ) → before ≡ coming_to at.level front packets → counts ≡ before ++ counts_from chain at.level sizes rest (starting rows ∷ []) → AllByRecursion (λ n. n ≤ 13 * most_records) counts
      small_counts chain sizes before counts first is =
          subst (AllByRecursion (λ n. n ≤ 13 * most_records)) (sym (both chain sizes before counts first is))
          (counts_small chain at.level sizes os 0 (starting packets ∷ []) (omega (arith, few)) (started at.level os packets few_packets (takes_all packets of) (fits_all [] tt)))

      pub whole_given : (asked : Bool) → given asked at.level rest rows ≡ given asked at.level os packets
      whole_given asked = given_on at.level os front rest packets rows parts.front_is parts.rest_is come asked
