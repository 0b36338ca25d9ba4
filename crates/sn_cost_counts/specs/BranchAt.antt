-- serves proofs
-- The branch of which counts are asked, and its packet rows.
use Rattle.std.specs.Prelude.{ℕ, ◌≡◌, ◌≤◌, List, [], drop, length, take}
use Rattle.std.specs.List.{AllByRecursion}
use Rattle.sn_base.specs.Groups.{Row}
use Rattle.sn_cost_counts.specs.declared.branch_at.BranchAt.{BranchAt}
use Rattle.sn_cost_counts.specs.declared.counts.Steps.{Steps}
use Rattle.sn_cost_counts.specs.AnyFlow.{Flow}
use Rattle.sn_cost_counts.specs.Coming.{ahead}
use Rattle.sn_cost_counts.specs.Fitting.{Takes}
use Rattle.sn_cost_counts.specs.Flows.{counts_from}
use Rattle.sn_ops.specs.Flow.{AllFit}
use Rattle.sn_ops.specs.Packets.{packet_rows}
use Rattle.sn_types.specs.declared.typed_op.TOp.{TOp}
use Rattle.sn_types.specs.declared.typed_query.TypedBranch.{TypedBranch}
use Rattle.sn_types.specs.declared.typed_query.TypedQuery.{TypedQuery}
use Rattle.sn_types.specs.Cuts.{greatest_cut}
use Rattle.sn_types.specs.Typed.{branch_at, query_at}
use Rattle.sn_windows.specs.Blocks.{most_records}

abbrev pub query_of : BranchAt → TypedQuery
query_of at = query_at at.t.now.queries at.q

abbrev pub asked_branch : BranchAt → TypedBranch
asked_branch at = branch_at at.t.now.queries at.q at.b

-- the packet rows of these tuples, of those that are kept
abbrev pub packets_of : BranchAt → List (List ℕ) → List Row
packets_of at tuples = packet_rows (query_of at) at.b at.level at.kept tuples

-- the counts of all settings of these operators
abbrev pub counts_by : Steps → List Flow → List ℕ
counts_by steps flows = counts_from steps.registers.now.chain steps.level steps.registers.now.sizes.now steps.ops.now flows

-- Rows can go through these operators, and no number of them is greater than one can count.
pub record CanGo (steps : Steps) (rows : List Row) : Type 0 where
  pub short : length steps.ops.now ≤ 12
  pub shape : length steps.ops.now ≤ greatest_cut steps.ops.now
  pub few : length rows ≤ most_records
  pub takes : AllByRecursion (Takes steps.level steps.ops.now) rows
  pub fits : AllFit steps.level steps.ops.now []
  pub fits_all : AllFit steps.level steps.ops.now rows

-- the operators of the longest prefix of a branch
abbrev pub prefix_of : TypedBranch → List TOp
prefix_of branch = take branch.max_cut branch.ops

-- The operators of the longest prefix of a branch, parted before the first distinct or reduce.
pub record AreParts (branch : TypedBranch) (front rest : List TOp) : Type 0 where
  pub front_is : front ≡ take (ahead (prefix_of branch)) (prefix_of branch)
  pub rest_is : rest ≡ drop (ahead (prefix_of branch)) (prefix_of branch)
