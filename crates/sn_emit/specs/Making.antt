-- serves proofs
-- Where the lane of a piece can be made.
use Rattle.std.specs.Prelude.{◌≡◌, ◌≤◌, ◌<◌, List, length, take, true, All, nat_eq}
use Rattle.std.specs.List.{list_any}
use Rattle.sn_base.specs.declared.lane.Lane.{Lane}
use Rattle.sn_chain.specs.Limits.{largest_register}
use Rattle.sn_plan_fit.specs.Paths.{level_before, place_in}
use Rattle.sn_pipe.specs.Pipes.{IsCoarser}
use Rattle.sn_types.specs.declared.typed_query.TypedQuery.{TypedQuery}
use Rattle.sn_types.specs.Cuts.{stateful}
use Rattle.sn_types.specs.Typed.{branch_at, query_at}
use Rattle.sn_report.specs.Frames.{lane_of as lane_in, operator_in}
use Rattle.sn_report.specs.Items.{Frame}
use Rattle.sn_emit.specs.Plans.{Placed}

-- the numbers of a lane have one byte each in a frame: there are at most eight queries, four levels and two branches
pub record InRange (lane : Lane) : Type 0 where
  pub query : lane.query ≤ 7
  pub level : lane.level ≤ 3
  pub branch : lane.branch ≤ 1

-- a pipe can be made of a piece, and its lane has a name
pub record CanMake (queries : List TypedQuery) (x : Placed) : Type 0 where
  pub query : x.query < length queries
  pub branch : x.piece.branch < length (query_at queries x.query).branches
  pub level : list_any (nat_eq x.piece.level) (query_at queries x.query).levels ≡ true
  pub before : IsCoarser (query_at queries x.query) (level_before x.path x.piece.level)
  pub cut : x.piece.cut ≤ (branch_at queries x.query x.piece.branch).max_cut
  pub sizes : All (λ size. (1 ≤ size) × (size ≤ largest_register)) x.piece.slots
  pub enough : stateful (take x.piece.cut (branch_at queries x.query x.piece.branch).ops) ≤ length x.piece.slots
  pub few : x.query ≤ 7
  pub short : place_in x.path x.piece.level ≤ 3
  pub sides : x.piece.branch ≤ 1

-- a frame's numbers are in the ranges that its bytes can have
pub record CanEncode (frame : Frame) : Type 0 where
  pub lane : InRange (lane_in frame)
  pub operator : operator_in frame ≤ 12
