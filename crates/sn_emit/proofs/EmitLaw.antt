-- A lane of a plan gives and counts the items of its piece.
use Rattle.std.proofs.Common.{◌≡◌, ℕ, ◌<◌, ◌≤◌, List, [], ◌∷◌, ◌++◌, map, length, refl, ap, subst, ◌∙◌}
use Rattle.std.specs.FinSet as set
use Rattle.std.specs.List.{AllByRecursion}
use Rattle.std.specs.Ordering.{nat_cmp}
use Rattle.sn_report.specs.Items.{Frame}
use Rattle.sn_report.specs.declared.frame.Frame.TheVariants.{End}
use Rattle.sn_report.specs.Items.{Item}
use Rattle.sn_pipe.specs.Pipes.{PipeState, after_packets, at_start, packets_give}
use Rattle.sn_pipe.specs.Prefixes.{left_in}
use Rattle.sn_pipe.proofs.Starts.{starts_again}
use Rattle.sn_pipe.proofs.TypedLaw.{typed_items}
use Rattle.sn_types.specs.declared.typed_query.TypedQuery.{TypedQuery}
use Rattle.sn_types.specs.Typed.{HasWidths, IsTyped, branch_at, query_at}
use Rattle.sn_emit.specs.declared.sender.Sender.{Sender}
use Rattle.sn_emit.specs.declared.tables.Tables.{Tables}
use Rattle.sn_emit.specs.Plans.{IsLaneOf, Placed, gate_before, items_of}
use Rattle.sn_emit.specs.Runs.{ReadsOut}
use Rattle.sn_emit.specs.Senders.{packet_frames, row_frame, sender_after, sender_start}
use Rattle.sn_emit.proofs.LaneLaw.{window_count, window_frames}
use Rattle.sn_plan_fit.specs.Capped.{capped}

module _ (window : ℕ) (tables : Tables) (number : ℕ) (queries : List TypedQuery) (x : Placed) (s t : Sender) (kept : set.FinSet nat_cmp) (tuples : List (List ℕ)) (frames : List Frame)
    (typed : ∥ IsTyped window queries ∥₁) (lt : x.query < length queries) (within : x.piece.branch < length (query_at queries x.query).branches)
    (cut : x.piece.cut ≤ (branch_at queries x.query x.piece.branch).max_cut) (lane : IsLaneOf queries tables x s) (widths : AllByRecursion HasWidths tuples)
    (run : ReadsOut number (sender_after (sender_start s kept) tuples) frames t) where
  items_are : packets_give (at_start s.pipe kept) tuples ++ left_in (after_packets (at_start s.pipe kept) tuples).prefix ≡ items_of queries tables x kept tuples
  items_are =
      subst (λ (p : PipeState). packets_give p tuples ++ left_in (after_packets p tuples).prefix ≡ items_of queries tables x kept tuples) (starts_again s.pipe set.empty kept)
      (typed_items window queries x.query x.piece.branch x.piece.level x.piece.cut tables.depth (gate_before tables.entries x.path x.piece.level) x.piece.slots (at_start s.pipe set.empty) kept tuples typed lt within cut lane.pipe widths)

  pub lane_gives : packet_frames (sender_start s kept) tuples ++ frames ≡ map (row_frame s.lane) (items_of queries tables x kept tuples) ++ End s.lane number ∷ []
  lane_gives =
      window_frames number (sender_start s kept) t tuples frames refl run
      ∙ ap (λ (items : List Item). map (row_frame s.lane) items ++ End s.lane number ∷ []) items_are

  pub lane_counts : t.given ≡ capped (length (items_of queries tables x kept tuples))
  lane_counts =
      window_count number (sender_start s kept) t tuples frames refl run
      ∙ ap (λ (items : List Item). capped (length items)) items_are
