-- What a lane appends when it is read out.
use Rattle.std.proofs.Common.{◌≡◌, ℕ, ◌==◌, List, [], ◌∷◌, ◌++◌, drop, map, slice_get, true, false, cond, None, Some, refl, ap, sym, ◌∙◌}
use Rattle.std.specs.List.{list_all}
use Rattle.sn_base.proofs.Lists.{and_both, nat_self, none_some, some_same}
use Rattle.sn_base.specs.declared.lane.Lane.{Lane as Name}
use Rattle.sn_core.specs.Events.{with_next, with_next_of}
use Rattle.sn_core.specs.Nets.{Lane}
use Rattle.sn_engine_lockstep.specs.declared.source.Source.{Source}
use Rattle.sn_emit.specs.declared.sender.Sender.{Sender}
use Rattle.sn_emit.specs.Senders.{ended_after, frames_left, row_frame}
use Rattle.sn_engine.specs.declared.intake.Intake.{Intake}
use Rattle.sn_core_net.proofs.Settling.{left_settled, read_settled, stays_settled}
use Rattle.sn_core_net.specs.PlanWorkings.{workings_of}
use Rattle.sn_core_net.specs.Settled.{settled}
use Rattle.sn_pipe.specs.Pipes.{PipeState}
use Rattle.sn_pipe.specs.Prefixes.{left_in}
use Rattle.sn_report.specs.Items.{Frame as Report}
use Rattle.sn_report.specs.declared.frame.Frame.TheVariants.{End}
use Rattle.sn_report.specs.Items.{Item}
use Rattle.sn_types.specs.declared.typed_query.TypedQuery.{TypedQuery}
use Rattle.sn_core_net.specs.Reports.{are_same, frame_of, is_own}
use Rattle.sn_core_net.specs.States.{lane_of}
use Rattle.sn_core_net.specs.declared.holder.Holder.{Holder}
use Rattle.sn_core_net.proofs.Both.{own_name}
use Rattle.sn_core_net.proofs.Zips.{all_appended}

abbrev at_place : PipeState → ℕ → PipeState
at_place p place = record p { prefix = record p.prefix { place = place } }

-- the rows that are left, and the End
abbrev to_come : Name → ℕ → List Item → List Report
to_come name window items = map (row_frame name) items ++ End name window ∷ []

-- a lane that hasn't given its End has it still to give
pub first_left : (s : Sender) (window : ℕ) → s.ended ≡ false → frames_left s window ≡ to_come s.lane window (left_in s.pipe.prefix)
first_left s window runs = ap (λ b. map (row_frame s.lane) (left_in s.pipe.prefix) ++ cond b [] (End s.lane window ∷ [])) runs

never_none : {G : Type 0} (name : Name) (window : ℕ) (items : List Item) → None ≡ slice_get (to_come name window items) 0 → G
never_none name window [] e = absurd (none_some e)
never_none name window (item ∷ items) e = absurd (none_some e)

pub some_left : {G : Type 0} (s : Sender) (window : ℕ) → s.ended ≡ false → None ≡ slice_get (frames_left s window) 0 → G
some_left s window runs e = never_none s.lane window (left_in s.pipe.prefix) (e ∙ ap (λ fs. slice_get fs 0) (first_left s window runs))

own_next : (name : Name) (window : ℕ) (items : List Item) (frame : Report) → Some frame ≡ slice_get (to_come name window items) 0 → is_own name window frame ≡ true
own_next name window [] frame e = ap (is_own name window) (some_same frame (End name window) e) ∙ and_both (are_same name name) (window == window) (own_name name) (nat_self window)
own_next name window (item ∷ items) frame e = ap (is_own name window) (some_same frame (row_frame name item) e) ∙ own_name name

-- the frame that is appended is one of the lane's own
pub own_more : (s : Sender) (window : ℕ) (frame : Report) (before after : List Report) → s.ended ≡ false → Some frame ≡ slice_get (frames_left s window) 0 → after ≡ before ++ frame ∷ []
    → list_all (is_own s.lane window) before ≡ true → list_all (is_own s.lane window) after ≡ true
own_more s window frame before after runs e is own =
    ap (list_all (is_own s.lane window)) is
    ∙ all_appended (is_own s.lane window) before (frame ∷ []) own
    (and_both (is_own s.lane window frame) true (own_next s.lane window (left_in s.pipe.prefix) frame (e ∙ ap (λ fs. slice_get fs 0) (first_left s window runs))) refl)

module _ (queries : List TypedQuery) (intakes : List Intake) (sources : List Source) (h : Holder) (q : PipeState) (x : Intake) (rest : q ≡ at_place h.sender.pipe q.prefix.place) (left : left_in q.prefix ≡ drop 1 (left_in h.sender.pipe.prefix)) (window : ℕ) (frame : Report) where
  abbrev next : Lane PipeState Item → List Item → Lane PipeState Item
  next lane items = with_next_of (workings_of queries intakes sources) lane items

  next_of : (items : List Item) → left_in h.sender.pipe.prefix ≡ items → Some frame ≡ slice_get (to_come h.sender.lane window items) 0
      → record (lane_of h x) { pipe = settled q; ended = ended_after h.sender.ended (slice_get items 0); ring = map frame_of h.ring.items ++ frame_of frame ∷ [] } ≡ next (lane_of h x) items
  next_of [] is first =
      ap (λ (p : PipeState). record (lane_of h x) { pipe = p; ended = true; ring = map frame_of h.ring.items ++ frame_of frame ∷ [] }) (stays_settled h.sender.pipe q rest left is)
      ∙ ap (λ (f : Report). record (lane_of h x) { ended = true; ring = map frame_of h.ring.items ++ frame_of f ∷ [] }) (some_same frame (End h.sender.lane window) first)
  next_of (item ∷ items) is first =
      ap (λ (p : PipeState). record (lane_of h x) { pipe = p; ring = map frame_of h.ring.items ++ frame_of frame ∷ [] }) (read_settled h.sender.pipe q item items rest left is)
      ∙ ap (λ (f : Report). record (next (lane_of h x) (item ∷ items)) { ring = map frame_of h.ring.items ++ frame_of f ∷ [] }) (some_same frame (row_frame h.sender.lane item) first)

  -- the next row, and the End where none is left
  pub next_is : h.sender.ended ≡ false → Some frame ≡ slice_get (frames_left h.sender window) 0
      → record (lane_of h x) { pipe = settled q; ended = ended_after h.sender.ended (slice_get (left_in h.sender.pipe.prefix) 0); ring = map frame_of h.ring.items ++ frame_of frame ∷ [] } ≡ with_next (workings_of queries intakes sources) (lane_of h x)
  next_is runs first =
      next_of (left_in h.sender.pipe.prefix) refl (first ∙ ap (λ fs. slice_get fs 0) (first_left h.sender window runs))
      ∙ ap (next (lane_of h x)) (sym (left_settled h.sender.pipe))
