-- All lanes at a tuple, and at the end of a window.
use Rattle.std.proofs.Common.{◌≡◌, ℕ, suc, List, [], ◌∷◌, ◌++◌, length, Some, slice_get, refl, ap, ◌∙◌, arith}
use Rattle.std.specs.List.{AllByRecursion, flat_map}
use Rattle.sn_engine_lockstep.specs.declared.source.Source.{Source}
use Rattle.sn_engine_lockstep.specs.Sources.{source_of}
use Rattle.sn_engine_lockstep.specs.Work.{AreAtWork, IsAtWork, frames_given}
use Rattle.sn_engine_lockstep.proofs.Changes.{all_get}
use Rattle.sn_engine_lockstep.proofs.Draining.{Holds, holds}
use Rattle.sn_emit.specs.declared.sender.Sender.{Sender}
use Rattle.sn_emit.specs.Making.{CanMake}
use Rattle.sn_emit.specs.Plans.{Placed}
use Rattle.sn_emit.specs.Senders.{frames_left}
use Rattle.sn_emit.specs.declared.tables.Tables.{Tables}
use Rattle.sn_engine.specs.declared.intake.Intake.{Intake}
use Rattle.sn_refine.specs.Steps.{Set}
use Rattle.sn_report.specs.Items.{Frame}
use Rattle.sn_types.specs.declared.typed_query.TypedQuery.{TypedQuery}
use Rattle.sn_types.specs.Typed.{HasWidths, IsTyped}
use Rattle.sn_command_emit.specs.Sent.{frames_at, frames_after}
use Rattle.sn_command_emit.proofs.PieceLemmas.{lane_reads, lane_sends}
use Rattle.sn_base.proofs.Lists.{index_within as within}

flat_beside : (f : Sender → List Frame) (g : Placed → List Frame) (ss : List Sender) (xs : List Placed) → length ss ≡ length xs → ((j : ℕ) (x : Placed) (s : Sender) → slice_get xs j ≡ Some x → slice_get ss j ≡ Some s → f s ≡ g x) → flat_map f ss ≡ flat_map g xs
flat_beside f g [] [] many each = refl
flat_beside f g [] (x ∷ xs) many each = absurd (omega (arith, many))
flat_beside f g (s ∷ ss) [] many each = absurd (omega (arith, many))
flat_beside f g (s ∷ ss) (x ∷ xs) many each =
    ap (λ fs. fs ++ flat_map f ss) (each 0 x s refl refl) ∙ ap (λ fs. g x ++ fs) (flat_beside f g ss xs (omega (arith, many)) (λ j y t p q. each (suc j) y t p q))

module _ (typed_for : ℕ) (tables : Tables) (queries : List TypedQuery) (pieces : List Placed) (kept : Source → Set) (tuples : List (List ℕ)) (senders : List Sender) (intakes : List Intake)
    (typed : ∥ IsTyped typed_for queries ∥₁) (can : AllByRecursion (CanMake queries) pieces) (work : AreAtWork queries tables pieces kept tuples senders intakes) where
  lane_work : (j : ℕ) (x : Placed) (s : Sender) → slice_get pieces j ≡ Some x → slice_get senders j ≡ Some s → (l : Intake) × IsAtWork queries tables x (kept (source_of x)) tuples s l
  lane_work j x s p q =
      let lt = within pieces j x p in
      let many = work.taken in
      let hl : Holds intakes j = holds intakes j (omega (arith, lt, many)) in
      (hl.at, work.each j x s hl.at p q hl.is)

  -- what all give at a tuple
  pub all_send : (tuple : List ℕ) (more : List (List ℕ)) → AllByRecursion HasWidths (tuples ++ tuple ∷ more)
      → flat_map (frames_given tuple) senders ≡ flat_map (frames_at queries tables (λ x. kept (source_of x)) (tuples ++ tuple ∷ more) (length tuples)) pieces
  all_send tuple more widths =
      flat_beside (frames_given tuple) (frames_at queries tables (λ x. kept (source_of x)) (tuples ++ tuple ∷ more) (length tuples)) senders pieces work.given
      (λ j x s p q. let w = (lane_work j x s p q).1 in
      ap (frames_given tuple) w.sender ∙ lane_sends typed_for queries tables x w.base (kept (source_of x)) typed (all_get (CanMake queries) pieces j x can p) w.lane tuples more tuple widths)

  -- what is left of all after the last one
  pub all_read : (number : ℕ) → AllByRecursion HasWidths tuples
      → flat_map (λ s. frames_left s number) senders ≡ flat_map (frames_after queries tables (λ x. kept (source_of x)) tuples number) pieces
  all_read number widths =
      flat_beside (λ s. frames_left s number) (frames_after queries tables (λ x. kept (source_of x)) tuples number) senders pieces work.given
      (λ j x s p q. let w = (lane_work j x s p q).1 in
      ap (λ r. frames_left r number) w.sender ∙ lane_reads typed_for queries tables x w.base (kept (source_of x)) typed (all_get (CanMake queries) pieces j x can p) w.lane number tuples widths)
