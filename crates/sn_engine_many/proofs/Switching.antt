-- One switch more begins, takes a tuple, or is read out.
use Rattle.std.proofs.Common.{◌≡◌, ℕ, zero, suc, ◌<◌, List, [], ◌∷◌, ◌++◌, fold, length, slice_set, slice_get, Some, refl, ap, sym, ◌∙◌, subst, arith}
use Rattle.std.specs.List.{AllByRecursion, flat_map}
use Rattle.sn_base.proofs.Lists.{none_some, some_same}
use Rattle.sn_emit.specs.Plans.{Placed}
use Rattle.sn_emit.specs.declared.tables.Tables.{Tables}
use Rattle.sn_engine.specs.Intakes.{after_frame}
use Rattle.sn_engine.specs.declared.intake.Intake.{Intake}
use Rattle.sn_engine_lockstep.specs.declared.driver.Driver.{Driver}
use Rattle.sn_engine_lockstep.specs.declared.source.Source.{Source}
use Rattle.sn_engine_many.proofs.Taking.{fold_append}
use Rattle.sn_engine_many.specs.Switches.{AreWorking, CanBegin, IsResting, IsWorking, given_to}
use Rattle.sn_refine.specs.Steps.{Set}
use Rattle.sn_report.specs.Items.{Frame}
use Rattle.sn_types.specs.Typed.{HasWidths}
use Rattle.sn_types.specs.declared.typed_query.TypedQuery.{TypedQuery}

-- a source of a query that is there, for each lane
pub still_begins : (old new : Driver) → new.sources ≡ old.sources → length new.emitter ≡ length old.emitter → new.engine.t.queries ≡ old.engine.t.queries → CanBegin old → CanBegin new
still_begins old new sources count queries h = record {
  many = ap (λ (ss : List Source). length ss) sources ∙ h.many ∙ sym count;
  known = subst (λ (qs : List TypedQuery). AllByRecursion (λ (source : Source). source.query < length qs) new.sources) (sym queries)
      (subst (AllByRecursion (λ (source : Source). source.query < length old.engine.t.queries)) (sym sources) h.known);
}

-- ---- reading out

module _ (queries : List TypedQuery) (tables : Tables) (pieces : List Placed) (kept : Source → Set) (frames : List (List ℕ) → List Frame) (d e : Driver) (ds es : List Driver) (before between after : List Intake)
    (one : (tuples : List (List ℕ)) → AllByRecursion HasWidths tuples → IsWorking queries tables pieces kept tuples d → IsResting queries tables pieces e × (between ≡ fold after_frame before (frames tuples)))
    (others : (captures : List (List (List ℕ))) → AllByRecursion (AllByRecursion HasWidths) captures → AreWorking queries tables pieces kept captures ds
    → AllByRecursion (IsResting queries tables pieces) es × (after ≡ fold after_frame between (flat_map frames captures))) where
  pub drain_more : (captures : List (List (List ℕ))) → AllByRecursion (AllByRecursion HasWidths) captures → AreWorking queries tables pieces kept captures (d ∷ ds)
      → AllByRecursion (IsResting queries tables pieces) (e ∷ es) × (after ≡ fold after_frame before (flat_map frames captures))
  drain_more [] widths w = absurd w
  drain_more (tuples ∷ captures) widths w =
      let first = one tuples widths.0 w.0 in
      let rest = others captures widths.1 w.1 in (
        (first.0, rest.0),
        rest.1 ∙ ap (λ (ls : List Intake). fold after_frame ls (flat_map frames captures)) first.1 ∙ sym (fold_append after_frame before (frames tuples) (flat_map frames captures)),
      )

pub drain_none : (queries : List TypedQuery) (tables : Tables) (pieces : List Placed) (kept : Source → Set) (frames : List (List ℕ) → List Frame) (before : List Intake) (ds : List Driver) (captures : List (List (List ℕ))) → length ds ≡ 0
    → AreWorking queries tables pieces kept captures ds → AllByRecursion (IsResting queries tables pieces) ds × (before ≡ fold after_frame before (flat_map frames captures))
drain_none queries tables pieces kept frames before [] [] none w = (tt, refl)
drain_none queries tables pieces kept frames before [] (tuples ∷ captures) none w = absurd w
drain_none queries tables pieces kept frames before (d ∷ ds) captures none w = absurd (omega (arith, none))

-- ---- a tuple

pub give_more : (queries : List TypedQuery) (tables : Tables) (pieces : List Placed) (kept : Source → Set) (tuple : List ℕ) (i : ℕ) (d e : Driver) (ds : List Driver) (captures : List (List (List ℕ))) → slice_get ds i ≡ Some d
    → ((tuples : List (List ℕ)) → IsWorking queries tables pieces kept tuples d → IsWorking queries tables pieces kept (tuples ++ tuple ∷ []) e)
    → AreWorking queries tables pieces kept captures ds → AreWorking queries tables pieces kept (given_to i tuple captures) (slice_set ds i e)
give_more queries tables pieces kept tuple i d e [] captures at more w = absurd (none_some at)
give_more queries tables pieces kept tuple i d e (c ∷ ds) [] at more w = absurd w
give_more queries tables pieces kept tuple zero d e (c ∷ ds) (tuples ∷ captures) at more w = (more tuples (subst (IsWorking queries tables pieces kept tuples) (some_same c d at) w.0), w.1)
give_more queries tables pieces kept tuple (suc i) d e (c ∷ ds) (tuples ∷ captures) at more w = (w.0, give_more queries tables pieces kept tuple i d e ds captures at more w.1)

pub all_set : (P : Driver → Type 0) (ds : List Driver) (i : ℕ) (e : Driver) → P e → AllByRecursion P ds → AllByRecursion P (slice_set ds i e)
all_set P [] i e new h = tt
all_set P (d ∷ ds) zero e new h = (new, h.1)
all_set P (d ∷ ds) (suc i) e new h = (h.0, all_set P ds i e new h.1)
