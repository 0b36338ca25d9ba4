-- What several switches answer at the end of a window.
use Rattle.std.proofs.Common.{◌≡◌, ℕ, List, [], ◌∷◌, map, fold, true, Option, Some, refl, ap, sym, ◌∙◌}
use Rattle.std.specs.List.{AllByRecursion, flat_map}
use Rattle.sn_base.proofs.Lists.{all_front, all_rest}
use Rattle.sn_emit.specs.Making.{CanMake}
use Rattle.sn_emit.specs.Plans.{Placed, pieces_from}
use Rattle.sn_emit.specs.declared.tables.Tables.{Tables}
use Rattle.sn_engine.specs.Answers.{parts_of, window_of}
use Rattle.sn_engine.specs.Intakes.{after_frame, emptied, intakes_of, shared, total}
use Rattle.sn_engine.specs.Keeping.{gathered as kept_of, kept_for}
use Rattle.sn_engine.specs.declared.intake.Intake.{Intake}
use Rattle.sn_engine_lockstep.proofs.Apart.{pieces_apart}
use Rattle.sn_engine_lockstep.proofs.Parts.{parts_are}
use Rattle.sn_engine_lockstep.proofs.Recalling.{ended_are_left, recalls_ended}
use Rattle.sn_engine_lockstep.specs.Windows.{parts_from}
use Rattle.sn_engine_lockstep.specs.Work.{AreKept, Recalls, done, intake_of, lanes_left}
use Rattle.sn_engine_lockstep.specs.declared.source.Source.{Source}
use Rattle.sn_engine_many.proofs.Sent.{Left, gathered, left_gathered, left_own, left_value}
use Rattle.sn_engine_many.proofs.Taking.{all_ended, all_gathered, ended, ended_emptied, nothing_held, sent_in_all}
use Rattle.sn_engine_many.specs.Answers.{shared_sent}
use Rattle.sn_engine_many.specs.Switches.{shorts_of}
use Rattle.sn_engine_many.specs.Frames.{end_of, frames_of}
use Rattle.sn_multi.specs.Branches.{together}
use Rattle.sn_plan_fit.specs.Fits.{AreEntriesOf}
use Rattle.sn_plan_grammar.specs.declared.plan.Entry.{Entry}
use Rattle.sn_refine.specs.Steps.{Set}
use Rattle.sn_report.specs.Items.{Frame}
use Rattle.sn_report.specs.Items.{Item}
use Rattle.sn_types.specs.Typed.{HasWidths, IsTyped}
use Rattle.sn_types.specs.declared.answers.Answers.{Answers}
use Rattle.sn_types.specs.declared.typed_query.TypedQuery.{TypedQuery}

-- the tuples of each capture have the widths of fields
pub each_widths : (captures : List (List (List ℕ))) → AllByRecursion HasWidths (together captures) → AllByRecursion (AllByRecursion HasWidths) captures
each_widths [] h = tt
each_widths (tuples ∷ captures) h = (all_front HasWidths tuples (together captures) h, each_widths captures (all_rest HasWidths tuples (together captures) h))

module _ (queries : List TypedQuery) (tables : Tables) (window : ℕ) (entries : List Entry) (kept : Source → Set) (captures : List (List (List ℕ))) (paths : AreEntriesOf queries entries) where
  abbrev pieces : List Placed
  pieces = pieces_from 0 entries

  abbrev found : Placed → List Item
  found = gathered queries tables kept captures

  -- the lanes of the engine once all lanes have ended the window
  pub lanes_are : (before drained now firsts : List Intake) → before ≡ map shared (intakes_of 0 entries)
      → drained ≡ fold after_frame before (flat_map (λ tuples. flat_map (frames_of queries) (map (done queries tables kept tuples window) (shorts_of queries entries))) captures)
      → now ≡ fold after_frame drained (map (end_of window) firsts) → firsts ≡ map intake_of (shorts_of queries entries)
      → now ≡ map (ended window found) pieces
  lanes_are before drained now firsts none came ends lanes =
      let apart = pieces_apart queries 0 entries paths in
      let gathered_frames : List Frame = flat_map (λ tuples. flat_map (frames_of queries) (map (done queries tables kept tuples window) (shorts_of queries entries))) captures in
      ends
      ∙ ap (λ ls. fold after_frame drained (map (end_of window) ls)) lanes
      ∙ ap (λ ls. fold after_frame ls (map (end_of window) (map intake_of (shorts_of queries entries))))
      (came ∙ ap (λ ls. fold after_frame ls gathered_frames) (none ∙ nothing_held entries) ∙ all_gathered queries tables kept window pieces apart captures)
      ∙ all_ended queries tables kept window pieces apart found

  pub lanes_sent : total (map (ended window found) pieces) ≡ shared_sent queries tables pieces kept captures
  lanes_sent = sent_in_all queries tables window kept captures pieces

  pub lanes_empty : map emptied (map (ended window found) pieces) ≡ map shared (intakes_of 0 entries)
  lanes_empty = ended_emptied window found pieces ∙ sym (nothing_held entries)

  abbrev left_found : Placed → List Item
  left_found = left_gathered queries tables kept captures

  -- what is left of these lanes, where the engine keeps the prefixes that the pieces admitted
  lanes_are_left : (closed : Option ℕ) (sets : List Set) → AreKept pieces kept (kept_for closed sets window) → lanes_left queries closed sets (map (ended window found) pieces) ≡ map (ended window left_found) pieces
  lanes_are_left closed sets h = ended_are_left queries window (ended window found) (λ x. refl) (λ parts x. refl) kept closed sets pieces h

  pub lanes_answer : (typed_for : ℕ) (closed : Option ℕ) (sets : List Set) → ∥ IsTyped typed_for queries ∥₁ → AllByRecursion (CanMake queries) pieces → AllByRecursion HasWidths (together captures)
      → AreKept pieces kept (kept_for closed sets window) → parts_of queries (lanes_left queries closed sets (map (ended window found) pieces)) ≡ parts_from queries kept (together captures) 0 entries
  lanes_answer typed_for closed sets typed can widths h =
      ap (parts_of queries) (lanes_are_left closed sets h)
      ∙ parts_are typed_for window queries kept (together captures) pieces typed can (pieces_apart queries 0 entries paths) true left_found (Left queries tables kept captures)
      (λ q path p mine rising known. left_own queries tables kept captures q path p rising known)
      (left_value queries tables kept typed_for captures typed widths) entries paths refl

  -- what the engine keeps of the window is what the next one's lanes admit
  pub lanes_recall : (answers : Answers) (closed : Option ℕ) (sets : List Set) → answers.window ≡ window → closed ≡ Some (window_of (map (ended window found) pieces))
      → sets ≡ kept_of queries answers.parts (map (ended window found) pieces) → Recalls queries pieces (Some answers) closed sets
  lanes_recall answers closed sets number last are = recalls_ended queries window (ended window found) (λ x. refl) (λ parts x. refl) pieces answers closed sets number last are
