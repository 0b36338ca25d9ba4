-- What the engine answers at a close.
use Rattle.std.proofs.Common.{◌≡◌, ℕ, ◌==◌, List, [], ◌∷◌, true, Option, None, Some, refl, ap}
use Rattle.std.specs.List.{list_all}
use Rattle.sn_base.proofs.Lists.{and_both, nat_self}
use Rattle.sn_core.specs.Events.{kept_from}
use Rattle.sn_engine.specs.Answers.{answers_of, window_of}
use Rattle.sn_engine.specs.Intakes.{has_ended}
use Rattle.sn_engine.specs.Keeping.{kept_for}
use Rattle.sn_engine.specs.declared.intake.Intake.{Intake}
use Rattle.sn_refine.specs.Steps.{Set}
use Rattle.sn_report.specs.Items.{Item}
use Rattle.sn_types.specs.declared.typed_query.TypedQuery.{TypedQuery}
use Rattle.sn_core_net.specs.PlanWorkings.{all_ended}
use Rattle.sn_core_net.specs.States.{last_of}

-- all lanes have ended the window
pub have_ended : (window : ℕ) (xs : List Intake) (items : List (List Item)) → list_all (has_ended window) (all_ended window xs items) ≡ true
have_ended window [] items = refl
have_ended window (x ∷ xs) [] = and_both (window == window) (list_all (has_ended window) (all_ended window xs [])) (nat_self window) (have_ended window xs [])
have_ended window (x ∷ xs) (own ∷ items) = and_both (window == window) (list_all (has_ended window) (all_ended window xs items)) (nat_self window) (have_ended window xs items)

kept_same : (closed : Option ℕ) (sets : List Set) (window : ℕ) → kept_for closed sets window ≡ kept_from (last_of closed sets) window
kept_same None sets window = refl
kept_same (Some last) sets window = refl

-- the prefixes by which items are dropped are those of the window before this one
pub prefixes_same : (queries : List TypedQuery) (closed : Option ℕ) (sets : List Set) (window : ℕ) (xs : List Intake) (items : List (List Item)) →
    answers_of queries (kept_for closed sets (window_of (all_ended window xs items))) (all_ended window xs items) ≡ answers_of queries (kept_from (last_of closed sets) window) (all_ended window xs items)
prefixes_same queries closed sets window [] items = refl
prefixes_same queries closed sets window (x ∷ xs) [] = ap (λ (kept : List Set). answers_of queries kept (all_ended window (x ∷ xs) [])) (kept_same closed sets window)
prefixes_same queries closed sets window (x ∷ xs) (own ∷ items) = ap (λ (kept : List Set). answers_of queries kept (all_ended window (x ∷ xs) (own ∷ items))) (kept_same closed sets window)
