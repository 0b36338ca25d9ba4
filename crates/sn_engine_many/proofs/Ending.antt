-- The window that the lanes of an engine have ended.
use Rattle.std.proofs.Common.{◌≡◌, ℕ, List, [], ◌∷◌, ◌||◌, ◌&&◌, ◌==◌, Bool, true, false, cond, None, Some, Option, refl, ap, sym, ◌∙◌}
use Rattle.std.proofs.lemmas.Bool.{false≢true}
use Rattle.std.specs.List.{find, list_all, list_any}
use Rattle.std.specs.Option.{option_map_or}
use Rattle.sn_base.specs.Changed.{with_first}
use Rattle.sn_base.specs.declared.lane.Lane.{Lane}
use Rattle.sn_base.proofs.Lists.{by_test, nat_same, nat_self, or_true}
use Rattle.sn_engine.specs.Intakes.{after_frame, has_ended, is_lane, with_end}
use Rattle.sn_engine.specs.Taking.{end_fault, take_fault}
use Rattle.sn_engine.specs.declared.fault.TakeFault.{TakeFault}
use Rattle.sn_engine.specs.declared.fault.TakeFault.TheVariants.{Stranger}
use Rattle.sn_engine.specs.declared.intake.Intake.{Intake}
use Rattle.sn_report.specs.declared.frame.Frame.TheVariants.{End}
use Rattle.sn_types.specs.declared.typed_query.TypedQuery.{TypedQuery}

-- the lane of an End that is taken has ended its window
module _ (lane : Lane) (window : ℕ) (fault : Intake → Option TakeFault) where
  abbrev fault_of : Option Intake → Option TakeFault
  fault_of o = option_map_or fault o (Some Stranger)

  found_ends : (lanes : List Intake) → fault_of (find (is_lane lane) lanes) ≡ None → list_any (has_ended window) (with_first (is_lane lane) (with_end window) lanes) ≡ true
  found_ends [] h = absurd (some_none h)
    where
      some_none : Some Stranger ≡ None → ⊥
      some_none e = cc
  found_ends (x ∷ xs) h =
      by_test (is_lane lane x)
      (λ is. ap (λ b. list_any (has_ended window) (cond b (with_end window x ∷ xs) (x ∷ with_first (is_lane lane) (with_end window) xs))) is
      ∙ ap (λ b. b || list_any (has_ended window) xs) (nat_self window))
      (λ isnt. ap (λ b. list_any (has_ended window) (cond b (with_end window x ∷ xs) (x ∷ with_first (is_lane lane) (with_end window) xs))) isnt
      ∙ ap (λ b. has_ended window x || b) (found_ends xs (sym (ap (λ b. fault_of (cond b (Some x) (find (is_lane lane) xs))) isnt) ∙ h))
      ∙ or_true (has_ended window x))

pub end_taken : (queries : List TypedQuery) (lanes : List Intake) (closed : Option ℕ) (lane : Lane) (window : ℕ) → take_fault queries lanes closed (End lane window) ≡ None
    → list_any (has_ended window) (after_frame lanes (End lane window)) ≡ true
end_taken queries lanes closed lane window h = found_ends lane window (λ x. end_fault lanes closed x window) lanes h

-- where one lane has ended a window, and all have ended one, that is it
pub one_window : (window v : ℕ) (lanes : List Intake) → list_any (has_ended window) lanes ≡ true → list_all (has_ended v) lanes ≡ true → v ≡ window
one_window window v [] any all = absurd (false≢true any)
one_window window v (x ∷ xs) any all =
    by_test (has_ended window x)
    (λ is. same x.end is (all_first (has_ended v x) (list_all (has_ended v) xs) all))
    (λ isnt. one_window window v xs (sym (ap (λ b. b || list_any (has_ended window) xs) isnt) ∙ any) (all_rest (has_ended v x) (list_all (has_ended v) xs) all))
  where
    same : (end : Option ℕ) → option_map_or (λ e. e == window) end false ≡ true → option_map_or (λ e. e == v) end false ≡ true → v ≡ window
    same None a b = absurd (false≢true a)
    same (Some e) a b = sym (nat_same e v b) ∙ nat_same e window a

    all_first : (b c : Bool) → (b && c) ≡ true → b ≡ true
    all_first true c h = refl
    all_first false c h = h

    all_rest : (b c : Bool) → (b && c) ≡ true → c ≡ true
    all_rest true c h = h
    all_rest false true h = refl
    all_rest false false h = h
