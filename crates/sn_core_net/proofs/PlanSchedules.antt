-- Whatever the schedule, the answers of a plan's net are those of the plan.
use Rattle.std.proofs.Common.{◌≡◌, ℕ, suc, ◌<◌, List, [], ◌∷◌, map, length, true, Option, Some, None, ◌∙◌, arith}
use Rattle.sn_base.proofs.Lists.{map_both}
use Rattle.sn_core.proofs.Counting.{taken_and_due, taken_when_done}
use Rattle.sn_core.proofs.Rising.{windows_hold}
use Rattle.sn_core.specs.Calls.{AreAllowed, Call, after_calls, answers_taken, made, supplies_of}
use Rattle.sn_core.specs.Due.{Tuples, due, windows_of}
use Rattle.sn_core.specs.Needs.{is_done}
use Rattle.sn_core.specs.Nets.{Lane}
use Rattle.sn_core.specs.declared.supply.Supply.{Supply}
use Rattle.sn_core.specs.Numbers.{DontFall, HoldWindows, look_up}
use Rattle.sn_emit.specs.Plans.{pieces_from, tables_of}
use Rattle.sn_plan_fit.specs.Fits.{Fits}
use Rattle.sn_pipe.specs.Pipes.{PipeState}
use Rattle.sn_plan_grammar.specs.declared.plan.Entry.{Entry}
use Rattle.sn_refine.specs.Steps.{windows_of as given_windows}
use Rattle.sn_report.specs.Items.{Item}
use Rattle.sn_switch.specs.declared.switch.Switch.{Switch}
use Rattle.sn_switch.specs.Texts.{IsSwitch}
use Rattle.sn_types.specs.declared.typed_query.TypedQuery.{TypedQuery}
use Rattle.sn_types.specs.Typed.{IsTyped}
use Rattle.sn_engine_lockstep.proofs.Laws.{all_windows, plan_made}
use Rattle.sn_engine_lockstep.specs.Windows.{plan_answers}
use Rattle.sn_core_net.proofs.Lawful.{lawful}
use Rattle.sn_core_net.proofs.PlanAnswers.{plan_windows}
use Rattle.sn_core_net.specs.PlanWorkings.{AreLanesFor, HaveWidths, given_of, workings}
use Rattle.sn_windows.specs.Rising.{AreRising, Window}

rise_after : (held : ℕ → Option (List (List ℕ))) (last : ℕ) (windows : List (Tuples (List ℕ))) → HoldWindows held (suc last) windows → AreRising (Some last) (map given_of windows)
rise_after held last [] h = tt
rise_after held last (x ∷ xs) h = (omega (arith, h.0), rise_after held x.number xs h.3)

-- windows by their numbers rise
rise : (held : ℕ → Option (List (List ℕ))) (windows : List (Tuples (List ℕ))) → HoldWindows held 0 windows → AreRising None (map given_of windows)
rise held [] h = tt
rise held (x ∷ xs) h = (tt, rise_after held x.number xs h.3)

pub plan_schedules : (typed_for room : ℕ) (queries : List TypedQuery) (s : Switch) (entries : List Entry) (lanes : List (Lane PipeState Item)) (calls : List (Call (List ℕ))) →
    ∥ IsTyped typed_for queries ∥₁ → IsSwitch s → Fits queries s entries → AreLanesFor queries (tables_of s) (pieces_from 0 entries) lanes → 0 < room → 0 < length lanes →
    AreAllowed (workings queries entries) (made (workings queries entries) room lanes) calls → DontFall 0 (supplies_of calls) → HaveWidths (windows_of (supplies_of calls)) →
    is_done (after_calls (workings queries entries) (made (workings queries entries) room lanes) calls) ≡ true →
    answers_taken (workings queries entries) (made (workings queries entries) room lanes) calls
    ≡ map (λ x. plan_answers queries (tables_of s) entries (given_windows (map given_of (windows_of (supplies_of calls)))) x.number) (windows_of (supplies_of calls))
plan_schedules typed_for room queries s entries lanes calls t is fits are some_room some_lane allowed dont_fall widths done =
    let windows : List (Tuples (List ℕ)) = windows_of (supplies_of calls) in
    taken_when_done (workings queries entries) (lawful queries entries) room lanes calls some_room some_lane allowed done
    ∙ plan_windows typed_for (tables_of s) queries entries t fits.paths (plan_made typed_for queries s entries t is fits) lanes are some_lane windows widths
    ∙ all_windows queries (tables_of s) entries (map given_of windows) fits.paths (rise (look_up windows) windows (windows_hold (supplies_of calls) dont_fall))
    ∙ map_both given_of (λ (g : Window). plan_answers queries (tables_of s) entries (given_windows (map given_of windows)) g.0) windows

-- what is due from a net as it is made: the answers of the plan for what follows
pub plan_due : (typed_for room : ℕ) (queries : List TypedQuery) (s : Switch) (entries : List Entry) (lanes : List (Lane PipeState Item)) (following : List (Supply (List ℕ))) →
    ∥ IsTyped typed_for queries ∥₁ → IsSwitch s → Fits queries s entries → AreLanesFor queries (tables_of s) (pieces_from 0 entries) lanes → 0 < room → 0 < length lanes → DontFall 0 following → HaveWidths (windows_of following) →
    due (workings queries entries) (made (workings queries entries) room lanes) following ≡ map (λ x. plan_answers queries (tables_of s) entries (given_windows (map given_of (windows_of following))) x.number) (windows_of following)
plan_due typed_for room queries s entries lanes following t is fits are some_room some_lane dont_fall widths =
    let windows : List (Tuples (List ℕ)) = windows_of following in
    taken_and_due (workings queries entries) (lawful queries entries) room lanes [] following some_room some_lane tt
    ∙ plan_windows typed_for (tables_of s) queries entries t fits.paths (plan_made typed_for queries s entries t is fits) lanes are some_lane windows widths
    ∙ all_windows queries (tables_of s) entries (map given_of windows) fits.paths (rise (look_up windows) windows (windows_hold following dont_fall))
    ∙ map_both given_of (λ (g : Window). plan_answers queries (tables_of s) entries (given_windows (map given_of windows)) g.0) windows
