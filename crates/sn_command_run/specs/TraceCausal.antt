-- serves proofs
-- Neither the lines nor the block of a window depend on a later one.
use Rattle.std.specs.Prelude.{◌≡◌, ℕ, ◌<◌, ◌≤◌, List, [], ◌∷◌, ◌++◌, nat_le, true, false, Option, None, Some}
use Rattle.std.proofs.Common.{refl, ap, ap₂, sym, ◌∙◌, arith}
use Rattle.std.proofs.lemmas.Bool.{le-leb, lt-leb}
use Rattle.sn_command_capture.specs.Wording.{IsCausal}
use Rattle.sn_core.specs.declared.supply.Supply.TheVariants.{End}
use Rattle.sn_command_run.specs.Causal.{plan_is_causal}
use Rattle.sn_command_run.specs.Planned.{Planned, Telling}
use Rattle.sn_command_run.specs.declared.form.Form.TheVariants as forms
use Rattle.sn_core_drive.specs.Lines.{lines_of}
use Rattle.sn_core_drive.specs.Turns.{up_to_close}
use Rattle.sn_command_run.specs.TraceWording.{after_windows, traced_wording, up_to, works_of}
use Rattle.sn_windows.specs.Rising.{AreRising, Window}

none_above : (number last : ℕ) (more : List Window) → number ≤ last → AreRising (Some last) more → up_to number more ≡ []
none_above number last [] le r = refl
none_above number last (w ∷ more) le r =
    let above : last < w.0 = r.0 in
    let no : nat_le w.0 number ≡ false = lt-leb w.0 number (omega arith) in
    rw no (none_above number w.0 more (omega arith) r.1)

below : (before : ℕ) (closed : List Window) (number : ℕ) (tuples : List (List ℕ)) (more : List Window)
    → AreRising (Some before) (closed ++ (number, tuples) ∷ more) → before < number
below before [] number tuples more r = r.0
below before (w ∷ closed) number tuples more r =
    let first : before < w.0 = r.0 in
    let rest = below w.0 closed number tuples more r.1 in
    omega arith

pub up_to_front : (last : Option ℕ) (closed : List Window) (number : ℕ) (tuples : List (List ℕ)) (more : List Window)
    → AreRising last (closed ++ (number, tuples) ∷ more) → up_to number (closed ++ (number, tuples) ∷ more) ≡ closed ++ (number, tuples) ∷ []
up_to_front last [] number tuples more r =
    let own : nat_le number number ≡ true = le-leb number number (omega arith) in
    rw own (ap (λ (rest : List Window). (number, tuples) ∷ rest) (none_above number number more (omega arith) r.1))
up_to_front last (w ∷ closed) number tuples more r =
    let before = below w.0 closed number tuples more r.1 in
    let own : nat_le w.0 number ≡ true = le-leb w.0 number (omega arith) in
    rw own (ap (λ (rest : List Window). w ∷ rest) (up_to_front (Some w.0) closed number tuples more r.1))

none_after : (last : Option ℕ) (closed : List Window) (number : ℕ) (tuples : List (List ℕ)) (more : List Window)
    → AreRising last (closed ++ (number, tuples) ∷ more) → AreRising last (closed ++ (number, tuples) ∷ [])
none_after last [] number tuples more r = (r.0, tt)
none_after last (w ∷ closed) number tuples more r = (r.0, none_after (Some w.0) closed number tuples more r.1)

pub trace_is_causal : (schedule : ℕ) (p : Planned) (reported : Telling) → IsCausal (traced_wording schedule p reported)
trace_is_causal schedule p reported closed number tuples more rising =
    ap₂ (λ (lines block : List ℕ). lines ++ block)
    (ap (λ (windows : List Window). lines_of (up_to_close (works_of p) (after_windows schedule p windows) End))
    (up_to_front None closed number tuples more rising ∙ sym (up_to_front None closed number tuples [] (none_after None closed number tuples more rising))))
    (plan_is_causal forms.Blocks reported p closed number tuples more rising)
