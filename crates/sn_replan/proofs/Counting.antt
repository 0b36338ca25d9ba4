-- The early items of windows one after another.
use Rattle.std.proofs.Common.{◌≡◌, ℕ, List, [], ◌∷◌, ◌++◌, map, Option, Some, None, refl, ap, sym, ◌∙◌}
use Rattle.std.proofs.lemmas.List.{map-append}
use Rattle.sn_emit.specs.Plans.{pieces_from}
use Rattle.sn_emit.specs.declared.tables.Tables.{Tables}
use Rattle.sn_engine_lockstep.specs.Early.{early_by, early_from, plan_early}
use Rattle.sn_engine_lockstep.specs.Known.{last_from}
use Rattle.sn_engine_lockstep.specs.Sources.{kept_in}
use Rattle.sn_engine_lockstep.specs.Windows.{answers_from, window_answers, window_of}
use Rattle.sn_engine_lockstep.proofs.Driving.{end_is, end_of}
use Rattle.sn_engine_lockstep.proofs.Earlies.{all_early_windows}
use Rattle.sn_plan_fit.specs.Fits.{AreEntriesOf}
use Rattle.sn_plan_grammar.specs.declared.plan.Entry.{Entry}
use Rattle.sn_refine.specs.Steps.{windows_of}
use Rattle.sn_types.specs.declared.answers.Answers.{Answers}
use Rattle.sn_types.specs.declared.typed_query.TypedQuery.{TypedQuery}
use Rattle.sn_windows.specs.Rising.{AreRising, IsAbove, Window}

-- ---- one window more

module _ (queries : List TypedQuery) (tables : Tables) (entries : List Entry) where
  abbrev pub early_next : List Window → ℕ → List (List ℕ) → ℕ
  early_next closed number tuples = early_by queries tables (pieces_from 0 entries) (kept_in queries (last_from None (answers_from queries tables entries None closed)) number) tuples

  one_more : (last : Option Answers) (closed : List Window) (number : ℕ) (tuples : List (List ℕ))
      → early_from queries tables entries last (closed ++ (number, tuples) ∷ [])
      ≡ early_from queries tables entries last closed ++ early_by queries tables (pieces_from 0 entries) (kept_in queries (last_from last (answers_from queries tables entries last closed)) number) tuples ∷ []
  one_more last [] number tuples = refl
  one_more last (w ∷ closed) number tuples =
      let kept = kept_in queries last w.0 in
      ap (λ (ns : List ℕ). early_by queries tables (pieces_from 0 entries) kept w.1 ∷ ns) (one_more (Some (window_answers queries tables entries kept w.0 w.1)) closed number tuples)

  pub next_early : (closed : List Window) (number : ℕ) (tuples : List (List ℕ)) → AreEntriesOf queries entries → AreRising None (closed ++ (number, tuples) ∷ [])
      → early_next closed number tuples ≡ plan_early queries tables entries (windows_of (closed ++ (number, tuples) ∷ [])) number
  next_early closed number tuples h rising =
      let all : List Window = closed ++ (number, tuples) ∷ [] in
      let right : Window → ℕ = λ g. plan_early queries tables entries (windows_of all) g.0 in
      let now : ℕ = early_next closed number tuples in
      let e : early_from queries tables entries None closed ++ now ∷ [] ≡ map right closed ++ right (number, tuples) ∷ [] =
      sym (one_more None closed number tuples) ∙ all_early_windows queries tables entries all h rising ∙ map-append right closed ((number, tuples) ∷ []) in
      sym (end_is now (early_from queries tables entries None closed) now) ∙ ap (end_of now) e ∙ end_is now (map right closed) (right (number, tuples))

  -- a window after the last one that was answered comes after all of them
  pub rising_next : (last : Option Answers) (closed : List Window) (number : ℕ) (tuples : List (List ℕ)) → AreRising (window_of last) closed
      → IsAbove (window_of (last_from last (answers_from queries tables entries last closed))) number → AreRising (window_of last) (closed ++ (number, tuples) ∷ [])
  rising_next last [] number tuples rising above = (above, tt)
  rising_next last (w ∷ closed) number tuples rising above =
      (rising.0, rising_next (Some (window_answers queries tables entries (kept_in queries last w.0) w.0 w.1)) closed number tuples rising.1 above)
