-- serves proofs
-- The block of a window depends on no later one.
use Rattle.std.specs.Prelude.{◌≡◌, ℕ, zero, suc, ◌<◌, ◌≤◌, List, [], ◌∷◌, ◌++◌, map, sum, cond, true, false, ◌==◌, slice_index, length, Option, None, Some}
use Rattle.std.specs.List.{range_with_len}
use Rattle.std.specs.Option.{option_map}
use Rattle.std.proofs.Common.{refl, ap, ◌∙◌, arith}
use Rattle.std.proofs.lemmas.Bool.{ne_eqb}
use Rattle.std.specs.FinSet as set
use Rattle.sn_base.specs.Groups.{Row}
use Rattle.sn_base.proofs.Lists.{by_test}
use Rattle.sn_command_capture.specs.Wording.{IsCausal, NeverStops}
use Rattle.sn_engine_lockstep.specs.Windows.{count_of, piece_count, plan_answers, refined_from}
use Rattle.sn_engine_split.specs.Opened.{is_open}
use Rattle.sn_emit.specs.Plans.{Placed, pieces_from}
use Rattle.sn_emit.specs.declared.tables.Tables.{Tables}
use Rattle.sn_plan_fit.specs.Paths.{place_in}
use Rattle.sn_out.specs.Records.{window_records}
use Rattle.sn_out.specs.Text.{block_text}
use Rattle.sn_plan_grammar.specs.declared.plan.Entry.{Entry}
use Rattle.sn_refine.specs.Passes.{passes_at, prefixes_before}
use Rattle.sn_refine.specs.Refined.{Windows, answered, before, column_of, level_rows, part_at, refined_parts, refined_rows, seen_at}
use Rattle.sn_refine.specs.Steps.{windows_of}
use Rattle.sn_types.specs.declared.answers.Answers.{Answers}
use Rattle.sn_types.specs.declared.answers.Part.{Part}
use Rattle.sn_types.specs.declared.typed_query.TypedQuery.{TypedQuery}
use Rattle.sn_types.specs.Typed.{query_at}
use Rattle.sn_command_run.specs.declared.form.Form.{Form}
use Rattle.sn_command_run.specs.declared.form.Form.TheVariants as forms
use Rattle.sn_command_run.specs.Planned.{Planned, Telling, answers_at, wording_in}
use Rattle.sn_windows.specs.Rising.{AreRising, Window}

map_same : {X Y : Type 0} (f g : X → Y) → ((x : X) → f x ≡ g x) → (xs : List X) → map f xs ≡ map g xs
map_same f g same [] = refl
map_same f g same (x ∷ xs) = rw (same x, map_same f g same xs) refl

before_same : (f g : ℕ → List Row) (w : ℕ) → ((u : ℕ) → u < w → f u ≡ g u) → before f w ≡ before g w
before_same f g zero h = refl
before_same f g (suc w) h = h w (omega arith)

-- windows that agree up to a number
module _ (ws vs : Windows) where
  abbrev Agree : ℕ → Type 0
  Agree w = (v : ℕ) → v ≤ w → ws v ≡ vs v

  same_rows : (query : TypedQuery) (path : List ℕ) (j w : ℕ) → Agree w → refined_rows query ws path j w ≡ refined_rows query vs path j w
  same_rows query path zero w a = ap (level_rows query (slice_index path 0)) (a w (omega arith))
  same_rows query path (suc j) w a =
      let earlier : before (refined_rows query ws path j) w ≡ before (refined_rows query vs path j) w =
      before_same (refined_rows query ws path j) (refined_rows query vs path j) w (λ u lt. same_rows query path j u (λ v le. a v (omega arith))) in
      ap (λ o. level_rows query (slice_index path (suc j)) (option_map (answered query (slice_index path j) (before (refined_rows query ws path j) w)) o))
      (a w (omega arith))
      ∙ ap (λ (rows : List Row). level_rows query (slice_index path (suc j)) (option_map (answered query (slice_index path j) rows) (vs w))) earlier

  same_seen : (query : TypedQuery) (path : List ℕ) (j w : ℕ) → Agree w → seen_at query ws path j w ≡ seen_at query vs path j w
  same_seen query path zero w a = a w (omega arith)
  same_seen query path (suc j) w a =
      let earlier : before (refined_rows query ws path j) w ≡ before (refined_rows query vs path j) w =
      before_same (refined_rows query ws path j) (refined_rows query vs path j) w (λ u lt. same_rows query path j u (λ v le. a v (omega arith))) in
      ap (λ o. option_map (answered query (slice_index path j) (before (refined_rows query ws path j) w)) o) (a w (omega arith))
      ∙ ap (λ (rows : List Row). option_map (answered query (slice_index path j) rows) (vs w)) earlier

  -- so do the tuples that tables admit
  same_passes : (query : TypedQuery) (entries : Option ℕ) (path : List ℕ) (j w : ℕ) → Agree w
      → passes_at query entries ws path j w ≡ passes_at query entries vs path j w
  same_passes query entries path zero w a = a w (omega arith)
  same_passes query entries path (suc j) w a =
      let earlier : before (refined_rows query ws path j) w ≡ before (refined_rows query vs path j) w =
      before_same (refined_rows query ws path j) (refined_rows query vs path j) w (λ u lt. same_rows query path j u (λ v le. a v (omega arith))) in
      ap (λ (rows : List Row). cond (is_open entries (set.from_list (column_of query rows))) (ws w) (seen_at query ws path (suc j) w)) earlier
      ∙ ap (λ o. cond (is_open entries (prefixes_before query vs path j w)) o (seen_at query ws path (suc j) w)) (a w (omega arith))
      ∙ ap (λ o. cond (is_open entries (prefixes_before query vs path j w)) (vs w) o) (same_seen query path (suc j) w a)

  same_parts : (q : ℕ) (query : TypedQuery) (path : List ℕ) (w : ℕ) → Agree w → refined_parts q query ws path w ≡ refined_parts q query vs path w
  same_parts q query path w a =
      map_same (part_at q path (λ j. refined_rows query ws path j w)) (part_at q path (λ j. refined_rows query vs path j w))
      (λ j. ap (made (slice_index path j)) (same_rows query path j w a)) (range_with_len 0 (length path))
    where
      made : ℕ → List Row → Part
      made level rows = record { query = q; level = level; rows = rows }

  same_refined : (queries : List TypedQuery) (w q : ℕ) (es : List Entry) → Agree w → refined_from queries ws w q es ≡ refined_from queries vs w q es
  same_refined queries w q [] a = refl
  same_refined queries w q (e ∷ es) a =
      ap (λ (ps : List Part). ps ++ refined_from queries ws w (suc q) es) (same_parts q (query_at queries q) e.levels w a)
      ∙ ap (λ (ps : List Part). refined_parts q (query_at queries q) vs e.levels w ++ ps) (same_refined queries w (suc q) es a)

  same_counts : (queries : List TypedQuery) (tables : Tables) (w : ℕ) (xs : List Placed) → Agree w
      → map (piece_count queries tables ws w) xs ≡ map (piece_count queries tables vs w) xs
  same_counts queries tables w xs a =
      map_same (piece_count queries tables ws w) (piece_count queries tables vs w)
      (λ x. ap (count_of queries tables.depth x) (same_passes (query_at queries x.query) tables.entries x.path (place_in x.path x.piece.level) w a)) xs

  same_answers : (queries : List TypedQuery) (tables : Tables) (es : List Entry) (w : ℕ) → Agree w
      → plan_answers queries tables es ws w ≡ plan_answers queries tables es vs w
  same_answers queries tables es w a =
      ap (λ (ns : List ℕ). made (sum ns) (refined_from queries ws w 0 es)) (same_counts queries tables w (pieces_from 0 es) a)
      ∙ ap (made (sum (map (piece_count queries tables vs w) (pieces_from 0 es)))) (same_refined queries w 0 es a)
    where
      made : ℕ → List Part → Answers
      made emitted parts = record { window = w; emitted = emitted; parts = parts }

-- no window above a number is one up to it
none_above : (last : ℕ) (more : List Window) (v : ℕ) → AreRising (Some last) more → v ≤ last → windows_of more v ≡ None
none_above last [] v r le = refl
none_above last (w ∷ more) v r le =
    let above : last < w.0 = r.0 in
    let no : (w.0 == v) ≡ false = ne_eqb w.0 v (λ e. omega arith) in
    rw no (none_above w.0 more v r.1 (omega arith))

-- up to a window, those after it don't matter
up_to : (last : Option ℕ) (closed : List Window) (number : ℕ) (tuples : List (List ℕ)) (more : List Window) (v : ℕ)
    → AreRising last (closed ++ (number, tuples) ∷ more) → v ≤ number
    → windows_of (closed ++ (number, tuples) ∷ more) v ≡ windows_of (closed ++ (number, tuples) ∷ []) v
up_to last [] number tuples more v r le = by_test (number == v) (λ is. rw is refl) (λ isnt. rw isnt (none_above number more v r.1 le))
up_to last (w ∷ closed) number tuples more v r le =
    by_test (w.0 == v) (λ is. rw is refl) (λ isnt. rw isnt (up_to (Some w.0) closed number tuples more v r.1 le))

-- nor do they for its answers
answers_stand : (p : Planned) (closed : List Window) (number : ℕ) (tuples : List (List ℕ)) (more : List Window)
    → AreRising None (closed ++ (number, tuples) ∷ more)
    → answers_at p (closed ++ (number, tuples) ∷ more) number ≡ answers_at p (closed ++ (number, tuples) ∷ []) number
answers_stand p closed number tuples more rising =
    same_answers (windows_of (closed ++ (number, tuples) ∷ more)) (windows_of (closed ++ (number, tuples) ∷ [])) p.queries p.tables p.entries number
    (λ v le. up_to None closed number tuples more v rising le)

pub plan_is_causal : (form : Form) (reported : Telling) (p : Planned) → IsCausal (wording_in form reported p)
plan_is_causal forms.Blocks reported p closed number tuples more rising =
    ap (λ (a : Answers). block_text p.queries (reported a) true) (answers_stand p closed number tuples more rising)
plan_is_causal forms.Records reported p closed number tuples more rising =
    ap (λ (a : Answers). window_records p.queries (reported a)) (answers_stand p closed number tuples more rising)

-- in neither form a window stops
pub plan_never_stops : (form : Form) (reported : Telling) (p : Planned) → NeverStops (wording_in form reported p)
plan_never_stops forms.Blocks reported p windows number tuples = refl
plan_never_stops forms.Records reported p windows number tuples = refl
