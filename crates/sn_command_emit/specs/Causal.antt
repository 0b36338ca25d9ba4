-- serves proofs
-- The frames of a window depend on no later one.
use Rattle.std.specs.Prelude.{◌≡◌, ℕ, zero, suc, ◌<◌, List, [], ◌∷◌, ◌++◌, map, length, false, ◌==◌, slice_index, Option, None, Some}
use Rattle.std.specs.List.{AllByRecursion, flat_map, range_with_len}
use Rattle.std.specs.Option.{option_map}
use Rattle.std.proofs.Common.{refl, ap, ◌∙◌, arith}
use Rattle.std.proofs.lemmas.Bool.{ne_eqb}
use Rattle.sn_base.specs.Groups.{Row}
use Rattle.sn_base.proofs.Lists.{all_weaker, by_test}
use Rattle.sn_command_capture.specs.Wording.{IsCausal}
use Rattle.sn_engine_lockstep.specs.Work.{name_of}
use Rattle.sn_emit.specs.Plans.{Placed, pieces_from}
use Rattle.sn_emit.specs.Senders.{row_frame}
use Rattle.sn_plan_fit.specs.Paths.{place_in}
use Rattle.sn_refine.specs.Refined.{Windows, answered, before, level_rows, refined_rows}
use Rattle.sn_refine.specs.Steps.{Set, prefixes_of, windows_of}
use Rattle.sn_report.specs.Items.{Frame}
use Rattle.sn_report.specs.declared.frame.Frame.TheVariants.{End}
use Rattle.sn_report.specs.Frames.{spelling}
use Rattle.sn_command_run.specs.Planned.{Planned}
use Rattle.sn_types.specs.declared.typed_query.TypedQuery.{TypedQuery}
use Rattle.sn_types.specs.Typed.{query_at}
use Rattle.sn_command_emit.specs.Sent.{frames_at, frames_after, frames_wording, kept_of, packet_frames, prefixes_for, reads_out, sends_at}
use Rattle.sn_windows.specs.Rising.{AreRising, Window}

flat_same : {X Y : Type 0} (f g : X → List Y) (xs : List X) → AllByRecursion (λ x. f x ≡ g x) xs → flat_map f xs ≡ flat_map g xs
flat_same f g [] same = refl
flat_same f g (x ∷ xs) same = ap (λ ys. ys ++ flat_map f xs) same.0 ∙ ap (λ ys. g x ++ ys) (flat_same f g xs same.1)

all_each : {X : Type 0} (P : X → Type 0) → ((x : X) → P x) → (xs : List X) → AllByRecursion P xs
all_each P h [] = tt
all_each P h (x ∷ xs) = (h x, all_each P h xs)

-- ---- windows that agree below a number

module _ (ws vs : Windows) where
  abbrev AgreeBelow : ℕ → Type 0
  AgreeBelow w = (v : ℕ) → v < w → ws v ≡ vs v

  earlier_same : (f g : ℕ → List Row) (w : ℕ) → ((u : ℕ) → u < w → f u ≡ g u) → before f w ≡ before g w
  earlier_same f g zero h = refl
  earlier_same f g (suc w) h = h w (omega arith)

  same_rows : (query : TypedQuery) (path : List ℕ) (j w : ℕ) → AgreeBelow (suc w) → refined_rows query ws path j w ≡ refined_rows query vs path j w
  same_rows query path zero w a = ap (level_rows query (slice_index path 0)) (a w (omega arith))
  same_rows query path (suc j) w a =
      let earlier : before (refined_rows query ws path j) w ≡ before (refined_rows query vs path j) w =
      earlier_same (refined_rows query ws path j) (refined_rows query vs path j) w (λ u lt. same_rows query path j u (λ v less. a v (omega arith))) in
      ap (λ o. level_rows query (slice_index path (suc j)) (option_map (answered query (slice_index path j) (before (refined_rows query ws path j) w)) o))
      (a w (omega arith))
      ∙ ap (λ (rows : List Row). level_rows query (slice_index path (suc j)) (option_map (answered query (slice_index path j) rows) (vs w))) earlier

  same_before : (query : TypedQuery) (path : List ℕ) (j w : ℕ) → AgreeBelow w
      → before (refined_rows query ws path j) w ≡ before (refined_rows query vs path j) w
  same_before query path j w a = earlier_same (refined_rows query ws path j) (refined_rows query vs path j) w
      (λ u lt. same_rows query path j u (λ v less. a v (omega arith)))

-- no window above a number is one below it
none_above : (last : ℕ) (more : List Window) (v : ℕ) → AreRising (Some last) more → v < last → windows_of more v ≡ None
none_above last [] v r lt = refl
none_above last (w ∷ more) v r lt =
    let above : last < w.0 = r.0 in
    let no : (w.0 == v) ≡ false = ne_eqb w.0 v (λ e. omega (arith, e, lt, above)) in
    rw no (none_above w.0 more v r.1 (omega (arith, lt, above)))

-- below a window, neither those after it nor its tuples matter
below : (last : Option ℕ) (closed : List Window) (number : ℕ) (tuples other : List (List ℕ)) (more : List Window) (v : ℕ)
    → AreRising last (closed ++ (number, tuples) ∷ more) → v < number
    → windows_of (closed ++ (number, tuples) ∷ more) v ≡ windows_of (closed ++ (number, other) ∷ []) v
below last [] number tuples other more v r lt = let no : (number == v) ≡ false = ne_eqb number v (λ e. omega (arith, e, lt)) in rw no
    (none_above number more v r.1 lt)
below last (w ∷ closed) number tuples other more v r lt =
    by_test (w.0 == v) (λ is. rw is refl) (λ isnt. rw isnt (below (Some w.0) closed number tuples other more v r.1 lt))

-- ---- the frames of a window

module _ (p : Planned) (number : ℕ) (tuples : List (List ℕ)) (kept other : Placed → Set)
    (same : AllByRecursion (λ (x : Placed). kept x ≡ other x) (pieces_from 0 p.entries)) where
  abbrev pieces : List Placed
  pieces = pieces_from 0 p.entries

  same_packet : (n : ℕ) → packet_frames p kept tuples n ≡ packet_frames p other tuples n
  same_packet n =
      let f = frames_at p.queries p.tables kept tuples n in
      let g = frames_at p.queries p.tables other tuples n in
      flat_same f g pieces
      (all_weaker (λ (x : Placed). kept x ≡ other x) (λ (x : Placed). f x ≡ g x)
      (λ x e. ap (λ (k : Set). map (row_frame (name_of x)) (sends_at p.queries p.tables x k tuples n)) e) pieces same)

  same_after : flat_map (frames_after p.queries p.tables kept tuples number) pieces ≡ flat_map (frames_after p.queries p.tables other tuples number) pieces
  same_after =
      let f = frames_after p.queries p.tables kept tuples number in
      let g = frames_after p.queries p.tables other tuples number in
      flat_same f g pieces
      (all_weaker (λ (x : Placed). kept x ≡ other x) (λ (x : Placed). f x ≡ g x)
      (λ x e. ap (λ (k : Set). map (row_frame (name_of x)) (reads_out p.queries p.tables x k tuples) ++ End (name_of x) number ∷ []) e) pieces same)

  -- lanes that admit the same send the same
  pub same_frames : flat_map (packet_frames p kept tuples) (range_with_len 0 (length tuples)) ++ flat_map
      (frames_after p.queries p.tables kept tuples number) pieces
      ≡ flat_map (packet_frames p other tuples) (range_with_len 0 (length tuples)) ++ flat_map (frames_after p.queries p.tables other tuples number) pieces
  same_frames =
      let numbers : List ℕ = range_with_len 0 (length tuples) in
      ap (λ (fs : List Frame). fs ++ flat_map (frames_after p.queries p.tables kept tuples number) pieces)
      (flat_same (packet_frames p kept tuples) (packet_frames p other tuples) numbers
      (all_each (λ (n : ℕ). packet_frames p kept tuples n ≡ packet_frames p other tuples n) same_packet numbers))
      ∙ ap (λ (fs : List Frame). flat_map (packet_frames p other tuples) numbers ++ fs) same_after

same_prefixes : (query : TypedQuery) (windows others : List Window) (path : List ℕ) (w : ℕ) → AgreeBelow (windows_of windows) (windows_of others) w
    → (place : ℕ) → prefixes_for query windows path w place ≡ prefixes_for query others path w place
same_prefixes query windows others path w a zero = refl
same_prefixes query windows others path w a (suc j) = ap (prefixes_of query) (same_before (windows_of windows) (windows_of others) query path j w a)

-- nor do they for what the lanes admit
pub kept_is_causal : (queries : List TypedQuery) (closed : List Window) (number : ℕ) (tuples : List (List ℕ)) (more : List Window)
    → AreRising None (closed ++ (number, tuples) ∷ more)
    → (x : Placed) → kept_of queries (closed ++ (number, tuples) ∷ more) number x ≡ kept_of queries (closed ++ (number, tuples) ∷ []) number x
kept_is_causal queries closed number tuples more rising x =
    same_prefixes (query_at queries x.query) (closed ++ (number, tuples) ∷ more) (closed ++ (number, tuples) ∷ []) x.path number
    (λ v lt. below None closed number tuples tuples more v rising lt) (place_in x.path x.piece.level)

pub frames_are_causal : (p : Planned) → IsCausal (frames_wording p)
frames_are_causal p closed number tuples more rising =
    let all : List Window = closed ++ (number, tuples) ∷ more in
    let known : List Window = closed ++ (number, tuples) ∷ [] in
    ap (flat_map (spelling 2))
    (same_frames p number tuples (kept_of p.queries all number) (kept_of p.queries known number)
    (all_each (λ (x : Placed). kept_of p.queries all number x ≡ kept_of p.queries known number x) (kept_is_causal p.queries closed number tuples more rising)
    (pieces_from 0 p.entries)))
