-- What is said of windows are exactly the stays of the addresses that a query answers, and those of a monotone query are printed in time.
use Rattle.std.proofs.Common.{◌≡◌, ℕ, suc, ◌+◌, ◌-◌, ◌<◌, ◌≤◌, ◌==◌, List, [], ◌∷◌, map, length, get_or, Bool, true, false, cond, is_some, Option, None, Some, refl, ap, sym, ◌∙◌, subst, arith}
use Rattle.std.specs.List.{AllByRecursion}
use Rattle.std.specs.Option.{option_map_or}
use Rattle.std.proofs.lemmas.Bool.{false≢true}
use Rattle.sn_base.proofs.Lists.{all_weaker, by_test, nat_same, none_some, some_same}
use Rattle.sn_command_detect.specs.Detected.{AnsweredIn, AreExact, AreInTime, PrintedIn, look_in, looks_in, stays_in, watched_from}
use Rattle.sn_command_detect.proofs.EntryLemmas.{as_many, entry_at, path_ends, path_some}
use Rattle.sn_detect.specs.declared.look.Look.{Look}
use Rattle.sn_detect.specs.Keeping.{InTime, Rise}
use Rattle.sn_detect.specs.Looks.{holds, look_at, refined_at, unrefined_at}
use Rattle.sn_detect.specs.Stays.{HeldIn, IsInTime, IsStay, ReportedIn}
use Rattle.sn_detect.proofs.LookLemmas.{stay_in_time, stays_are}
use Rattle.sn_detect.proofs.StayLemmas.{same_stays}
use Rattle.sn_fields.specs.declared.field.Field.{Field}
use Rattle.sn_plan_fit.specs.Fits.{AreEntriesOf, IsEntryOf}
use Rattle.sn_plan_grammar.specs.declared.plan.Entry.{Entry}
use Rattle.sn_refine.specs.Refined.{Windows, column_of, level_rows, refined_rows}
use Rattle.sn_refine.specs.Steps.{windows_of}
use Rattle.sn_refine.proofs.Levels.{no_rows}
use Rattle.sn_refine_laws.specs.Monotone.{is_monotone}
use Rattle.sn_refine_laws.specs.Reported.{EndsFinest, is_reported}
use Rattle.sn_refine_laws.proofs.Windows.{reported_in_time}
use Rattle.sn_types.specs.declared.typed_query.TypedQuery.{TypedQuery}
use Rattle.sn_types.specs.Typed.{HasWidths, IsTyped, finest_level, query_at}
use Rattle.sn_windows.specs.Rising.{AreRising, Window}

-- ---- a look is what the answers of its window hold

module _ (query : TypedQuery) (windows : Windows) (path : List ℕ) where
  abbrev looks : List Window → List Look
  looks ws = map (look_in query windows path) ws

  abbrev last : ℕ
  last = length path - 1

  unrefined_same : (ws : List Window) (w : ℕ) → unrefined_at (looks ws) w ≡ column_of query (level_rows query (finest_level query) (windows_of ws w))
  unrefined_same [] w = refl
  unrefined_same (v ∷ ws) w = by_number (unrefined_same ws w) (v.0 == w)
    where
      by_number : unrefined_at (looks ws) w ≡ column_of query (level_rows query (finest_level query) (windows_of ws w))
          → (b : Bool) → option_map_or (λ (l : Look). l.unrefined) (cond b (Some (look_in query windows path v)) (look_at (looks ws) w)) []
          ≡ column_of query (level_rows query (finest_level query) (cond b (Some v.1) (windows_of ws w)))
      by_number rest true = refl
      by_number rest false = rest

  refined_found : (ws : List Window) (w : ℕ) → refined_at (looks ws) w ≡ option_map_or (λ (ts : List (List ℕ)). column_of query (refined_rows query windows path last w)) (windows_of ws w) []
  refined_found [] w = refl
  refined_found (v ∷ ws) w =
      let left : Bool → List ℕ = λ b. option_map_or (λ (l : Look). l.refined) (cond b (Some (look_in query windows path v)) (look_at (looks ws) w)) [] in
      let right : Bool → List ℕ = λ b. option_map_or (λ (ts : List (List ℕ)). column_of query (refined_rows query windows path last w)) (cond b (Some v.1) (windows_of ws w)) [] in
      by_test (v.0 == w)
      (λ is. ap left is ∙ ap (λ (u : ℕ). column_of query (refined_rows query windows path last u)) (nat_same v.0 w is) ∙ sym (ap right is))
      (λ isnt. ap left isnt ∙ refined_found ws w ∙ sym (ap right isnt))

  printed_found : (w : ℕ) (o : Option (List (List ℕ))) → windows w ≡ o → option_map_or (λ (ts : List (List ℕ)). column_of query (refined_rows query windows path last w)) o [] ≡ column_of query (refined_rows query windows path last w)
  printed_found w None none = sym (ap (column_of query) (no_rows query windows path last w none))
  printed_found w (Some ts) some = refl

above_looks : (query : TypedQuery) (windows : Windows) (path : List ℕ) (n : ℕ) (ws : List Window) → AreRising (Some n) ws → AllByRecursion (λ (m : Look). suc n ≤ m.window) (map (look_in query windows path) ws)
above_looks query windows path n [] h = tt
above_looks query windows path n (w ∷ ws) h =
    let less : n < w.0 = h.0 in
    let next : suc n ≤ w.0 = omega (arith, less) in
    (next, all_weaker (λ (m : Look). suc w.0 ≤ m.window) (λ (m : Look). suc n ≤ m.window) (λ m le. omega (arith, le, less)) (map (look_in query windows path) ws) (above_looks query windows path w.0 ws h.1))

rise_looks : (query : TypedQuery) (windows : Windows) (path : List ℕ) (o : Option ℕ) (ws : List Window) → AreRising o ws → Rise (map (look_in query windows path) ws)
rise_looks query windows path o [] h = tt
rise_looks query windows path o (w ∷ ws) h = (above_looks query windows path w.0 ws h.1, rise_looks query windows path (Some w.0) ws h.1)

-- ---- exactly the stays

module _ (query : TypedQuery) (path : List ℕ) (ws : List Window) where
  abbrev seen : List Look
  seen = looks_in query path ws

  answered_same : (a w : ℕ) → holds (unrefined_at seen w) a ≡ is_reported query (level_rows query (finest_level query) (windows_of ws w)) a
  answered_same a w = ap (λ (numbers : List ℕ). holds numbers a) (unrefined_same query (windows_of ws) path ws w)

  printed_same : (a w : ℕ) → holds (refined_at seen w) a ≡ is_reported query (refined_rows query (windows_of ws) path (length path - 1) w) a
  printed_same a w = ap (λ (numbers : List ℕ). holds numbers a) (refined_found query (windows_of ws) path ws w ∙ printed_found query (windows_of ws) path w (windows_of ws w) refl)

  module _ (rises : AreRising None ws) where
    rising : Rise seen
    rising = rise_looks query (windows_of ws) path None ws rises

    pub exact : AreExact query path ws
    exact =
        same_stays (HeldIn seen) (AnsweredIn query ws) (ReportedIn seen) (PrintedIn query path ws)
        (λ a w is. sym (answered_same a w) ∙ is) (λ a w is. answered_same a w ∙ is)
        (λ a w is. sym (printed_same a w) ∙ is) (λ a w is. printed_same a w ∙ is)
        (stays_in query path ws) (stays_are seen rising)

-- ---- in time

widths_at : (ws : List Window) → AllByRecursion (λ (w : Window). AllByRecursion HasWidths w.1) ws → (v : ℕ) (ts : List (List ℕ)) → windows_of ws v ≡ Some ts → AllByRecursion HasWidths ts
widths_at [] h v ts is = absurd (none_some is)
widths_at (w ∷ ws) h v ts is = by_number (widths_at ws h.1 v ts) (w.0 == v) is
  where
    by_number : (windows_of ws v ≡ Some ts → AllByRecursion HasWidths ts) → (b : Bool) → cond b (Some w.1) (windows_of ws v) ≡ Some ts → AllByRecursion HasWidths ts
    by_number rest true e = subst (AllByRecursion HasWidths) (some_same w.1 ts e) h.0
    by_number rest false e = rest e

module _ (window q : ℕ) (queries : List TypedQuery) (field : Field) (t : IsTyped window queries) (lt : q < length queries) (is_field : (query_at queries q).field ≡ Some field)
    (path : List ℕ) (some : 1 ≤ length path) (ends : EndsFinest (query_at queries q) path)
    (ws : List Window) (widths : AllByRecursion (λ (w : Window). AllByRecursion HasWidths w.1) ws) (rises : AreRising None ws) where
  abbrev its : TypedQuery
  its = query_at queries q

  looks_in_time : is_monotone its ≡ true → InTime path (looks_in its path ws)
  looks_in_time mono last w a long on =
      let at : length path - 1 ≡ last = omega (arith, long) in
      printed_same its path ws a (w + last)
      ∙ ap (λ (m : ℕ). is_reported its (refined_rows its (windows_of ws) path m (w + last)) a) at
      ∙ reported_in_time window q queries field t lt is_field mono a (windows_of ws) path w last long (ends.finest last long) ends.known (widths_at ws widths) (λ i le. sym (answered_same its path ws a (w + i)) ∙ on i le)

  one_in_time : AreInTime queries ws (q, path)
  one_in_time mono =
      all_weaker (IsStay (HeldIn (looks_in its path ws)) (ReportedIn (looks_in its path ws))) (IsInTime (length path))
      (λ s stay. stay_in_time (looks_in its path ws) path s some (looks_in_time mono) stay)
      (stays_in its path ws) (stays_are (looks_in its path ws) (rising its path ws rises)).each

some_of : {A : Type 0} (o : Option A) → is_some o ≡ true → (a : A) × (o ≡ Some a)
some_of None is = absurd (false≢true is)
some_of (Some a) is = (a, refl)

module _ (window : ℕ) (queries : List TypedQuery) (t : IsTyped window queries) (ws : List Window)
    (widths : AllByRecursion (λ (w : Window). AllByRecursion HasWidths w.1) ws) (rises : AreRising None ws) where
  entry_in_time : (n : ℕ) (e : Entry) → n < length queries → IsEntryOf (query_at queries n) e → is_some (query_at queries n).field ≡ true → AreInTime queries ws (n, e.levels)
  entry_in_time n e lt h is =
      let field = some_of (query_at queries n).field is in
      one_in_time window n queries field.0 t lt field.1 e.levels (path_some (query_at queries n).levels e.levels h.path) (path_ends (query_at queries n) e.levels h.path) ws widths rises

  watched_in_time : (n : ℕ) (es : List Entry) (d : Entry) → n + length es ≡ length queries → ((i : ℕ) → i < length es → IsEntryOf (query_at queries (n + i)) (get_or es i d)) → AllByRecursion (AreInTime queries ws) (watched_from queries n es)
  watched_in_time n [] d whole each = tt
  watched_in_time n (e ∷ es) d whole each =
      let rest : AllByRecursion (AreInTime queries ws) (watched_from queries (suc n) es) =
      watched_in_time (suc n) es d (omega (arith, whole)) (λ i lt. subst (λ (m : ℕ). IsEntryOf (query_at queries m) (get_or es i d)) (next i) (each (suc i) (omega (arith, lt)))) in
      let kept : Bool → Type 0 = λ b. AllByRecursion (AreInTime queries ws) (cond b ((n, e.levels) ∷ watched_from queries (suc n) es) (watched_from queries (suc n) es)) in
      by_test (is_some (query_at queries n).field)
      (λ is. subst kept (sym is) (entry_in_time n e (omega (arith, whole)) (subst (λ (m : ℕ). IsEntryOf (query_at queries m) e) none_more (each 0 (omega arith))) is, rest))
      (λ isnt. subst kept (sym isnt) rest)
    where
      none_more : n + 0 ≡ n
      none_more = omega arith

      next : (i : ℕ) → n + suc i ≡ suc n + i
      next i = omega arith

pub in_time : (window : ℕ) (queries : List TypedQuery) (entries : List Entry) (ws : List Window) → IsTyped window queries → AreEntriesOf queries entries
    → AllByRecursion (λ (w : Window). AllByRecursion HasWidths w.1) ws → AreRising None ws → AllByRecursion (AreInTime queries ws) (watched_from queries 0 entries)
in_time window queries entries ws t h widths rises =
    let many : length entries ≡ length queries = as_many queries entries h in
    let whole : 0 + length entries ≡ length queries = omega (arith, many) in
    watched_in_time window queries t ws widths rises 0 entries none whole
    (λ i lt. subst (λ (m : ℕ). IsEntryOf (query_at queries m) (get_or entries i none)) (none_before i) (entry_at queries entries i none h (omega (arith, lt, many))))
  where
    none_before : (i : ℕ) → i ≡ 0 + i
    none_before i = omega arith

    none : Entry
    none = record { name = []; levels = []; pieces = [] }
