-- Windows that are given one after another, and what is kept of them.
use Rattle.std.proofs.Common.{◌≡◌, ◌⊎◌, inl, inr, ℕ, suc, ◌-◌, ◌<◌, ◌≤◌, List, [], ◌∷◌, ◌++◌, map, length, Option, None, Some, refl, ap, sym, ◌∙◌, subst, append-nil, append_assoc, arith}
use Rattle.std.specs.List.{AllByRecursion, flat_map}
use Rattle.sn_base.specs.Groups.{Row}
use Rattle.sn_command_detect.specs.Detected.{Watched, look_in, looks_in, stays_text, watched_text}
use Rattle.sn_command_detect.specs.declared.watch.Watch.{Watch}
use Rattle.sn_command_detect.specs.Watching.{AreAfter, AreGiven, IsAfter, IsAtHand, IsGiven, IsIdle, Kept, detect_text, kept_after, kept_along, kept_first, kept_of_all}
use Rattle.sn_detect.specs.declared.detect.Detect.{Detect}
use Rattle.sn_detect.specs.declared.look.Look.{Look}
use Rattle.sn_detect.specs.Finding.{stays_of}
use Rattle.sn_detect.specs.Keeping.{look_of}
use Rattle.sn_refine.specs.Refined.{Windows, column_of, level_rows}
use Rattle.sn_refine.specs.Steps.{Set, kept_at, kept_of, parts_in, windows_of}
use Rattle.sn_refine.proofs.Windows.{NoneBetween, Remembers, above_last, earlier, here, later, parts_refined, remembered, row_refined}
use Rattle.sn_types.specs.declared.answers.Part.{Part}
use Rattle.sn_types.specs.declared.typed_query.TypedQuery.{TypedQuery}
use Rattle.sn_types.specs.Typed.{finest_level, query_at}
use Rattle.sn_windows.specs.Rising.{AreRising, IsAbove, Window}

-- ---- windows that rise

pub rising_same : (o : Option ℕ) (ws : List Window) (n : ℕ) (ts us : List (List ℕ)) → AreRising o (ws ++ (n, ts) ∷ []) → AreRising o (ws ++ (n, us) ∷ [])
rising_same o [] n ts us h = h
rising_same o (w ∷ ws) n ts us h = (h.0, rising_same (Some w.0) ws n ts us h.1)

pub rising_front : (o : Option ℕ) (ws more : List Window) → AreRising o (ws ++ more) → AreRising o ws
rising_front o [] more h = tt
rising_front o (w ∷ ws) more h = (h.0, rising_front (Some w.0) ws more h.1)

-- ---- one window more

along_push : (q : ℕ) (query : TypedQuery) (path : List ℕ) (k : Kept) (ws : List Window) (w : Window) → kept_along q query path k (ws ++ w ∷ []) ≡ kept_after q query path (kept_along q query path k ws) w
along_push q query path k [] w = refl
along_push q query path k (v ∷ ws) w = along_push q query path (kept_after q query path k v) ws w

above_along : (q : ℕ) (query : TypedQuery) (path : List ℕ) (k : Kept) (ws : List Window) (n : ℕ) (ts : List (List ℕ)) → AreRising k.last (ws ++ (n, ts) ∷ []) → IsAbove (kept_along q query path k ws).last n
above_along q query path k [] n ts h = h.0
above_along q query path k (w ∷ ws) n ts h = above_along q query path (kept_after q query path k w) ws n ts h.1

module _ (queries : List TypedQuery) (closed : List Window) (n : ℕ) (ts : List (List ℕ)) where
  pub above_all : (xs : List Watched) (ds : List Detect) → AreAfter queries closed xs ds → AreRising None (closed ++ (n, ts) ∷ []) → AllByRecursion (λ (d : Detect). IsAbove d.refined.last n) ds
  above_all [] [] h rises = tt
  above_all [] (d ∷ ds) h rises = absurd h
  above_all (x ∷ xs) [] h rises = absurd h
  above_all (x ∷ xs) (d ∷ ds) h rises =
      (subst (λ (o : Option ℕ). IsAbove o n) (sym (h.0).last) (above_along x.0 (query_at queries x.0) x.1 kept_first closed n ts rises), above_all xs ds h.1 rises)

  given_after : (x : Watched) (d e : Detect) → IsAfter queries closed x d → IsGiven n ts d e → IsAfter queries (closed ++ (n, ts) ∷ []) x e
  given_after x d e h g =
      let k : Kept = kept_of_all queries x closed in
      let more : kept_of_all queries x (closed ++ (n, ts) ∷ []) ≡ kept_after x.0 (query_at queries x.0) x.1 k (n, ts) = along_push x.0 (query_at queries x.0) x.1 kept_first closed (n, ts) in
      let kept : List TypedQuery → ℕ → List ℕ → Option ℕ → List Set → List Set =
      λ qs q path last held. kept_of (query_at qs q) path (parts_in q (query_at qs q) path (kept_at last held n) ts) in
      let looks : List TypedQuery → ℕ → List ℕ → Option ℕ → List Set → List Look → List Look =
      λ qs q path last held ls. ls ++ look_of (query_at qs q) path (kept_at last held n) n ts ∷ [] in
      record {
        queries_are = g.queries ∙ h.queries_are;
        query = g.query ∙ h.query;
        path = g.path ∙ h.path;
        last = g.last ∙ sym (ap (λ (m : Kept). m.last) more);
        kept = g.kept ∙ (λ i. kept (h.queries_are i) (h.query i) (h.path i) (h.last i) (h.kept i)) ∙ sym (ap (λ (m : Kept). m.kept) more);
        looks = g.looks ∙ (λ i. looks (h.queries_are i) (h.query i) (h.path i) (h.last i) (h.kept i) (h.looks i)) ∙ sym (ap (λ (m : Kept). m.looks) more);
      }

  pub given_all : (xs : List Watched) (ds es : List Detect) → AreAfter queries closed xs ds → AreGiven n ts ds es → AreAfter queries (closed ++ (n, ts) ∷ []) xs es
  given_all [] [] [] h g = tt
  given_all [] [] (e ∷ es) h g = absurd g
  given_all [] (d ∷ ds) es h g = absurd h
  given_all (x ∷ xs) [] es h g = absurd h
  given_all (x ∷ xs) (d ∷ ds) [] h g = absurd g
  given_all (x ∷ xs) (d ∷ ds) (e ∷ es) h g = (given_after x d e h.0 g.0, given_all xs ds es h.1 g.1)

pub given_long : (n : ℕ) (ts : List (List ℕ)) (ds es : List Detect) → AreGiven n ts ds es → length es ≡ length ds
given_long n ts [] [] g = refl
given_long n ts [] (e ∷ es) g = absurd g
given_long n ts (d ∷ ds) [] g = absurd g
given_long n ts (d ∷ ds) (e ∷ es) g = ap suc (given_long n ts ds es g.1)

-- ---- what is kept is what the refined answers say

module _ (q : ℕ) (query : TypedQuery) (windows : Windows) (path : List ℕ) (some : 1 ≤ length path) where
  looks_from : (k : Kept) (ws : List Window) → AreRising k.last ws → ((v : ℕ) → IsAbove k.last v → windows v ≡ windows_of ws v) → Remembers query windows path k.last k.kept
      → (kept_along q query path k ws).looks ≡ k.looks ++ map (look_in query windows path) ws
  looks_from k [] rises agrees remembers = sym (append-nil k.looks)
  looks_from k (w ∷ ws) rises agrees remembers =
      let held : ℕ → Set = kept_at k.last k.kept w.0 in
      let is : windows w.0 ≡ Some w.1 = agrees w.0 rises.0 ∙ here w ws in
      let between : NoneBetween windows k.last w.0 = λ v above lt. agrees v above ∙ earlier w ws v rises.1 lt in
      let place : length path - 1 < length path = omega (arith, some) in
      let row = row_refined query windows path k.last k.kept w.0 w.1 (length path - 1) place is rises.0 between remembers in
      let same : look_of query path held w.0 w.1 ≡ look_in query windows path w =
      ap (λ (rows : List Row). record { window = w.0; unrefined = column_of query (level_rows query (finest_level query) (Some w.1)); refined = column_of query rows }) row in
      let next : Remembers query windows path (Some w.0) (kept_of query path (parts_in q query path held w.1)) =
      subst (λ (ps : List Part). Remembers query windows path (Some w.0) (kept_of query path ps)) (sym (parts_refined q query windows path k.last k.kept w.0 w.1 is rises.0 between remembers)) (remembered q query windows path w.0) in
      looks_from (kept_after q query path k w) ws rises.1 (λ v lt. agrees v (above_last k.last w.0 v rises.0 lt) ∙ later w ws v lt) next
      ∙ append_assoc k.looks (look_of query path held w.0 w.1 ∷ []) (map (look_in query windows path) ws)
      ∙ ap (λ (l : Look). k.looks ++ l ∷ map (look_in query windows path) ws) same

module _ (queries : List TypedQuery) (closed : List Window) (rises : AreRising None closed) where
  looks_all : (x : Watched) → 1 ≤ length x.1 → (kept_of_all queries x closed).looks ≡ looks_in (query_at queries x.0) x.1 closed
  looks_all x some = looks_from x.0 (query_at queries x.0) (windows_of closed) x.1 some kept_first closed rises (λ v above. refl) tt

  text_same : (x : Watched) (d : Detect) → IsAfter queries closed x d → detect_text d ≡ watched_text queries closed x
  text_same x d h =
      let some : 1 ≤ length x.1 = subst (λ (p : List ℕ). 1 ≤ length p) h.path d.some in
      (λ i. stays_text (query_at (h.queries_are i) (h.query i)) (h.path i) (stays_of (h.looks i)))
      ∙ ap (λ (ls : List Look). stays_text (query_at queries x.0) x.1 (stays_of ls)) (looks_all x some)

  pub texts_same : (xs : List Watched) (ds : List Detect) → AreAfter queries closed xs ds → flat_map detect_text ds ≡ flat_map (watched_text queries closed) xs
  texts_same [] [] h = refl
  texts_same [] (d ∷ ds) h = absurd h
  texts_same (x ∷ xs) [] h = absurd h
  texts_same (x ∷ xs) (d ∷ ds) h =
      ap (λ (text : List ℕ). text ++ flat_map detect_text ds) (text_same x d h.0) ∙ ap (λ (text : List ℕ). watched_text queries closed x ++ text) (texts_same xs ds h.1)

-- ---- one refined query more

pub after_push : (queries : List TypedQuery) (closed : List Window) (xs : List Watched) (ds : List Detect) (x : Watched) (d : Detect) → AreAfter queries closed xs ds → IsAfter queries closed x d → AreAfter queries closed (xs ++ x ∷ []) (ds ++ d ∷ [])
after_push queries closed [] [] x d h g = (g, tt)
after_push queries closed [] (e ∷ ds) x d h g = absurd h
after_push queries closed (y ∷ xs) [] x d h g = absurd h
after_push queries closed (y ∷ xs) (e ∷ ds) x d h g = (h.0, after_push queries closed xs ds x d h.1 g)

-- ---- no other window comes

idle_of : (a : Watch) (closed : List Window) (number : ℕ) (tuples : List (List ℕ)) → IsAtHand a closed number tuples → IsIdle a closed
idle_of a closed number tuples h = record { after = h.after; rising = rising_front None closed ((number, tuples) ∷ []) h.rising }

pub stands_idle : (a : Watch) (closed : List Window) → IsIdle a closed ⊎ ((number : ℕ) × IsAtHand a closed number []) → IsIdle a closed
stands_idle a closed (inl h) = h
stands_idle a closed (inr at) = idle_of a closed at.0 [] at.1
