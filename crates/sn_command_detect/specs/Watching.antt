-- serves proofs
-- What is kept of windows that are given one after another.
use Rattle.std.specs.Prelude.{◌≡◌, ℕ, List, [], ◌∷◌, ◌++◌, Option, None, Some}
use Rattle.std.specs.List.{AllByRecursion}
use Rattle.sn_command_detect.specs.Detected.{Watched, stays_text, watched_from}
use Rattle.sn_command_detect.specs.declared.watch.Watch.{Watch}
use Rattle.sn_detect.specs.declared.detect.Detect.{Detect}
use Rattle.sn_detect.specs.declared.look.Look.{Look}
use Rattle.sn_detect.specs.Finding.{stays_of}
use Rattle.sn_detect.specs.Keeping.{look_of}
use Rattle.sn_refine.specs.Steps.{Set, kept_at, kept_of, parts_in}
use Rattle.sn_types.specs.declared.typed_query.TypedQuery.{TypedQuery}
use Rattle.sn_types.specs.Typed.{HasWidths, query_at}
use Rattle.sn_windows.specs.Rising.{AreRising, Window}

-- the last window, the prefixes that are kept of it, and what is kept of all
pub record Kept : Type 0 where
  pub last : Option ℕ
  pub kept : List Set
  pub looks : List Look

abbrev pub kept_first : Kept
kept_first = record { last = None; kept = []; looks = [] }

abbrev pub kept_after : ℕ → TypedQuery → List ℕ → Kept → Window → Kept
kept_after q query path k w = record {
  last = Some w.0;
  kept = kept_of query path (parts_in q query path (kept_at k.last k.kept w.0) w.1);
  looks = k.looks ++ look_of query path (kept_at k.last k.kept w.0) w.0 w.1 ∷ [];
}

abbrev pub kept_along : ℕ → TypedQuery → List ℕ → Kept → List Window → Kept
kept_along q query path k [] = k
kept_along q query path k (w ∷ ws) = kept_along q query path (kept_after q query path k w) ws

-- what a refined query keeps of these windows
abbrev pub kept_of_all : List TypedQuery → Watched → List Window → Kept
kept_of_all queries x windows = kept_along x.0 (query_at queries x.0) x.1 kept_first windows

-- these windows were given to it
pub record IsAfter (queries : List TypedQuery) (windows : List Window) (x : Watched) (d : Detect) : Type 0 where
  pub queries_are : d.t.queries ≡ queries
  pub query : d.refined.query ≡ x.0
  pub path : d.refined.path ≡ x.1
  pub last : d.refined.last ≡ (kept_of_all queries x windows).last
  pub kept : d.refined.kept ≡ (kept_of_all queries x windows).kept
  pub looks : d.looks ≡ (kept_of_all queries x windows).looks

abbrev pub AreAfter : List TypedQuery → List Window → List Watched → List Detect → Type 0
AreAfter queries windows [] [] = Unit {0}
AreAfter queries windows [] (d ∷ ds) = ⊥
AreAfter queries windows (x ∷ xs) [] = ⊥
AreAfter queries windows (x ∷ xs) (d ∷ ds) = IsAfter queries windows x d × AreAfter queries windows xs ds

-- one more window was given
pub record IsGiven (w : ℕ) (tuples : List (List ℕ)) (d e : Detect) : Type 0 where
  pub queries : e.t.queries ≡ d.t.queries
  pub query : e.refined.query ≡ d.refined.query
  pub path : e.refined.path ≡ d.refined.path
  pub last : e.refined.last ≡ Some w
  pub kept : e.refined.kept ≡ kept_of (query_at d.t.queries d.refined.query) d.refined.path
      (parts_in d.refined.query (query_at d.t.queries d.refined.query) d.refined.path (kept_at d.refined.last d.refined.kept w) tuples)
  pub looks : e.looks ≡ d.looks ++ look_of (query_at d.t.queries d.refined.query) d.refined.path (kept_at d.refined.last d.refined.kept w) w tuples ∷ []

abbrev pub AreGiven : ℕ → List (List ℕ) → List Detect → List Detect → Type 0
AreGiven w tuples [] [] = Unit {0}
AreGiven w tuples [] (e ∷ es) = ⊥
AreGiven w tuples (d ∷ ds) [] = ⊥
AreGiven w tuples (d ∷ ds) (e ∷ es) = IsGiven w tuples d e × AreGiven w tuples ds es

-- what one says in the end
abbrev pub detect_text : Detect → List ℕ
detect_text d = stays_text (query_at d.t.queries d.refined.query) d.refined.path (stays_of d.looks)

abbrev pub AreWatched : Watch → List Window → Type 0
AreWatched a closed = AreAfter a.typed.queries closed (watched_from a.typed.queries 0 a.plan.entries) a.detects.items

-- these windows were closed, and no other comes
pub record IsIdle (a : Watch) (closed : List Window) : Type 0 where
  pub after : AreWatched a closed
  pub rising : AreRising None closed

-- these windows were closed, and of the one with this number these tuples came
pub record IsAtHand (a : Watch) (closed : List Window) (number : ℕ) (tuples : List (List ℕ)) : Type 0 where
  pub kept : a.tuples ≡ tuples
  pub widths : AllByRecursion HasWidths tuples
  pub after : AreWatched a closed
  pub rising : AreRising None (closed ++ (number, tuples) ∷ [])
