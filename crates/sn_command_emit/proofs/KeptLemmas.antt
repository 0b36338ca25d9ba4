-- What the lanes admit is what the levels before answered along the plan.
use Rattle.std.proofs.Common.{◌≡◌, ℕ, zero, suc, ◌+◌, ◌-◌, ◌<◌, ◌==◌, List, [], ◌∷◌, ◌++◌, length, Bool, true, false, cond, Option, Some, None, slice_index, refl, ap, ◌∙◌, subst, arith}
use Rattle.std.specs.FinSet as set
use Rattle.std.specs.List.{AllByRecursion}
use Rattle.sn_base.proofs.Lists.{all_weaker, nat_same, not_true}
use Rattle.sn_windows.specs.Rising.{AreRising, IsAbove, Window}
use Rattle.sn_engine_asked.proofs.Levels.{IsPieceOf, all_pieces}
use Rattle.sn_engine_lockstep.specs.Sources.{kept_in, source_at}
use Rattle.sn_engine_lockstep.specs.Windows.{Follows, Remembers, answers_from, plan_answers, window_answers, window_of}
use Rattle.sn_engine_lockstep.proofs.Along.{kept_right, window_right}
use Rattle.sn_engine_lockstep.proofs.Apart.{place_is}
use Rattle.sn_emit.specs.Plans.{Placed, pieces_from}
use Rattle.sn_plan_fit.specs.Fits.{AreEntriesOf}
use Rattle.sn_plan_fit.specs.Paths.{level_before, place_in}
use Rattle.sn_plan_grammar.specs.declared.plan.Entry.{Entry}
use Rattle.sn_refine.specs.Refined.{Windows, before, refined_rows}
use Rattle.sn_refine.specs.Steps.{prefixes_of, windows_of}
use Rattle.sn_refine.proofs.Windows.{above_last, earlier, here, later}
use Rattle.sn_engine_lockstep.specs.Known.{last_from}
use Rattle.sn_command_run.specs.Along.{last_of}
use Rattle.sn_command_run.specs.Planned.{Planned}
use Rattle.sn_types.specs.declared.answers.Answers.{Answers}
use Rattle.sn_types.specs.declared.typed_query.TypedQuery.{TypedQuery}
use Rattle.sn_types.specs.Typed.{query_at}
use Rattle.sn_command_emit.specs.Reporting.{kept_now}
use Rattle.sn_command_emit.specs.Sent.{kept_of, prefixes_for}

-- ---- the prefixes of one piece

both : {X : Type 0} (b : Bool) (x : X) → cond b x x ≡ x
both true x = refl
both false x = refl

no_level : (queries : List TypedQuery) (last : Option Answers) (w q : ℕ) → kept_in queries last w (source_at q None) ≡ set.empty
no_level queries None w q = refl
no_level queries (Some a) w q = both (a.window + 1 == w) set.empty

module _ (queries : List TypedQuery) (windows : List Window) (es : List Entry) (last : Option Answers) (w : ℕ) (f : Follows (windows_of windows) last w) (r : Remembers queries es (windows_of windows) last) (x : Placed) (is : IsPieceOf es x) where
  by_place : (m : ℕ) → place_in x.path x.piece.level ≡ m → kept_in queries last w (source_at x.query (level_before x.path x.piece.level)) ≡ prefixes_for (query_at queries x.query) windows x.path w m
  by_place zero e =
      ap (λ n. kept_in queries last w (source_at x.query (cond (n == 0) None (Some (slice_index x.path (n - 1)))))) e
      ∙ no_level queries last w x.query
  by_place (suc j) e =
      ap (λ n. kept_in queries last w (source_at x.query (cond (n == 0) None (Some (slice_index x.path (n - 1)))))) e
      ∙ ap (λ b. kept_in queries last w (source_at x.query (cond b None (Some (slice_index x.path (suc j - 1)))))) some
      ∙ ap (λ n. kept_in queries last w (source_at x.query (Some (slice_index x.path n)))) back
      ∙ subst (λ path. kept_in queries last w (source_at x.query (Some (slice_index path j))) ≡ prefixes_of (query_at queries x.query) (before (refined_rows (query_at queries x.query) (windows_of windows) path j) w)) is.path
      (kept_right queries (windows_of windows) es x.query is.entry is.at is.rising last w j within f r)
    where
      back : suc j - 1 ≡ j
      back = omega arith

      some : (suc j == 0) ≡ false
      some = not_true (suc j == 0) (λ same. let never = nat_same (suc j) 0 same in absurd (omega (arith, never)))

      within : j < length is.entry.levels
      within =
          let place = (place_is is.entry.levels x.piece.level is.among).within in
          let here : place_in is.entry.levels x.piece.level ≡ suc j = ap (λ path. place_in path x.piece.level) is.path ∙ e in
          omega (arith, place, here)

  pub admits_kept : kept_now queries last w x ≡ kept_of queries windows w x
  admits_kept = by_place (place_in x.path x.piece.level) refl

-- ---- the last answers

-- they are of the window before, and along the plan
pub record IsLast (p : Planned) (windows : Windows) (last : Option Answers) (w : ℕ) : Type 0 where
  pub follows : Follows windows last w
  pub remembers : Remembers p.queries p.entries windows last

module _ (p : Planned) (windows : Windows) (h : AreEntriesOf p.queries p.entries) where
  last_right : (last : Option Answers) (closed : List Window) (number : ℕ) (tuples : List (List ℕ)) → AreRising (window_of last) (closed ++ (number, tuples) ∷ [])
      → ((v : ℕ) → IsAbove (window_of last) v → windows v ≡ windows_of (closed ++ (number, tuples) ∷ []) v) → Remembers p.queries p.entries windows last
      → IsLast p windows (last_from last (answers_from p.queries p.tables p.entries last closed)) number
  last_right last [] number tuples rises agrees r =
      record { follows = record { above = rises.0; none = λ v above lt. agrees v above ∙ earlier (number, tuples) [] v rises.1 lt }; remembers = r }
  last_right last (c ∷ closed) number tuples rises agrees r =
      let rest : List Window = closed ++ (number, tuples) ∷ [] in
      let now : Answers = window_answers p.queries p.tables p.entries (kept_in p.queries last c.0) c.0 c.1 in
      let e : now ≡ plan_answers p.queries p.tables p.entries windows c.0 =
      window_right p.queries p.tables p.entries windows last c.0 c.1 h (agrees c.0 rises.0 ∙ here c rest) (record { above = rises.0; none = λ v above lt. agrees v above ∙ earlier c rest v rises.1 lt }) r in
      last_right (Some now) closed number tuples rises.1 (λ v lt. agrees v (above_last (window_of last) c.0 v rises.0 lt) ∙ later c rest v lt) (ap (λ (a : Answers). a.parts) e)

-- the lanes admit the prefixes that were answered along the plan
pub all_admitted : (p : Planned) (closed : List Window) (number : ℕ) (tuples : List (List ℕ)) → AreEntriesOf p.queries p.entries → AreRising None (closed ++ (number, tuples) ∷ [])
    → AllByRecursion (λ (x : Placed). kept_now p.queries (last_of p closed) number x ≡ kept_of p.queries (closed ++ (number, tuples) ∷ []) number x) (pieces_from 0 p.entries)
all_admitted p closed number tuples h rising =
    let windows : List Window = closed ++ (number, tuples) ∷ [] in
    let last = last_right p (windows_of windows) h None closed number tuples rising (λ v above. refl) tt in
    all_weaker (IsPieceOf p.entries) (λ (x : Placed). kept_now p.queries (last_of p closed) number x ≡ kept_of p.queries windows number x)
    (λ x is. admits_kept p.queries windows p.entries (last_of p closed) number last.follows last.remembers x is) (pieces_from 0 p.entries) (all_pieces p.queries p.entries h)
