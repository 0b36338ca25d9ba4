-- What the answers of an engine have at the levels that are admitted, where it takes the rows of those alone.
use Rattle.std.proofs.Common.{◌≡◌, ℕ, List, [], ◌∷◌, ◌&&◌, ◌==◌, map, true, Option, None, Some, refl, ap, sym, ◌∙◌, subst}
use Rattle.std.specs.List.{AllByRecursion}
use Rattle.sn_base.proofs.Lists.{all_map, all_weaker, and_parts, map_agree, map_both, nat_same}
use Rattle.sn_emit.specs.Making.{CanMake}
use Rattle.sn_emit.specs.Plans.{AreLanesOf, Placed, pieces_from}
use Rattle.sn_emit.specs.declared.sender.Sender.{Sender}
use Rattle.sn_emit.specs.declared.tables.Tables.{Tables}
use Rattle.sn_engine.specs.Answers.{parts_of, window_of}
use Rattle.sn_engine.specs.Intakes.{emptied}
use Rattle.sn_engine.specs.Keeping.{gathered, kept_for, left, level_prefixes}
use Rattle.sn_engine.specs.Moving.{name_of}
use Rattle.sn_engine.specs.declared.intake.Intake.{Intake}
use Rattle.sn_engine_asked.specs.Asked.{AdmitTheSame, AreHeard, heard, is_asked}
use Rattle.sn_engine_asked.proofs.Heard.{heard_left, rows_heard}
use Rattle.sn_engine_asked.proofs.Levels.{IsPieceOf, all_pieces, asked_before}
use Rattle.sn_engine_lockstep.proofs.Laws.{answered_parts}
use Rattle.sn_engine_lockstep.proofs.Recalling.{ended_are_left, recalls_ended}
use Rattle.sn_engine_lockstep.specs.Sources.{prefixes_in, source_of}
use Rattle.sn_engine_lockstep.specs.Windows.{parts_from}
use Rattle.sn_engine_lockstep.specs.Work.{AreIdle, AreKept, Recalls, done, intake_of, lanes_left, left_done, name_of as lane_name}
use Rattle.sn_engine_lockstep.specs.declared.source.Source.{Source}
use Rattle.sn_plan_fit.specs.Fits.{AreEntriesOf}
use Rattle.sn_plan_fit.specs.Paths.{level_before}
use Rattle.sn_plan_grammar.specs.declared.plan.Entry.{Entry}
use Rattle.sn_refine.specs.Steps.{Set, prefixes_of}
use Rattle.sn_types.specs.Typed.{HasWidths, IsTyped, query_at}
use Rattle.sn_types.specs.declared.answers.Answers.{Answers}
use Rattle.sn_types.specs.declared.answers.Part.{Part}
use Rattle.sn_types.specs.declared.typed_query.TypedQuery.{TypedQuery}

-- ---- the levels that are admitted

module _ (entries : List Entry) (queries : List TypedQuery) (lane : Placed → Intake) (query : (x : Placed) → (lane x).query ≡ x.query) (level : (x : Placed) → (lane x).level ≡ x.piece.level)
    (asked : (x : Placed) → is_asked entries (name_of (lane x)) ≡ is_asked entries (lane_name x)) (pieces : List Placed) (are : AllByRecursion (IsPieceOf entries) pieces) where
  abbrev all_lanes : List Intake
  all_lanes = map lane pieces

  abbrev parts_held : List Part
  parts_held = parts_of queries (map (heard entries) all_lanes)

  -- a lane of a query at a level is asked for
  abbrev IsAskedAt : ℕ → ℕ → Intake → Type 0
  IsAskedAt q before l = ((l.query == q) && (l.level == before)) ≡ true → is_asked entries (name_of l) ≡ true

  by_before : (z : Placed) → IsPieceOf entries z → (before : Option ℕ) → level_before z.path z.piece.level ≡ before → level_prefixes queries parts_held z.query before ≡ level_prefixes queries (parts_of queries all_lanes) z.query before
  by_before z hz None is = refl
  by_before z hz (Some before) is = ap (prefixes_of (query_at queries z.query)) (rows_heard entries queries all_lanes z.query before own)
    where
      own : AllByRecursion (IsAskedAt z.query before) all_lanes
      own =
          all_map (IsAskedAt z.query before) lane pieces
          (all_weaker (IsPieceOf entries) (λ (x : Placed). IsAskedAt z.query before (lane x))
          (λ x hx same. let both = and_parts ((lane x).query == z.query) ((lane x).level == before) same in
          asked x ∙ asked_before entries x z before hx hz (sym (query x) ∙ nat_same (lane x).query z.query both.0) (sym (level x) ∙ nat_same (lane x).level before both.1) is) pieces are)

  admitted : AdmitTheSame queries pieces parts_held (parts_of queries all_lanes)
  admitted =
      all_weaker (IsPieceOf entries) (λ (x : Placed). prefixes_in queries parts_held (source_of x) ≡ prefixes_in queries (parts_of queries all_lanes) (source_of x))
      (λ x hx. by_before x hx (level_before x.path x.piece.level) refl) pieces are

-- ---- one close

module _ (entries : List Entry) (queries : List TypedQuery) (tables : Tables) (kept : Source → Set) (tuples : List (List ℕ)) (window : ℕ) where
  abbrev held_done : Placed → Intake
  held_done x = heard entries (done queries tables kept tuples window x)

  held_are_left : (closed : Option ℕ) (sets : List Set) (pieces : List Placed) → AreKept pieces kept (kept_for closed sets window)
      → lanes_left queries closed sets (map held_done pieces) ≡ map (heard entries) (map (left_done queries tables kept tuples window) pieces)
  held_are_left closed sets pieces h =
      ended_are_left queries window held_done (λ x. refl) (λ parts x. refl) kept closed sets pieces h
      ∙ map_agree (λ x. left queries (kept (source_of x)) (held_done x)) (λ x. heard entries (left_done queries tables kept tuples window x))
      (λ x. heard_left entries queries (kept (source_of x)) (done queries tables kept tuples window x)) pieces
      ∙ sym (map_both (left_done queries tables kept tuples window) (heard entries) pieces)

  pub close_admits : (typed_for : ℕ) (closed : Option ℕ) (sets : List Set) (lanes : List Intake) (parts : List Part) → ∥ IsTyped typed_for queries ∥₁ → AreEntriesOf queries entries
      → AllByRecursion (CanMake queries) (pieces_from 0 entries) → AllByRecursion HasWidths tuples → lanes ≡ map held_done (pieces_from 0 entries) → parts ≡ parts_of queries (lanes_left queries closed sets lanes)
      → AreKept (pieces_from 0 entries) kept (kept_for closed sets window) → AdmitTheSame queries (pieces_from 0 entries) parts (parts_from queries kept tuples 0 entries)
  close_admits typed_for closed sets lanes parts t h can widths are is keeps =
      let pieces : List Placed = pieces_from 0 entries in
      let whole : List Intake = map (left_done queries tables kept tuples window) pieces in
      let parts_are : parts ≡ parts_of queries (map (heard entries) whole) =
      is ∙ ap (λ (ls : List Intake). parts_of queries (lanes_left queries closed sets ls)) are ∙ ap (parts_of queries) (held_are_left closed sets pieces keeps) in
      subst (λ (ps : List Part). AdmitTheSame queries pieces ps (parts_from queries kept tuples 0 entries)) (sym parts_are)
      (subst (AdmitTheSame queries pieces (parts_of queries (map (heard entries) whole))) (answered_parts typed_for tables window queries entries kept tuples t h can widths)
      (admitted entries queries (left_done queries tables kept tuples window) (λ x. refl) (λ x. refl) (λ x. refl) pieces (all_pieces queries entries h)))

  pub close_recalls : (pieces : List Placed) (lanes : List Intake) (answers : Answers) (closed : Option ℕ) (sets : List Set) → lanes ≡ map held_done pieces → answers.window ≡ window → closed ≡ Some (window_of lanes)
      → sets ≡ gathered queries answers.parts lanes → Recalls queries pieces (Some answers) closed sets
  close_recalls pieces lanes answers closed sets are number last is =
      recalls_ended queries window held_done (λ x. refl) (λ parts x. refl) pieces answers closed sets number
      (last ∙ ap (λ (ls : List Intake). Some (window_of ls)) are) (is ∙ ap (gathered queries answers.parts) are)

  pub close_empties : (pieces : List Placed) → map emptied (map held_done pieces) ≡ map intake_of pieces
  close_empties [] = refl
  close_empties (x ∷ xs) = ap (λ ls. intake_of x ∷ ls) (close_empties xs)

-- ---- one window, from its calls

-- what a close answers at the levels that are admitted
abbrev pub HeardAdmitted : List Entry → List TypedQuery → ℕ → Option ℕ → List Set → List Sender → List Intake → Answers → Type 0
HeardAdmitted entries queries window closed sets senders intakes a = (typed_for : ℕ) (tables : Tables) (kept : Source → Set) (tuples : List (List ℕ)) →
    ∥ IsTyped typed_for queries ∥₁ → AreEntriesOf queries entries → AllByRecursion (CanMake queries) (pieces_from 0 entries) → AllByRecursion HasWidths tuples →
    AreHeard entries queries tables (pieces_from 0 entries) kept tuples senders intakes → AreKept (pieces_from 0 entries) kept (kept_for closed sets window) →
    AdmitTheSame queries (pieces_from 0 entries) a.parts (parts_from queries kept tuples 0 entries)

-- what the engine keeps of it
abbrev pub HeardRecalled : List Entry → List TypedQuery → List Sender → List Intake → Option ℕ → List Set → Answers → Type 0
HeardRecalled entries queries senders intakes closed_now sets_now a = (typed_for : ℕ) (tables : Tables) (pieces : List Placed) (kept : Source → Set) (tuples : List (List ℕ)) →
    ∥ IsTyped typed_for queries ∥₁ → AllByRecursion (CanMake queries) pieces → AllByRecursion HasWidths tuples → AreHeard entries queries tables pieces kept tuples senders intakes →
    Recalls queries pieces (Some a) closed_now sets_now

-- and what it leaves
abbrev pub HeardEmptied : List Entry → List TypedQuery → List Sender → List Intake → List Sender → List Intake → Type 0
HeardEmptied entries queries senders intakes senders_now intakes_now = (typed_for : ℕ) (tables : Tables) (pieces : List Placed) (kept : Source → Set) (tuples : List (List ℕ)) →
    ∥ IsTyped typed_for queries ∥₁ → AllByRecursion (CanMake queries) pieces → AllByRecursion HasWidths tuples → AreHeard entries queries tables pieces kept tuples senders intakes →
    AreLanesOf queries tables pieces senders → AreIdle queries tables pieces senders_now intakes_now
