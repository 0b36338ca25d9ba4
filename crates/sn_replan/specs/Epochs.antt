-- to be believed
-- The epochs of a capture: its windows by the plans along which they are answered.
use Rattle.std.specs.Prelude.{◌≡◌, ℕ, List, [], ◌∷◌, ◌++◌, Bool, true, false, nat_lt, Option, None, Some, Result, Ok, Err, if◌then◌else◌}
use Rattle.std.specs.List.{flat_map}
use Rattle.sn_engine_lockstep.specs.Early.{plan_early}
use Rattle.sn_plan_grammar.specs.declared.plan.Entry.{Entry}
use Rattle.sn_refine.specs.Steps.{windows_of}
use Rattle.sn_types.specs.declared.typed_query.TypedQuery.{TypedQuery}
use Rattle.sn_windows.specs.Rising.{Window}
use Rattle.sn_emit.specs.declared.tables.Tables.{Tables}

-- a plan, and the windows one after another that are answered along it
pub record Span (P : Type 0) : Type 0 where
  pub plan : P
  pub windows : List Window

-- spans one after another, and the reason for which no other follows, where a plan was refused
pub record Spans (P F : Type 0) : Type 0 where
  pub spans : List (Span P)
  pub refused : Option F

abbrev pub span : {P : Type 0} → P → List Window → Span P
span plan windows = record { plan = plan; windows = windows }

abbrev pub only : {P F : Type 0} → Span P → Option F → Spans P F
only first refused = record { spans = first ∷ []; refused = refused }

-- an epoch, and then those from the next plan on, unless that is refused
abbrev pub then_from : {P F : Type 0} → Span P → (P → Spans P F) → Result P F → Spans P F
then_from first rest (Ok next) = record { spans = first ∷ (rest next).spans; refused = (rest next).refused }
then_from first rest (Err fault) = only first (Some fault)

-- Queries on a switch with this room, the entries of a plan, what is planned on a window, and how many items of a
-- window may leave the switch before their cut.
module _ {P F : Type 0} (queries : List TypedQuery) (tables : Tables) (entries_of : P → List Entry) (planned : Window → Result P F) (most : ℕ) where
  -- of the last of these windows of an epoch, which has this number, more left it so: no window before the epoch's first counts
  abbrev pub is_over : P → List Window → ℕ → Bool
  is_over plan windows number = nat_lt most (plan_early queries tables (entries_of plan) (windows_of windows) number)

  -- The epochs of windows, where those before them in the first epoch are these. An epoch goes on up to the first window that
  -- is over, and if another follows that, the next begins with it, along what is planned on the one that was over.
  abbrev pub epochs_from : P → List Window → List Window → Spans P F
  epochs_from plan before [] = only (span plan before) None
  epochs_from plan before (w ∷ []) = only (span plan (before ++ w ∷ [])) None
  epochs_from plan before (w ∷ v ∷ more) =
      let now : List Window = before ++ w ∷ [] in
      if is_over plan now w.0 then then_from (span plan now) (λ next. epochs_from next [] (v ∷ more)) (planned w) else epochs_from plan now (v ∷ more)

  -- ---- said another way

  -- of the windows after these none but the last is over
  abbrev pub GoesOn : P → List Window → List Window → Type 0
  GoesOn plan before [] = Unit {0}
  GoesOn plan before (w ∷ []) = Unit {0}
  GoesOn plan before (w ∷ v ∷ more) = (is_over plan (before ++ w ∷ []) w.0 ≡ false) × GoesOn plan (before ++ w ∷ []) (v ∷ more)

  -- the last window of an epoch is over, and this is planned on it
  pub record IsOver (a : Span P) (answer : Result P F) : Type 0 where
    pub front : List Window
    pub last : Window
    pub windows : a.windows ≡ front ++ last ∷ []
    pub over : is_over a.plan a.windows last.0 ≡ true
    pub next : planned last ≡ answer

  -- each epoch but the last is over, and the next one has the plan that is planned on its last window, and a window
  abbrev pub Follow : Span P → List (Span P) → Option F → Type 0
  Follow a [] None = Unit {0}
  Follow a [] (Some fault) = IsOver a (Err fault)
  Follow a (b ∷ more) refused = IsOver a (Ok b.plan) × (b.windows ≡ [] → ⊥) × GoesOn b.plan [] b.windows × Follow b more refused

  -- windows that no epoch has are there exactly where a plan was refused
  abbrev pub IsLeft : List Window → Option F → Type 0
  IsLeft left None = left ≡ []
  IsLeft [] (Some fault) = ⊥
  IsLeft (w ∷ left) (Some fault) = Unit {0}

  -- these spans are the epochs of windows along a first plan
  pub record AreEpochs (first : P) (windows : List Window) (s : Spans P F) : Type 0 where
    pub begins : Span P
    pub more : List (Span P)
    pub spans : s.spans ≡ begins ∷ more
    pub plan : begins.plan ≡ first
    pub goes_on : GoesOn first [] begins.windows
    pub follow : Follow begins more s.refused
    pub left : List Window
    pub joined : flat_map (λ (a : Span P). a.windows) s.spans ++ left ≡ windows
    pub is_left : IsLeft left s.refused
