-- What an engine keeps of a window is what the next one's lanes admit.
use Rattle.std.proofs.Common.{◌≡◌, ℕ, suc, ◌+◌, List, [], ◌∷◌, ◌==◌, map, Bool, true, false, cond, nat_eq, slice_get, unwrap_or, Option, None, Some, refl, ap, sym, ◌∙◌, arith}
use Rattle.std.specs.FinSet as set
use Rattle.std.proofs.lemmas.Bool.{eq-eqb}
use Rattle.sn_base.proofs.Lists.{by_test, nat_same, none_some, not_true}
use Rattle.sn_emit.specs.Plans.{Placed}
use Rattle.sn_emit.specs.declared.tables.Tables.{Tables}
use Rattle.sn_engine.specs.declared.intake.Intake.{Intake}
use Rattle.sn_engine.specs.Answers.{parts_of, window_of}
use Rattle.sn_engine.specs.Keeping.{all_left, gathered, kept_for, left, prefixes_for}
use Rattle.sn_refine.specs.Steps.{Set}
use Rattle.sn_types.specs.declared.answers.Answers.{Answers}
use Rattle.sn_types.specs.declared.answers.Part.{Part}
use Rattle.sn_types.specs.declared.typed_query.TypedQuery.{TypedQuery}
use Rattle.sn_engine_lockstep.specs.declared.source.Source.{Source}
use Rattle.sn_engine_lockstep.specs.Sources.{prefixes_in, source_of}
use Rattle.sn_engine_lockstep.specs.Work.{AreKept, Recalls, done, lanes_left, left_done}
use Rattle.sn_engine_lockstep.proofs.Finding.{get_map}

-- ---- lanes of pieces

left_map : (queries : List TypedQuery) (sets : List Set) (kept : Source → Set) (f : Placed → Intake) (pieces : List Placed) → AreKept pieces kept sets
    → all_left queries sets (map f pieces) ≡ map (λ x. left queries (kept (source_of x)) (f x)) pieces
left_map queries sets kept f [] h = refl
left_map queries [] kept f (x ∷ xs) h =
    ap (λ (members : Set). left queries members (f x) ∷ all_left queries [] (map f xs)) (h 0 x refl)
    ∙ ap (λ (ls : List Intake). left queries (kept (source_of x)) (f x) ∷ ls) (left_map queries [] kept f xs (λ j y at. h (suc j) y at))
left_map queries (members ∷ sets) kept f (x ∷ xs) h =
    ap (λ (own : Set). left queries own (f x) ∷ all_left queries sets (map f xs)) (h 0 x refl)
    ∙ ap (λ (ls : List Intake). left queries (kept (source_of x)) (f x) ∷ ls) (left_map queries sets kept f xs (λ j y at. h (suc j) y at))

next_test : (last number : ℕ) → nat_eq number (suc last) ≡ (last + 1 == number)
next_test last number =
    by_test (last + 1 == number)
    (λ is. let same = nat_same (last + 1) number is in eq-eqb number (suc last) (omega (arith, same)) ∙ sym is)
    (λ isnt. not_true (nat_eq number (suc last)) (λ is. let same = nat_same number (suc last) is in absurd (differ isnt (omega (arith, same)))) ∙ sym isnt)
  where
    differ : (last + 1 == number) ≡ false → last + 1 ≡ number → ⊥
    differ isnt same = false_true (sym isnt ∙ eq-eqb (last + 1) number same)
      where
        false_true : false ≡ true → ⊥
        false_true e = cc

if_next : (b : Bool) (sets : List Set) (j : ℕ) (members : Set) → unwrap_or (slice_get sets j) set.empty ≡ members → unwrap_or (slice_get (cond b sets []) j) set.empty ≡ cond b members set.empty
if_next true sets j members is = is
if_next false sets j members is = refl

-- Lanes of pieces that have ended a window, each with the level before that of its piece.
module _ (queries : List TypedQuery) (window : ℕ) (lane : Placed → Intake) (ends : (x : Placed) → (lane x).end ≡ Some window)
    (own : (parts : List Part) (x : Placed) → prefixes_for queries parts (lane x) ≡ prefixes_in queries parts (source_of x)) where
  window_is : (pieces : List Placed) (j : ℕ) (x : Placed) → slice_get pieces j ≡ Some x → window_of (map lane pieces) ≡ window
  window_is [] j x at = absurd (none_some at)
  window_is (y ∷ ys) j x at = ap (λ (o : Option ℕ). unwrap_or o 0) (ends y)

  -- what is left of them, where the engine keeps the prefixes that the pieces admitted
  pub ended_are_left : (kept : Source → Set) (closed : Option ℕ) (sets : List Set) (pieces : List Placed) → AreKept pieces kept (kept_for closed sets window)
      → lanes_left queries closed sets (map lane pieces) ≡ map (λ x. left queries (kept (source_of x)) (lane x)) pieces
  ended_are_left kept closed sets [] h = refl
  ended_are_left kept closed sets (x ∷ xs) h =
      ap (λ (w : ℕ). all_left queries (kept_for closed sets w) (map lane (x ∷ xs))) (window_is (x ∷ xs) 0 x refl)
      ∙ left_map queries (kept_for closed sets window) kept lane (x ∷ xs) h

  -- ---- from window to window

  gathered_at : (parts : List Part) (pieces : List Placed) (j : ℕ) (x : Placed) → slice_get pieces j ≡ Some x → unwrap_or (slice_get (gathered queries parts (map lane pieces)) j) set.empty ≡ prefixes_in queries parts (source_of x)
  gathered_at parts pieces j x at =
      ap (λ (o : Option Set). unwrap_or o set.empty) (get_map (prefixes_for queries parts) (map lane pieces) j (lane x) (get_map lane pieces j x at)) ∙ own parts x

  pub recalls_ended : (pieces : List Placed) (answers : Answers) (closed : Option ℕ) (sets : List Set) → answers.window ≡ window → closed ≡ Some (window_of (map lane pieces)) → sets ≡ gathered queries answers.parts (map lane pieces)
      → Recalls queries pieces (Some answers) closed sets
  recalls_ended pieces answers closed sets number last are = λ w j x at.
      let members : Set = prefixes_in queries answers.parts (source_of x) in
      ap (λ (o : Option ℕ). unwrap_or (slice_get (kept_for o sets w) j) set.empty) (last ∙ ap Some (window_is pieces j x at ∙ sym number))
      ∙ ap (λ (b : Bool). unwrap_or (slice_get (cond b sets []) j) set.empty) (next_test answers.window w)
      ∙ if_next (answers.window + 1 == w) sets j members (ap (λ (ss : List Set). unwrap_or (slice_get ss j) set.empty) are ∙ gathered_at answers.parts pieces j x at)

-- the lanes of one switch at the end of a window
module _ (queries : List TypedQuery) (tables : Tables) (kept : Source → Set) (tuples : List (List ℕ)) (window : ℕ) where
  abbrev lanes : List Placed → List Intake
  lanes pieces = map (done queries tables kept tuples window) pieces

  -- what is left of the lanes at the end of a window, where the engine keeps the prefixes that the pieces admitted
  pub lanes_are_left : (closed : Option ℕ) (sets : List Set) (pieces : List Placed) → AreKept pieces kept (kept_for closed sets window)
      → lanes_left queries closed sets (lanes pieces) ≡ map (left_done queries tables kept tuples window) pieces
  lanes_are_left closed sets pieces h = ended_are_left queries window (done queries tables kept tuples window) (λ x. refl) (λ parts x. refl) kept closed sets pieces h

  pub recalls_next : (pieces : List Placed) (answers : Answers) (closed : Option ℕ) (sets : List Set) → answers.window ≡ window → closed ≡ Some (window_of (lanes pieces)) → sets ≡ gathered queries answers.parts (lanes pieces)
      → Recalls queries pieces (Some answers) closed sets
  recalls_next pieces answers closed sets number last are = recalls_ended queries window (done queries tables kept tuples window) (λ x. refl) (λ parts x. refl) pieces answers closed sets number last are

-- before the first window
pub recalls_none : (queries : List TypedQuery) (pieces : List Placed) (closed : Option ℕ) (sets : List Set) → closed ≡ None → Recalls queries pieces None closed sets
recalls_none queries pieces closed sets none = λ w j x at. ap (λ (o : Option ℕ). unwrap_or (slice_get (kept_for o sets w) j) set.empty) none

-- ---- one close

pub closed_parts : (queries : List TypedQuery) (tables : Tables) (kept : Source → Set) (tuples : List (List ℕ)) (window : ℕ) (closed : Option ℕ) (sets : List Set) (pieces : List Placed) (lanes : List Intake) (parts : List Part)
    → lanes ≡ map (done queries tables kept tuples window) pieces → parts ≡ parts_of queries (lanes_left queries closed sets lanes) → AreKept pieces kept (kept_for closed sets window)
    → parts ≡ parts_of queries (map (left_done queries tables kept tuples window) pieces)
closed_parts queries tables kept tuples window closed sets pieces lanes parts are is h =
    is ∙ ap (λ (ls : List Intake). parts_of queries (lanes_left queries closed sets ls)) are
    ∙ ap (parts_of queries) (lanes_are_left queries tables kept tuples window closed sets pieces h)
