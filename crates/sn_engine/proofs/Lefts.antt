-- Lanes without the items of other prefixes.
use Rattle.std.proofs.Common.{◌≡◌, ℕ, zero, suc, ◌+◌, ◌<◌, get_or, Result, Ok, Err, IfOk, ◌≤◌, List, [], ◌∷◌, map, length, drop, true, false, cond, arith, slice_get, unwrap_or, Option, None, Some, refl, ap, sym, ◌∙◌}
use Rattle.std.specs.List.{find}
use Rattle.std.specs.Option.{option_map_or}
use Rattle.std.specs.FinSet as set
use Rattle.std.proofs.lemmas.List.{drop_all}
use Rattle.sn_base.specs.declared.lane.Lane.{Lane}
use Rattle.sn_fields.specs.declared.field.Field.{Field}
use Rattle.sn_pipe_items.specs.Left.{left_of}
use Rattle.sn_engine_split.specs.Opened.{Prefixes, keeps_in}
use Rattle.sn_engine_split.proofs.Whole.{left_of_branch}
use Rattle.sn_refine.specs.Steps.{Set}
use Rattle.sn_report.specs.Items.{Item}
use Rattle.sn_report.specs.declared.frame.Tag.{Tag}
use Rattle.sn_report.specs.declared.frame.Tag.TheVariants.{At, Partial}
use Rattle.sn_types.specs.declared.typed_query.TypedBranch.{TypedBranch}
use Rattle.sn_types.specs.declared.typed_query.TypedQuery.{TypedQuery}
use Rattle.sn_base.proofs.Lists.{none_some, some_same}
use Rattle.sn_engine.specs.declared.intake.Intake.{Intake}
use Rattle.sn_engine.specs.Intakes.{AreIntakes, IsIntake, is_lane, items_at}
use Rattle.sn_engine.specs.Keeping.{all_left, left, with_bits}

-- ---- where no level stands before

all_of_tag : (refined : Option Field) (branch : TypedBranch) (tag : Tag) (row : List ℕ) (rest : List Item) → left_of (keeps_in refined branch None) rest ≡ rest → left_of (keeps_in refined branch None) (record { tag = tag; row = row } ∷ rest) ≡ record { tag = tag; row = row } ∷ rest
all_of_tag refined branch (At i) row rest e = ap (λ (xs : List Item). record { tag = At i; row = row } ∷ xs) e
all_of_tag refined branch (Partial i) row rest e = ap (λ (xs : List Item). record { tag = Partial i; row = row } ∷ xs) e

pub nothing_dropped : (refined : Option Field) (branch : TypedBranch) (found : List Item) → left_of (keeps_in refined branch None) found ≡ found
nothing_dropped refined branch [] = refl
nothing_dropped refined branch (x ∷ found) = all_of_tag refined branch x.tag x.row found (nothing_dropped refined branch found)

-- ---- where the query isn't refined

none_of_tag : (branch : TypedBranch) (ps : Prefixes) (tag : Tag) (row : List ℕ) (rest : List Item) → left_of (keeps_in None branch (Some ps)) (record { tag = tag; row = row } ∷ rest) ≡ left_of (keeps_in None branch (Some ps)) rest
none_of_tag branch ps (At i) row rest = refl
none_of_tag branch ps (Partial i) row rest = refl

pub all_dropped : (branch : TypedBranch) (ps : Prefixes) (found : List Item) → left_of (keeps_in None branch (Some ps)) found ≡ []
all_dropped branch ps [] = refl
all_dropped branch ps (x ∷ found) = none_of_tag branch ps x.tag x.row found ∙ all_dropped branch ps found

-- ---- lanes by their numbers

pub left_sound : (queries : List TypedQuery) (members : Set) (x : Intake) → IsIntake queries x → IsIntake queries (left queries members x)
left_sound queries members x h = record { query = h.query; branch = h.branch; each = left_of_branch queries x.query x.branch (with_bits x.before members) x.items h.each }

pub lefts_sound : (queries : List TypedQuery) (sets : List Set) (lanes : List Intake) → AreIntakes queries lanes → AreIntakes queries (all_left queries sets lanes)
lefts_sound queries sets [] h = tt
lefts_sound queries [] (x ∷ lanes) h = (left_sound queries set.empty x h.0, lefts_sound queries [] lanes h.1)
lefts_sound queries (members ∷ sets) (x ∷ lanes) h = (left_sound queries members x h.0, lefts_sound queries sets lanes h.1)

pub length_left : (queries : List TypedQuery) (sets : List Set) (lanes : List Intake) → length (all_left queries sets lanes) ≡ length lanes
length_left queries sets [] = refl
length_left queries [] (x ∷ lanes) = ap suc (length_left queries [] lanes)
length_left queries (members ∷ sets) (x ∷ lanes) = ap suc (length_left queries sets lanes)

-- the prefixes of a lane by its number
abbrev pub members_of : List Set → ℕ → Set
members_of sets i = unwrap_or (slice_get sets i) set.empty

pub left_get : (queries : List TypedQuery) (sets : List Set) (lanes : List Intake) (i : ℕ) (x : Intake) → slice_get lanes i ≡ Some x → slice_get (all_left queries sets lanes) i ≡ Some (left queries (members_of sets i) x)
left_get queries sets [] i x at = absurd (none_some at)
left_get queries [] (y ∷ lanes) zero x at = ap (λ (z : Intake). Some (left queries set.empty z)) (some_same y x at)
left_get queries [] (y ∷ lanes) (suc i) x at = left_get queries [] lanes i x at
left_get queries (members ∷ sets) (y ∷ lanes) zero x at = ap (λ (z : Intake). Some (left queries members z)) (some_same y x at)
left_get queries (members ∷ sets) (y ∷ lanes) (suc i) x at = left_get queries sets lanes i x at

-- ---- one lane after another

drop_at : {X : Type 0} (xs : List X) (i : ℕ) (x : X) → slice_get xs i ≡ Some x → drop i xs ≡ x ∷ drop (suc i) xs
drop_at [] i x at = absurd (none_some at)
drop_at (y ∷ xs) zero x at = ap (λ z. z ∷ xs) (some_same y x at)
drop_at (y ∷ xs) (suc i) x at = drop_at xs i x at

items_first : (lane : Lane) (x : Intake) (xs : List Intake) → is_lane lane x ≡ true → items_at (x ∷ xs) lane ≡ x.items
items_first lane x xs is = ap (λ b. option_map_or (λ (y : Intake). y.items) (cond b (Some x) (find (is_lane lane) xs)) []) is

items_later : (lane : Lane) (x : Intake) (xs : List Intake) → is_lane lane x ≡ false → items_at (x ∷ xs) lane ≡ items_at xs lane
items_later lane x xs isnt = ap (λ b. option_map_or (λ (y : Intake). y.items) (cond b (Some x) (find (is_lane lane) xs)) []) isnt

module _ (queries : List TypedQuery) (sets : List Set) (lanes : List Intake) (lane : Lane) (i : ℕ) (x : Intake) (at : slice_get lanes i ≡ Some x) where
  pub here_left : is_lane lane x ≡ true → items_at (drop i (all_left queries sets lanes)) lane ≡ (left queries (members_of sets i) x).items
  here_left is =
      let ls = all_left queries sets lanes in
      let y = left queries (members_of sets i) x in
      ap (λ (zs : List Intake). items_at zs lane) (drop_at ls i y (left_get queries sets lanes i x at)) ∙ items_first lane y (drop (suc i) ls) is

  pub later_left : is_lane lane x ≡ false → items_at (drop i (all_left queries sets lanes)) lane ≡ items_at (drop (suc i) (all_left queries sets lanes)) lane
  later_left isnt =
      let ls = all_left queries sets lanes in
      let y = left queries (members_of sets i) x in
      ap (λ (zs : List Intake). items_at zs lane) (drop_at ls i y (left_get queries sets lanes i x at)) ∙ items_later lane y (drop (suc i) ls) isnt

-- after all lanes
pub none_left : (queries : List TypedQuery) (sets : List Set) (lanes : List Intake) (lane : Lane) (i : ℕ) → length lanes ≤ i → items_at (drop i (all_left queries sets lanes)) lane ≡ []
none_left queries sets lanes lane i past =
    let long : length (all_left queries sets lanes) ≤ i = let e = length_left queries sets lanes in omega (arith, e, past) in
    ap (λ (zs : List Intake). items_at zs lane) (drop_all i (all_left queries sets lanes) long)

-- ---- what the code knows

pub get_at : {X : Type 0} (xs : List X) (i : ℕ) (x : X) → i < length xs → x ≡ get_or xs i x → slice_get xs i ≡ Some x
get_at [] i x lt is = absurd (omega (arith, lt))
get_at (y ∷ xs) zero x lt is = ap (λ z. Some z) (sym is)
get_at (y ∷ xs) (suc i) x lt is = get_at xs i x (omega (arith, lt)) is

pub at_get : {X : Type 0} (xs : List X) (i : ℕ) (x : X) → slice_get xs i ≡ Some x → x ≡ get_or xs i x
at_get [] i x at = absurd (none_some at)
at_get (y ∷ xs) zero x at = sym (some_same y x at)
at_get (y ∷ xs) (suc i) x at = at_get xs i x at

pub if_ok : {A E : Type 0} (P Q : A → Type 0) (r : Result A E) → ((a : A) → P a → Q a) → IfOk r P → IfOk r Q
if_ok P Q (Ok a) h p = h a p
if_ok P Q (Err e) h p = tt

pub next_is : (i : ℕ) → i + 1 ≡ suc i
next_is i = omega arith

-- ---- lanes that are made of pieces

pub all_left_map : {X : Type 0} (queries : List TypedQuery) (g : X → Set) (f : X → Intake) (xs : List X) → all_left queries (map g xs) (map f xs) ≡ map (λ x. left queries (g x) (f x)) xs
all_left_map queries g f [] = refl
all_left_map queries g f (x ∷ xs) = ap (λ (ls : List Intake). left queries (g x) (f x) ∷ ls) (all_left_map queries g f xs)

-- without sets each lane has the empty one
pub all_left_none : {X : Type 0} (queries : List TypedQuery) (f : X → Intake) (xs : List X) → all_left queries [] (map f xs) ≡ map (λ x. left queries set.empty (f x)) xs
all_left_none queries f [] = refl
all_left_none queries f (x ∷ xs) = ap (λ (ls : List Intake). left queries set.empty (f x) ∷ ls) (all_left_none queries f xs)
