-- serves proofs
-- What is kept of the windows that were given, and what holds of it.
use Rattle.std.specs.Prelude.{◌≡◌, ℕ, suc, ◌+◌, ◌-◌, ◌<◌, ◌≤◌, List, [], ◌∷◌, length, Bool, true, nat_eq}
use Rattle.std.specs.Prelude.{slice_get, slice_index, unwrap_or, Option, None, Some}
use Rattle.std.specs.List.{AllByRecursion, AllByRecursion-prop, list_any}
use Rattle.std.proofs.Math.Bool.{Bool-set}
use Rattle.std.proofs.Math.Nat.{ℕ_set}
use Rattle.std.proofs.Math.Bridge.{le_prop}
use Rattle.std.specs.FinSet as set
use Rattle.sn_base.specs.Groups.{Row}
use Rattle.sn_base.specs.Mask.{masked}
use Rattle.sn_fields.specs.declared.field.Field.{Field}
use Rattle.sn_fields.specs.Fields.{width_of}
use Rattle.sn_refine_laws.specs.Reported.{EndsFinest}
use Rattle.sn_refine.specs.Refined.{column_of, level_rows}
use Rattle.sn_refine.specs.Steps.{IsPathOf, Set, rows_at}
use Rattle.sn_types.specs.Typed.{finest_level, query_at}
use Rattle.sn_types.specs.declared.typed_query.TypedQuery.{TypedQuery}
use Rattle.sn_detect.specs.Looks.{holds, refined_at, unrefined_at}
use Rattle.sn_detect.specs.declared.look.Look.{Look}

-- a row's refinement column, masked to these bits, is one of these prefixes
abbrev pub is_admitted : TypedQuery → Field → ℕ → Set → Row → Bool
is_admitted query field bits held row = set.contains held (masked (width_of field) bits (slice_index row (unwrap_or query.column 0)))

-- the unrefined answers hold an address in this window and in this many after it
abbrev pub HoldOn : List Look → ℕ → ℕ → ℕ → Type 0
HoldOn looks a w count = (i : ℕ) → i ≤ count → holds (unrefined_at looks (w + i)) a ≡ true

-- An address that the unrefined answers hold in as many windows of consecutive numbers as the path has levels is in the refined
-- answers of the last of them.
abbrev pub InTime : List ℕ → List Look → Type 0
InTime path looks = (last w a : ℕ) → length path ≡ suc last → HoldOn looks a w last → holds (refined_at looks (w + last)) a ≡ true

-- an address with its highest bits kept
abbrev pub prefix_of : Option Field → ℕ → ℕ → ℕ
prefix_of None bits a = a
prefix_of (Some field) bits a = masked (width_of field) bits a

-- Of the last window: where the unrefined answers hold an address in it and in the j before it, of consecutive numbers, its prefix is
-- among those that the level of place j answered.
abbrev pub OnTheWay : Option Field → List ℕ → Option ℕ → List Set → List Look → Type 0
OnTheWay field path None kept looks = Unit {0}
OnTheWay field path (Some v) kept looks =
    (j w a : ℕ) → suc j < length path → w + j ≡ v → HoldOn looks a w j
    → set.contains (unwrap_or (slice_get kept j) set.empty) (prefix_of field (slice_index path j) a) ≡ true

-- no window was given after the last one
abbrev pub AreUpTo : Option ℕ → List Look → Type 0
AreUpTo None [] = Unit {0}
AreUpTo None (l ∷ looks) = ⊥
AreUpTo (Some last) looks = AllByRecursion (λ (l : Look). l.window ≤ last) looks

-- what is kept of a window, where the levels see the tuples with these prefixes
abbrev pub look_of : TypedQuery → List ℕ → (ℕ → Set) → ℕ → List (List ℕ) → Look
look_of query path held w tuples =
    record {
      window = w;
      unrefined = column_of query (level_rows query (finest_level query) (Some tuples));
      refined = column_of query (rows_at query path held tuples (length path - 1));
    }

-- each window is above those before it
abbrev pub Rise : List Look → Type 0
Rise [] = Unit {0}
Rise (l ∷ looks) = AllByRecursion (λ (m : Look). suc l.window ≤ m.window) looks × Rise looks

-- ---- these are propositions

pub rise_prop : (looks : List Look) → IsProp (Rise looks)
rise_prop [] = hlevel le_prop
rise_prop (l ∷ looks) = hlevel (AllByRecursion-prop (λ (m : Look). suc l.window ≤ m.window) (λ m. le_prop) looks, rise_prop looks)

pub upto_prop : (last : Option ℕ) (looks : List Look) → IsProp (AreUpTo last looks)
upto_prop None [] = hlevel le_prop
upto_prop None (l ∷ looks) = hlevel le_prop
upto_prop (Some last) looks = AllByRecursion-prop (λ (l : Look). l.window ≤ last) (λ l. le_prop) looks

pub time_prop : (b : Bool) (path : List ℕ) (looks : List Look) → IsProp (b ≡ true → InTime path looks)
time_prop b path looks = hlevel Bool-set

pub way_prop : (b : Bool) (field : Option Field) (path : List ℕ) (last : Option ℕ) (kept : List Set) (looks : List Look)
    → IsProp (b ≡ true → OnTheWay field path last kept looks)
way_prop b field path None kept looks = hlevel Bool-set
way_prop b field path (Some v) kept looks = hlevel Bool-set

pub ends_prop : (query : TypedQuery) (path : List ℕ) → IsProp (EndsFinest query path)
ends_prop query path = hlevel (Bool-set, le_prop, ℕ_set)

pub path_prop : (queries : List TypedQuery) (q : ℕ) (path : List ℕ) → IsProp (IsPathOf queries q path)
path_prop queries q path =
    hlevel (
      Bool-set,
      le_prop,
      AllByRecursion-prop (λ level. list_any (nat_eq level) (query_at queries q).levels ≡ true)
          (λ level. hlevel Bool-set) path,
    )
