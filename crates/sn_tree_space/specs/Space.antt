-- to be believed
-- Spaces of plans. A plan is a list of choices, taken one after another.
use Rattle.std.specs.Prelude.{◌≡◌, ℕ, ◌+◌, ◌^◌, ◌<◌, ◌≤◌, List, [], ◌∷◌, ◌++◌, map, length, Bool, true, false, ◌||◌, ◌&&◌, ◌==◌, ◌⊎◌, nat_lt}
use Rattle.std.specs.List.{range_with_len}
use Rattle.std.specs.Ordering.{is_lt, nat_cmp}
use Rattle.std.specs.Cmp.Lexicographic.{slice_cmp}
use Rattle.sn_tree_space.specs.declared.follow.Follow.{Follow}
use Rattle.sn_tree_space.specs.declared.follow.Follow.TheVariants.{Complete, Choices}

-- A space of plans: what may follow a list of choices, which lists are broken, the lower bound of a list, and how many choices a list has at
-- most. The lower bound of a complete list is its cost.
pub record Space : Type 0 where
  pub follow : List ℕ → Follow
  pub broken : List ℕ → Bool
  pub lower : List ℕ → ℕ
  pub depth : ℕ

abbrev pub IsOneOf : {A : Type 0} → A → List A → Type 0
IsOneOf x [] = ⊥
IsOneOf x (y ∷ ys) = (x ≡ y) ⊎ IsOneOf x ys

-- ---- partial plans

-- the choices that may stand next
abbrev pub choices_in : Follow → List ℕ
choices_in Complete = []
choices_in (Choices first count) = range_with_len first count

-- the choices and their end are numbers of 32 bits
abbrev pub IsSmall : Follow → Type 0
IsSmall Complete = Unit {0}
IsSmall (Choices first count) = first + count < 2 ^ 32

-- a list with one more choice
abbrev pub with_choice : List ℕ → ℕ → List ℕ
with_choice q x = q ++ x ∷ []

-- a list with each of the choices that may stand next, in order
abbrev pub children : Space → List ℕ → List (List ℕ)
children s q = map (with_choice q) (choices_in (s.follow q))

-- A list goes on to itself, and to every list to which one of its children goes on.
pub data GoesOnTo (s : Space) : List ℕ → List ℕ → Type 0 where
  itself : (q : List ℕ) → GoesOnTo s q q
  through : (q child r : List ℕ) → IsOneOf child (children s q) → GoesOnTo s child r → GoesOnTo s q r

-- a partial plan: each of its choices may stand at its place
abbrev pub IsPartial : Space → List ℕ → Type 0
IsPartial s q = GoesOnTo s [] q

-- a plan of the space: a complete list that isn't broken
pub record IsPlan (s : Space) (r : List ℕ) : Type 0 where
  pub partial : IsPartial s r
  pub complete : s.follow r ≡ Complete
  pub unbroken : s.broken r ≡ false

-- What holds of a space. A list of this many choices is complete, the lower bound of a list isn't above those of its children, the children of a
-- broken list are broken, and there is a plan.
pub record SpaceLaws (s : Space) : Type 0 where
  pub ends : (q : List ℕ) → IsPartial s q → s.depth ≤ length q → s.follow q ≡ Complete
  pub rises : (q child : List ℕ) → IsPartial s q → IsOneOf child (children s q) → s.lower q ≤ s.lower child
  pub stays_broken : (q child : List ℕ) → IsPartial s q → IsOneOf child (children s q) → s.broken q ≡ true → s.broken child ≡ true
  pub some_plan : (r : List ℕ) × IsPlan s r

-- ---- the order

-- a list stands before another by the first choice that differs, and before every longer list that begins with it
abbrev pub stands_before : List ℕ → List ℕ → Bool
stands_before q r = is_lt (slice_cmp nat_cmp q r)

-- a list is taken before another by its lower bound, and among equal bounds by the order of lists
abbrev pub taken_before : Space → List ℕ → List ℕ → Bool
taken_before s q r = nat_lt (s.lower q) (s.lower r) || ((s.lower q == s.lower r) && stands_before q r)

-- the first of the plans of least cost
pub record IsFirstLeast (s : Space) (p : List ℕ) : Type 0 where
  pub plan : IsPlan s p
  pub least : (r : List ℕ) → IsPlan s r → s.lower p ≤ s.lower r
  pub first : (r : List ℕ) → IsPlan s r → s.lower r ≡ s.lower p → stands_before r p ≡ false
