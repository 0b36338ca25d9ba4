-- serves proofs
-- The lanes that pass a test, a bit of a word for each.
use Rattle.std.specs.Prelude.{◌≡◌, ◌≢◌, ◌<◌, ◌+◌, ◌==◌, ◌&&◌, ℕ, zero, suc, List, [], ◌∷◌, length, not, nat_lt, Bool, true, false}
use Rattle.std.specs.Int.{bit_at}
use Rattle.std.proofs.Math.Nat.{ℕ_set}
use Rattle.sn_core_net.specs.declared.holder.Holder.{Holder}
use Rattle.sn_core_net.specs.declared.marks.Marks.{Marks}

-- a bit that is set exactly where this holds
abbrev pub bit_of : Bool → ℕ
bit_of true = 1
bit_of false = 0

-- whether the element of a number passes, and false where there is none
abbrev pub passes_at : {X : Type 0} → (X → Bool) → List X → ℕ → Bool
passes_at test [] n = false
passes_at test (x ∷ xs) zero = test x
passes_at test (x ∷ xs) (suc n) = passes_at test xs n

-- From this bit on, exactly those of the elements that pass are set.
abbrev pub AreMarkedFrom : {X : Type 0} → (X → Bool) → ℕ → ℕ → List X → Type 0
AreMarkedFrom test first word xs = (n k : ℕ) → n ≡ first + k → n < 64 → bit_at word n ≡ bit_of (passes_at test xs k)

-- the bit of a place is this one, and no other has changed
pub record IsMarkedAt (old new place : ℕ) (holds : Bool) : Type 0 where
  pub here : bit_at new place ≡ bit_of holds
  pub others : (n : ℕ) → n < 64 → n ≢ place → bit_at new n ≡ bit_at old n

-- ---- lanes

abbrev pub holds_frame : Holder → Bool
holds_frame h = not (length h.ring.items == 0)

abbrev pub is_full : ℕ → Holder → Bool
is_full room h = not (nat_lt (length h.ring.items) room)

-- it may be read out where its window is over
abbrev pub may_read : ℕ → Holder → Bool
may_read room h = not h.sender.ended && nat_lt (length h.ring.items) room

pub record AreMarksFrom (first room : ℕ) (hs : List Holder) (marks : Marks) : Type 0 where
  pub holding : AreMarkedFrom holds_frame first marks.holding hs
  pub full : AreMarkedFrom (is_full room) first marks.full hs
  pub readable : AreMarkedFrom (may_read room) first marks.readable hs

-- what a lane holds is marked, and of the others nothing has changed
pub record Sees (place room : ℕ) (h : Holder) (old new : Marks) : Type 0 where
  pub holding : IsMarkedAt old.holding new.holding place (holds_frame h)
  pub full : IsMarkedAt old.full new.full place (is_full room h)
  pub readable : IsMarkedAt old.readable new.readable place (may_read room h)

-- of a lane the marks are right
pub record IsSeen (place room : ℕ) (h : Holder) (marks : Marks) : Type 0 where
  pub holding : bit_at marks.holding place ≡ bit_of (holds_frame h)
  pub full : bit_at marks.full place ≡ bit_of (is_full room h)
  pub readable : bit_at marks.readable place ≡ bit_of (may_read room h)

-- of the lanes before this one nothing has changed
pub record AreSameBelow (first : ℕ) (old new : Marks) : Type 0 where
  pub holding : (n : ℕ) → n < first → bit_at new.holding n ≡ bit_at old.holding n
  pub full : (n : ℕ) → n < first → bit_at new.full n ≡ bit_at old.full n
  pub readable : (n : ℕ) → n < first → bit_at new.readable n ≡ bit_at old.readable n

pub are_marks_prop : (first room : ℕ) (hs : List Holder) (marks : Marks) → IsProp (AreMarksFrom first room hs marks)
are_marks_prop first room hs marks = hlevel ℕ_set
