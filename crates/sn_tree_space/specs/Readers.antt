-- serves proofs
-- Spaces whose lists are read choice by choice.
use Rattle.std.specs.Prelude.{◌≡◌, ℕ, ◌+◌, ◌<◌, ◌≤◌, List, Bool, true, fold}
use Rattle.sn_tree_space.specs.declared.follow.Follow.{Follow}
use Rattle.sn_tree_space.specs.declared.follow.Follow.TheVariants.{Complete, Choices}
use Rattle.sn_tree_space.specs.Space.{Space}

-- A reader of choices: what it knows before the first and after one more, and what it says of the list that it has read.
pub record Reader (S : Type 0) : Type 0 where
  pub start : S
  pub step : S → ℕ → S
  pub next : S → Follow
  pub bad : S → Bool
  pub low : S → ℕ

-- what a reader knows after a list
abbrev pub read : {S : Type 0} → Reader S → List ℕ → S
read r choices = fold r.step r.start choices

-- the space of a reader, whose lists have at most this many choices
abbrev pub space_of : {S : Type 0} → Reader S → ℕ → Space
space_of r depth = record { follow = λ q. r.next (read r q); broken = λ q. r.bad (read r q); lower = λ q. r.low (read r q); depth = depth }

-- a choice may stand next
abbrev pub MayFollow : Follow → ℕ → Type 0
MayFollow Complete x = ⊥
MayFollow (Choices first count) x = (first ≤ x) × (x < first + count)

-- What holds of a reader's steps, where `Holds` is what it keeps after this many choices: it is complete after that many, no step lowers the bound,
-- and none mends a broken list.
pub record ReaderLaws {S : Type 0} (r : Reader S) (depth : ℕ) (Holds : S → ℕ → Type 0) : Type 0 where
  pub begins : Holds r.start 0
  pub keeps : (a : S) (n x : ℕ) → Holds a n → MayFollow (r.next a) x → Holds (r.step a x) (n + 1)
  pub ends : (a : S) (n : ℕ) → Holds a n → depth ≤ n → r.next a ≡ Complete
  pub rises : (a : S) (n x : ℕ) → Holds a n → MayFollow (r.next a) x → r.low a ≤ r.low (r.step a x)
  pub stays_bad : (a : S) (n x : ℕ) → Holds a n → MayFollow (r.next a) x → r.bad a ≡ true → r.bad (r.step a x) ≡ true
