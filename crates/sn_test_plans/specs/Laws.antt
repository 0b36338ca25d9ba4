-- The space of two queries is a space.
use Rattle.std.proofs.Common.{◌≡◌, ℕ, ◌+◌, ◌≤◌, List, [], ◌∷◌, Bool, true, false, refl, arith, inl, inr}
use Rattle.std.specs.Prelude.{◌==◌}
use Rattle.sn_tree_space.specs.declared.follow.Follow.TheVariants.{Complete}
use Rattle.sn_tree_space.specs.Space.{SpaceLaws, itself, through, IsPlan}
use Rattle.sn_tree_space.specs.Readers.{MayFollow, ReaderLaws}
use Rattle.sn_tree_space.proofs.Reading.{space_laws}
use Rattle.sn_test_plans.specs.declared.two_queries.Turn.{Turn}
use Rattle.sn_test_plans.specs.declared.two_queries.Turn.TheVariants.{FirstPath, FirstOption, FirstStage, SecondPath, SecondOption, SecondStage, Nothing}
use Rattle.sn_test_plans.specs.declared.two_queries.State.{State}
use Rattle.sn_test_plans.specs.TwoQueries.{turn_after, first_after, second_after, next, lower, is_bad, reader, two_queries}

-- how many choices come before
abbrev number : Turn → ℕ
number FirstPath = 0
number FirstOption = 1
number FirstStage = 2
number SecondPath = 3
number SecondOption = 4
number SecondStage = 5
number Nothing = 6

abbrev Holds : State → ℕ → Type 0
Holds s n = n ≤ number s.turn

keeps : (turn : Turn) (last : Bool) (n x : ℕ) → n ≤ number turn → MayFollow (next turn) x → n + 1 ≤ number (turn_after turn last)
keeps FirstPath last n x h m = omega arith
keeps FirstOption true n x h m = omega arith
keeps FirstOption false n x h m = omega arith
keeps FirstStage last n x h m = omega arith
keeps SecondPath last n x h m = omega arith
keeps SecondOption true n x h m = omega arith
keeps SecondOption false n x h m = omega arith
keeps SecondStage last n x h m = omega arith
keeps Nothing last n x h m = absurd m

ends : (turn : Turn) (n : ℕ) → n ≤ number turn → 6 ≤ n → next turn ≡ Complete
ends FirstPath n h e = absurd (omega arith)
ends FirstOption n h e = absurd (omega arith)
ends FirstStage n h e = absurd (omega arith)
ends SecondPath n h e = absurd (omega arith)
ends SecondOption n h e = absurd (omega arith)
ends SecondStage n h e = absurd (omega arith)
ends Nothing n h e = refl

rises : (turn : Turn) (last first second : Bool) (x : ℕ) → MayFollow (next turn) x
    → lower turn first second ≤ lower (turn_after turn last) (first_after turn last first) (second_after turn last second)
rises FirstPath last first second x m = omega arith
rises FirstOption true first second x m = omega arith
rises FirstOption false first second x m = omega arith
rises FirstStage last first second x m = omega arith
rises SecondPath last first second x m = omega arith
rises SecondOption true first second x m = omega arith
rises SecondOption false first second x m = omega arith
rises SecondStage last first second x m = omega arith
rises Nothing last first second x m = absurd m

stays_bad : (turn : Turn) (last first second : Bool) (x : ℕ) → MayFollow (next turn) x → is_bad turn first second ≡ true
    → is_bad (turn_after turn last) (first_after turn last first) (second_after turn last second) ≡ true
stays_bad FirstPath last first second x m b = absurd cc
stays_bad FirstOption last first second x m b = absurd cc
stays_bad FirstStage last first second x m b = absurd cc
stays_bad SecondPath last first second x m b = absurd cc
stays_bad SecondOption last first second x m b = absurd cc
stays_bad SecondStage last first second x m b = absurd cc
stays_bad Nothing last first second x m b = absurd m

reader_laws : ReaderLaws reader 6 Holds
reader_laws = record {
  begins = omega arith;
  keeps = λ s n x h m. keeps s.turn (x == 2) n x h m;
  ends = λ s n h e. ends s.turn n h e;
  rises = λ s n x h m. rises s.turn (x == 2) s.first s.second x m;
  stays_bad = λ s n x h m b. stays_bad s.turn (x == 2) s.first s.second x m b;
}

zeros : List ℕ
zeros = 0 ∷ 0 ∷ 0 ∷ 0 ∷ []

zeros_plan : IsPlan two_queries zeros
unfolding zeros
zeros_plan = record {
  partial = through [] (0 ∷ []) zeros (inl refl) (through (0 ∷ []) (0 ∷ 0 ∷ []) zeros (inl refl)
      (through (0 ∷ 0 ∷ []) (0 ∷ 0 ∷ 0 ∷ []) zeros (inl refl) (through (0 ∷ 0 ∷ 0 ∷ []) zeros zeros (inl refl) (itself zeros))));
  complete = refl;
  unbroken = refl;
}

pub two_queries_laws : SpaceLaws two_queries
two_queries_laws = space_laws reader 6 Holds reader_laws zeros zeros_plan

-- the last option of the first query, and the first of the second
pub first_plan : IsPlan two_queries (0 ∷ 2 ∷ 1 ∷ 0 ∷ 0 ∷ [])
first_plan = record {
  partial = through [] (0 ∷ []) (0 ∷ 2 ∷ 1 ∷ 0 ∷ 0 ∷ []) (inl refl) (through (0 ∷ []) (0 ∷ 2 ∷ []) (0 ∷ 2 ∷ 1 ∷ 0 ∷ 0 ∷ []) (inr (inr (inl refl)))
      (through (0 ∷ 2 ∷ []) (0 ∷ 2 ∷ 1 ∷ []) (0 ∷ 2 ∷ 1 ∷ 0 ∷ 0 ∷ []) (inl refl)
      (through (0 ∷ 2 ∷ 1 ∷ []) (0 ∷ 2 ∷ 1 ∷ 0 ∷ []) (0 ∷ 2 ∷ 1 ∷ 0 ∷ 0 ∷ []) (inl refl)
      (through (0 ∷ 2 ∷ 1 ∷ 0 ∷ []) (0 ∷ 2 ∷ 1 ∷ 0 ∷ 0 ∷ []) (0 ∷ 2 ∷ 1 ∷ 0 ∷ 0 ∷ []) (inl refl) (itself (0 ∷ 2 ∷ 1 ∷ 0 ∷ 0 ∷ []))))));
  complete = refl;
  unbroken = refl;
}
