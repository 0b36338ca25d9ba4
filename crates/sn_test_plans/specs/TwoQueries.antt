-- A small space of plans: two queries on a switch with room for one register.
use Rattle.std.specs.Prelude.{ℕ, ◌+◌, Bool, true, false, ◌&&◌, ◌==◌, if◌then◌else◌}
use Rattle.sn_tree_space.specs.declared.follow.Follow.{Follow}
use Rattle.sn_tree_space.specs.declared.follow.Follow.TheVariants.{Complete, Choices}
use Rattle.sn_tree_space.specs.Space.{Space}
use Rattle.sn_tree_space.specs.Readers.{Reader, space_of}
use Rattle.sn_test_plans.specs.declared.two_queries.Turn.{Turn}
use Rattle.sn_test_plans.specs.declared.two_queries.Turn.TheVariants.{FirstPath, FirstOption, FirstStage, SecondPath, SecondOption, SecondStage, Nothing}
use Rattle.sn_test_plans.specs.declared.two_queries.State.{State}

-- what is chosen after a choice, by whether that was the last option
abbrev pub turn_after : Turn → Bool → Turn
turn_after FirstPath last = FirstOption
turn_after FirstOption true = FirstStage
turn_after FirstOption false = SecondPath
turn_after FirstStage last = SecondPath
turn_after SecondPath last = SecondOption
turn_after SecondOption true = SecondStage
turn_after SecondOption false = Nothing
turn_after SecondStage last = Nothing
turn_after Nothing last = Nothing

abbrev pub first_after : Turn → Bool → Bool → Bool
first_after FirstOption last first = last
first_after _ last first = first

abbrev pub second_after : Turn → Bool → Bool → Bool
second_after SecondOption last second = last
second_after _ last second = second

abbrev pub after : State → ℕ → State
after s x = record { turn = turn_after s.turn (x == 2); first = first_after s.turn (x == 2) s.first; second = second_after s.turn (x == 2) s.second }

abbrev pub next : Turn → Follow
next FirstPath = Choices 0 1
next FirstOption = Choices 0 3
next FirstStage = Choices 1 1
next SecondPath = Choices 0 1
next SecondOption = Choices 0 3
next SecondStage = Choices 1 1
next Nothing = Complete

abbrev pub of_first : Bool → ℕ
of_first first = if first then 1 else 5

abbrev pub of_second : Bool → ℕ
of_second second = if second then 3 else 5

-- what the options chosen emit, and the least that those to come do
abbrev pub lower : Turn → Bool → Bool → ℕ
lower FirstPath first second = 4
lower FirstOption first second = 4
lower FirstStage first second = of_first first + 3
lower SecondPath first second = of_first first + 3
lower SecondOption first second = of_first first + 3
lower SecondStage first second = of_first first + of_second second
lower Nothing first second = of_first first + of_second second

-- both registers are placed
abbrev pub is_bad : Turn → Bool → Bool → Bool
is_bad Nothing first second = first && second
is_bad _ first second = false

abbrev pub reader : Reader State
reader = record {
  start = record { turn = FirstPath; first = false; second = false };
  step = after;
  next = λ s. next s.turn;
  bad = λ s. is_bad s.turn s.first s.second;
  low = λ s. lower s.turn s.first s.second;
}

abbrev pub two_queries : Space
two_queries = space_of reader 6
