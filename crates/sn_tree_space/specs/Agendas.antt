-- serves proofs
-- Readers that keep a list of what is still to be chosen.
use Rattle.std.specs.Prelude.{◌≡◌, ℕ, ◌+◌, ◌≤◌, List, [], ◌∷◌, ◌++◌, Bool, true, false}
use Rattle.std.specs.List.{AllByRecursion, sum_by}
use Rattle.sn_tree_space.specs.declared.follow.Follow.{Follow}
use Rattle.sn_tree_space.specs.declared.follow.Follow.TheVariants.{Complete}
use Rattle.sn_tree_space.specs.Space.{Space}
use Rattle.sn_tree_space.specs.Readers.{Reader, space_of, MayFollow}

-- What there is to choose, task by task. A task has choices. One that is made costs something, takes up something, and leaves tasks of its own. A task
-- costs at least this much with all that it leaves, and takes at most this many choices. What is taken up can be too much.
pub record Tasks (T U : Type 0) : Type 0 where
  pub choices : T → Follow
  pub leaves : T → ℕ → List T
  pub cost : T → ℕ → ℕ
  pub takes : T → ℕ → List U
  pub least : T → ℕ
  pub most : T → ℕ
  pub too_much : List U → Bool

-- what is left to do, what was spent, and what was taken up
pub record Agenda (T U : Type 0) : Type 0 where
  pub left : List T
  pub spent : ℕ
  pub taken : List U

module _ {T U : Type 0} (tasks : Tasks T U) where
  -- the first task's choice is made: the tasks that it leaves come next
  abbrev pub after_choice : Agenda T U → List T → ℕ → Agenda T U
  after_choice a [] x = a
  after_choice a (t ∷ ts) x = record { left = tasks.leaves t x ++ ts; spent = a.spent + tasks.cost t x; taken = a.taken ++ tasks.takes t x }

  abbrev pub first_choices : List T → Follow
  first_choices [] = Complete
  first_choices (t ∷ ts) = tasks.choices t

  -- The reader of an agenda. Its bound is what was spent, and the least that the tasks still to do cost.
  abbrev pub agenda_reader : List T → Reader (Agenda T U)
  agenda_reader first = record {
    start = record { left = first; spent = 0; taken = [] };
    step = λ a x. after_choice a a.left x;
    next = λ a. first_choices a.left;
    bad = λ a. tasks.too_much a.taken;
    low = λ a. a.spent + sum_by tasks.least a.left;
  }

  -- the space of all ways to do these tasks
  abbrev pub agenda_space : List T → Space
  agenda_space first = space_of (agenda_reader first) (sum_by tasks.most first)

-- What holds of tasks: the bounds on its cost and on its choices hold of each choice, and what is too much stays too much.
pub record TaskLaws {T U : Type 0} (tasks : Tasks T U) : Type 0 where
  pub some : (t : T) → 1 ≤ tasks.most t
  pub fewer : (t : T) (x : ℕ) → MayFollow (tasks.choices t) x → sum_by tasks.most (tasks.leaves t x) + 1 ≤ tasks.most t
  pub dearer : (t : T) (x : ℕ) → MayFollow (tasks.choices t) x → tasks.least t ≤ tasks.cost t x + sum_by tasks.least (tasks.leaves t x)
  pub grows : (taken more : List U) → tasks.too_much taken ≡ true → tasks.too_much (taken ++ more) ≡ true

-- What holds where the first choice does each of some easy tasks: it may be made, it leaves easy tasks, and what it takes up is harmless.
pub record EasyLaws {T U : Type 0} (tasks : Tasks T U) (Easy : T → Type 0) (Harmless : List U → Type 0) : Type 0 where
  pub may : (t : T) → Easy t → MayFollow (tasks.choices t) 0
  pub leaves : (t : T) → Easy t → AllByRecursion Easy (tasks.leaves t 0)
  pub takes : (t : T) (taken : List U) → Easy t → Harmless taken → Harmless (taken ++ tasks.takes t 0)
  pub nothing : Harmless []
  pub fine : (taken : List U) → Harmless taken → tasks.too_much taken ≡ false
