-- to be believed
-- What `check` does.
use Rattle.std.specs.Prelude.{ℕ, List, [], ◌∷◌, ◌++◌, Bool, true, false, codes, length}
use Rattle.std.specs.Fmt.{decimal}
use Rattle.sn_cost.specs.Entries.{trained}
use Rattle.sn_plan_grammar.specs.declared.plan.Plan.{Plan}
use Rattle.sn_command_texts.specs.Fitting.{Fitting}
use Rattle.sn_command_texts.specs.Queries.{QueriesIn}
use Rattle.sn_command_texts.specs.Texts.{SwitchIn}
use Rattle.sn_types_read.specs.Texts.{Queries}
use Rattle.sn_command_run.specs.Run.{window_ns}
use Rattle.sn_tree_space.specs.declared.node.Node.{Node}
use Rattle.sn_command.specs.Outcomes.{Stage}
use Rattle.sn_command.specs.Stages.{Adds, Bytes, Judges, Text, Then, most_text}
use Rattle.sn_switch.specs.declared.switch.Switch.{Switch}
use Rattle.sn_command_training.specs.Training.{TrainingIn}
use Rattle.sn_cost_training.specs.Trained.{Training}
use Rattle.sn_text.specs.Cutting.{tokens_of}
use Rattle.sn_tree_text.specs.Places.{from_byte}
use Rattle.sn_prices_grammar.specs.declared.prices.Shown.{Shown}
use Rattle.sn_prices_text.specs.Announced.{has_prices}
use Rattle.sn_command_prices.specs.After.{PricesAfter}
use Rattle.sn_command_prices.specs.Priced.{PricedFor}
use Rattle.sn_command_check.specs.PlanTrees.{PlanBefore, TreeAfter}
use Rattle.sn_command_check.specs.Shown.{ShownFor}

-- the line on a cost, and on a tree with this many nodes, that show what they say
abbrev pub yes_line : ℕ → ℕ → List ℕ
yes_line cost nodes = codes "yes cost " ++ decimal cost ++ codes " nodes " ++ decimal nodes ++ 10 ∷ []

-- the line on a cost, and on prices that show that no plan costs less than this number
abbrev pub bounded_line : ℕ → ℕ → List ℕ
bounded_line cost least = codes "yes cost " ++ decimal cost ++ codes " least " ++ decimal least ++ 10 ∷ []

-- The cost and the tree are tested for the plan, over the windows of the training capture. Where they show that no plan costs less,
-- the line says so.
abbrev pub Showing : Queries → Switch → Training → Plan → ℕ × List Node → Stage (Unit {0})
Showing read limits training plan tree =
    Then (Judges (ShownFor limits read.queries (trained training.numbers training.tuples) plan tree.0 tree.1)) (λ _.
    Adds (yes_line tree.0 (length tree.1)))

-- The cost and the prices are tested for the plan, over the windows of the training capture. Where they show that no plan costs less than the
-- number that is reported, the line says so.
abbrev pub Bounding : Queries → Switch → Training → Plan → Shown → Stage (Unit {0})
Bounding read limits training plan shown =
    Then (Judges (PricedFor limits read.queries (trained training.numbers training.tuples) plan shown)) (λ _.
    Adds (bounded_line shown.cost shown.least))

-- what stands from this byte on after a plan that fits, as a cost and a tree
abbrev pub Treed : Queries → Switch → Training → List ℕ → Plan → ℕ → Stage (Unit {0})
Treed read limits training text plan byte = Then (Judges (TreeAfter text byte)) (λ tree. Showing read limits training plan tree)

-- and as a cost and prices
abbrev pub Priced : Queries → Switch → Training → List ℕ → Plan → ℕ → Stage (Unit {0})
Priced read limits training text plan byte = Then (Judges (PricesAfter text byte)) (λ shown. Bounding read limits training plan shown)

-- Prices stand after the plan, or else a tree.
abbrev pub After : Queries → Switch → Training → List ℕ → Plan → ℕ → Bool → Stage (Unit {0})
After read limits training text plan byte true = Priced read limits training text plan byte
After read limits training text plan byte false = Treed read limits training text plan byte

-- The text of a plan with what is to show that it costs least, or how much more at most: the plan is read and tested, and then its cost and its
-- tree are, or its cost and its prices where the word `prices` stands after the cost.
abbrev pub PlanTree : Queries → Switch → Training → List ℕ → Stage (Unit {0})
PlanTree read limits training text =
    Then (Judges (PlanBefore text)) (λ found.
    Then (Fitting read.queries limits found.0) (λ _.
    After read limits training text found.0 found.1 (has_prices (from_byte found.1 (tokens_of text)))))

-- `check SWITCH QUERIES TRAIN PLANTREE`: the queries are read, then the switch, then the training capture, and then the plan with its
-- cost and its tree.
abbrev pub Check : List ℕ → List ℕ → List ℕ → List ℕ → Stage (Unit {0})
Check switch queries train plantree =
    Then (Text queries QueriesIn) (λ read.
    Then (Text switch SwitchIn) (λ limits.
    Then (Text train (TrainingIn (window_ns read))) (λ training.
    Then (Bytes most_text plantree) (λ text.
    PlanTree read limits training text))))
