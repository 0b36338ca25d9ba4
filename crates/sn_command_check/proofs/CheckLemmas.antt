-- The stages of `check` have one outcome each.
use Rattle.std.proofs.Common.{ℕ, List, Bool, true, false}
use Rattle.sn_cost.specs.Entries.{trained}
use Rattle.sn_command_texts.proofs.Verdicts.{one_queries, one_switch}
use Rattle.sn_command_texts.specs.Queries.{QueriesIn}
use Rattle.sn_command_texts.specs.Texts.{SwitchIn}
use Rattle.sn_command_run.specs.Run.{window_ns}
use Rattle.sn_command.specs.Outcomes.{HasOne}
use Rattle.sn_command.specs.Stages.{most_text}
use Rattle.sn_command.proofs.OneLemmas.{one_bytes, one_does, one_judges, one_text, one_then}
use Rattle.sn_command_training.proofs.TrainingLemmas.{one_training}
use Rattle.sn_command_training.specs.Training.{TrainingIn}
use Rattle.sn_text.specs.Cutting.{tokens_of}
use Rattle.sn_tree_text.specs.Places.{from_byte}
use Rattle.sn_plan_grammar.specs.declared.plan.Plan.{Plan}
use Rattle.sn_prices_text.specs.Announced.{has_prices}
use Rattle.sn_switch.specs.declared.switch.Switch.{Switch}
use Rattle.sn_cost_training.specs.Trained.{Training}
use Rattle.sn_types_read.specs.Texts.{Queries}
use Rattle.sn_command_prices.proofs.Verdicts.{one_priced, one_prices_after}
use Rattle.sn_command_check.specs.Check.{After, Check, Priced, Treed}
use Rattle.sn_command_check.proofs.Verdicts.{one_plan_before, one_shown, one_tree_after}

module _ (read : Queries) (limits : Switch) (training : Training) (text : List ℕ) (plan : Plan) (byte : ℕ) where
  one_treed : HasOne (Treed read limits training text plan byte)
  one_treed =
      one_then (one_judges (one_tree_after text byte)) (λ tree.
      one_then (one_judges (one_shown limits read.queries (trained training.numbers training.tuples) plan tree.0 tree.1)) (λ _.
      one_does _))

  one_bounded : HasOne (Priced read limits training text plan byte)
  one_bounded =
      one_then (one_judges (one_prices_after text byte)) (λ shown.
      one_then (one_judges (one_priced limits read.queries (trained training.numbers training.tuples) plan shown)) (λ _.
      one_does _))

  one_after : (prices : Bool) → HasOne (After read limits training text plan byte prices)
  one_after true = one_bounded
  one_after false = one_treed

pub one_check : (switch queries train plantree : List ℕ) → HasOne (Check switch queries train plantree)
one_check switch queries train plantree =
    one_then (one_text queries QueriesIn one_queries) (λ read.
    one_then (one_text switch SwitchIn one_switch) (λ limits.
    one_then (one_text train (TrainingIn (window_ns read)) (one_training (window_ns read))) (λ training.
    one_then (one_bytes most_text plantree) (λ text.
    one_then (one_judges (one_plan_before text)) (λ found.
    one_then (one_does _) (λ _.
    one_after read limits training text found.0 found.1 (has_prices (from_byte found.1 (tokens_of text)))))))))
