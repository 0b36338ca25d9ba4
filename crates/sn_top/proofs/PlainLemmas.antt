-- The stages of `plain` have one outcome each.
use Rattle.std.proofs.Common.{ℕ, List}
use Rattle.sn_command_capture.proofs.AnsweredLemmas.{one_answered}
use Rattle.sn_command_texts.proofs.Verdicts.{one_queries}
use Rattle.sn_command_texts.specs.Queries.{QueriesIn}
use Rattle.sn_command_run.specs.Run.{window_ns}
use Rattle.sn_command.specs.Outcomes.{HasOne}
use Rattle.sn_command.proofs.OneLemmas.{one_then, one_text}
use Rattle.sn_top.specs.Answers.{plain_wording}
use Rattle.sn_top.specs.Plain.{Plain}

pub one_plain : (queries capture : List ℕ) → HasOne (Plain queries capture)
one_plain queries capture = one_then (one_text queries QueriesIn one_queries) (λ read. one_answered (plain_wording read.queries) (window_ns read) capture)
