-- The stages of `finish` have one outcome each.
use Rattle.std.proofs.Common.{◌≡◌, ℕ, List, Result, Ok, Err, refl, ap, sym, ◌∙◌}
use Rattle.sn_report.specs.Framed.{Framed}
use Rattle.sn_report.proofs.Cutting.{one_cutting}
use Rattle.sn_plan_grammar.specs.declared.plan.Entry.{Entry}
use Rattle.sn_command_texts.specs.Queries.{QueriesIn}
use Rattle.sn_command_texts.specs.Texts.{PlanIn}
use Rattle.sn_command_texts.proofs.Verdicts.{one_plan, one_queries}
use Rattle.sn_command.specs.declared.fault.Fault.{Fault}
use Rattle.sn_command.specs.Outcomes.{HasOne}
use Rattle.sn_command.specs.Stages.{HasVerdict}
use Rattle.sn_command.proofs.OneLemmas.{one_does, one_judges, one_text, one_then}
use Rattle.sn_command_capture.specs.Capture.{Whole}
use Rattle.sn_report_reader.specs.Within.{within}
use Rattle.sn_types.specs.declared.typed_query.TypedQuery.{TypedQuery}
use Rattle.sn_command_finish.specs.Finish.{Finish}
use Rattle.sn_command_finish.specs.Reported.{FramedIn, ReportedIn}

framed_once : (bytes : List ℕ) (first second : Result Framed Fault) → FramedIn bytes first → FramedIn bytes second → first ≡ second
framed_once bytes (Ok a) (Ok b) are also = ap Ok ((one_cutting bytes).once a b are also)
framed_once bytes (Ok a) (Err fault) are also = absurd also
framed_once bytes (Err fault) second are also = absurd are

one_framed : (bytes : List ℕ) → HasVerdict (FramedIn bytes)
one_framed bytes = let c = one_cutting bytes in record { verdict = Ok c.framed; is = c.is; once = framed_once bytes }

one_whole : (name : List ℕ) → HasOne (Whole name)
one_whole name = record { some = λ files. record { outcome = _; is = refl }; once = λ files first second a b. a ∙ sym b }

one_reported : (queries : List TypedQuery) (entries : List Entry) (name : List ℕ) → HasOne (ReportedIn queries entries name)
one_reported queries entries name = one_then (one_whole name) (λ file. one_then (one_judges (one_framed (within file))) (λ framed. one_does _))

pub one_finish : (queries plan reports : List ℕ) → HasOne (Finish queries plan reports)
one_finish queries plan reports =
    one_then (one_text queries QueriesIn one_queries) (λ read.
    one_then (one_text plan PlanIn one_plan) (λ chosen.
    one_then (one_does _) (λ _.
    one_reported read.queries chosen.entries reports)))
