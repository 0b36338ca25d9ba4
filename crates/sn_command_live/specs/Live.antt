-- to be believed
-- What `plan` and `live` do.
use Rattle.std.specs.Prelude.{ℕ, List, [], ◌++◌, Ok}
use Rattle.sn_windows.specs.Rising.{Window}
use Rattle.sn_command_search.specs.Certificates.{SearchedIn, certificate_text}
use Rattle.sn_command_search.specs.declared.certificate.Certificate.{Certificate}
use Rattle.sn_cost.specs.Entries.{trained}
use Rattle.sn_command_texts.specs.Queries.{QueriesIn, queries_of}
use Rattle.sn_command_texts.specs.Texts.{SwitchIn}
use Rattle.sn_types_read.specs.Texts.{Queries}
use Rattle.sn_command_run.specs.Planned.{Telling}
use Rattle.sn_command_run.specs.Run.{AlongPlan, window_ns}
use Rattle.sn_command.specs.Outcomes.{Stage}
use Rattle.sn_command.specs.Stages.{Does, Gives, Judges, Text, Then}
use Rattle.sn_switch.specs.declared.switch.Switch.{Switch}
use Rattle.sn_command_run.specs.TraceWording.{TracedAlong}
use Rattle.sn_cost_training.specs.Trained.{Training}
use Rattle.sn_command_training.specs.Training.{TrainingIn}
use Rattle.sn_command_live.specs.declared.certified.Certified.{Certified}

-- the windows of a training capture
abbrev pub trained_windows : Training → List Window
trained_windows training = trained training.numbers training.tuples

-- what was searched: the queries and the switch, with the certificate of the plan that costs least
pub record Searched : Type 0 where
  pub read : Queries
  pub limits : Switch
  pub certificate : Certificate

abbrev pub searched_of : Certified → Searched
searched_of c = record { read = queries_of c.typed; limits = c.limits; certificate = c.certificate }

-- The search adds the certificate of the plan that costs least over a training capture: the plan, its cost and its tree, after this
-- text. A refusal adds nothing.
abbrev pub SearchesAfter : List ℕ → Queries → Switch → Training → ℕ → Stage Searched
SearchesAfter before read limits training nodes =
    Then (Judges (SearchedIn limits read.queries (trained_windows training) nodes)) (λ certificate.
    Does (record { text = before ++ certificate_text certificate; end = Ok (record { read = read; limits = limits; certificate = certificate }) }))

abbrev pub Searches : Queries → Switch → Training → ℕ → Stage Searched
Searches read limits training nodes = SearchesAfter [] read limits training nodes

-- The queries are read, then the switch, then the training capture, and then the plan that costs least is searched for.
abbrev pub CertifiesAfter : List ℕ → List ℕ → List ℕ → List ℕ → ℕ → Stage Searched
CertifiesAfter before switch queries train nodes =
    Then (Text queries QueriesIn) (λ read.
    Then (Text switch SwitchIn) (λ limits.
    Then (Text train (TrainingIn (window_ns read))) (λ training.
    SearchesAfter before read limits training nodes)))

abbrev pub Certifies : List ℕ → List ℕ → List ℕ → ℕ → Stage Searched
Certifies switch queries train nodes = CertifiesAfter [] switch queries train nodes

-- `plan SWITCH QUERIES TRAIN --nodes NODES`: nothing more.
abbrev pub Plan : List ℕ → List ℕ → List ℕ → ℕ → Stage (Unit {0})
Plan switch queries train nodes = Then (Certifies switch queries train nodes) (λ found. Gives (Ok tt))

-- `live SWITCH QUERIES TRAIN CAPTURE --nodes NODES`: then the capture is read and answered along that plan; the answers are given as a
-- machine reports them.
abbrev pub Live : Telling → List ℕ → List ℕ → List ℕ → List ℕ → ℕ → Stage (Unit {0})
Live reported switch queries train capture nodes =
    Then (Certifies switch queries train nodes) (λ found. AlongPlan reported capture found.read found.limits found.certificate.plan)

-- The same with `--schedule SCHEDULE --trace`: with the lines of what happens in a machine that is driven by draws that follow this number.
abbrev pub TracedLive : ℕ → Telling → List ℕ → List ℕ → List ℕ → List ℕ → ℕ → Stage (Unit {0})
TracedLive schedule reported switch queries train capture nodes =
    Then (Certifies switch queries train nodes) (λ found. TracedAlong schedule reported capture found.read found.limits found.certificate.plan)
