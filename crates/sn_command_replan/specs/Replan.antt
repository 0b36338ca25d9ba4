-- to be believed
-- What `replan` does, and what it writes of the windows of a capture.
use Rattle.std.specs.Prelude.{ℕ, suc, List, [], ◌∷◌, ◌++◌, length, true, codes, Some, Result}
use Rattle.std.specs.Fmt.{decimal}
use Rattle.std.specs.List.{sum_by}
use Rattle.sn_command.specs.declared.fault.Fault.{Fault}
use Rattle.sn_command.specs.Outcomes.{Stage}
use Rattle.sn_command.specs.Stages.{Then}
use Rattle.sn_command_capture.specs.Capture.{Answered}
use Rattle.sn_command_capture.specs.Wording.{Wording}
use Rattle.sn_command_live.specs.Live.{CertifiesAfter}
use Rattle.sn_command_run.specs.Planned.{Planned, answers_at, emitted_in}
use Rattle.sn_command_run.specs.Run.{window_ns}
use Rattle.sn_command_run.specs.TraceWording.{up_to}
use Rattle.sn_command_search.specs.Certificates.{certificate_text}
use Rattle.sn_command_search.specs.declared.certificate.Certificate.{Certificate}
use Rattle.sn_out.specs.Text.{block_text, damage_line, total_line}
use Rattle.sn_plan_grammar.specs.declared.plan.Entry.{Entry}
use Rattle.sn_replan.specs.Epochs.{Span, Spans, epochs_from}
use Rattle.sn_switch.specs.declared.switch.Switch.{Switch}
use Rattle.sn_types.specs.declared.typed_query.TypedQuery.{TypedQuery}
use Rattle.sn_windows.specs.Rising.{Window}
use Rattle.sn_command_replan.specs.Searched.{searched_on}
use Rattle.sn_emit.specs.Plans.{tables_of}

-- Queries on a switch, how many nodes a search may expand, how many items of a window may leave the switch before their cut, and
-- the first plan.
pub record Followed : Type 0 where
  pub queries : List TypedQuery
  pub limits : Switch
  pub nodes : ℕ
  pub most : ℕ
  pub first : Certificate

abbrev pub entries_of : Certificate → List Entry
entries_of certificate = certificate.plan.entries

-- the plan of a certificate
abbrev pub along : Followed → Certificate → Planned
along f certificate = record { queries = f.queries; tables = tables_of f.limits; entries = entries_of certificate }

-- what is planned on a window: the first of the plans that cost least on it alone
abbrev pub planned_on : Followed → Window → Result Certificate Fault
planned_on f w = searched_on f.limits f.queries f.nodes (w ∷ [])

-- the epochs of windows
abbrev pub epochs_of : Followed → List Window → Spans Certificate Fault
epochs_of f windows = epochs_from f.queries (tables_of f.limits) entries_of (planned_on f) f.most f.first [] windows

-- ---- what is written

-- the line of an epoch
abbrev pub epoch_line : ℕ → List ℕ
epoch_line number = codes "epoch " ++ decimal number ++ 10 ∷ []

-- the line and the plan of an epoch
abbrev pub epoch_text : ℕ → Certificate → List ℕ
epoch_text number certificate = epoch_line number ++ certificate_text certificate

-- Of an epoch with this number and these windows: its line and its plan stand before the block of its first window. Those of the first
-- epoch came before the capture.
abbrev pub heading : List Window → ℕ → Certificate → List ℕ
heading (w ∷ []) (suc number) certificate = epoch_text (suc number) certificate
heading windows number certificate = []

-- the block of the last window of the last of these epochs, which are numbered from here
abbrev pub last_block : Followed → ℕ → List (Span Certificate) → ℕ → List ℕ
last_block f number [] w = []
last_block f number (a ∷ []) w = heading a.windows number a.plan ++ block_text f.queries (answers_at (along f a.plan) a.windows w) true
last_block f number (a ∷ b ∷ more) w = last_block f (suc number) (b ∷ more) w

-- how many items were sent in the windows of these epochs, each along its plan
abbrev pub sent_in : Followed → List (Span Certificate) → ℕ
sent_in f spans = sum_by (λ (a : Span Certificate). emitted_in (along f a.plan) a.windows) spans

-- Each window has its block along the plan of its epoch. It stops where it would begin an epoch whose plan is refused.
abbrev pub replan_wording : Followed → Wording
replan_wording f = record {
  first = [];
  block = λ windows w tuples. last_block f 0 (epochs_of f (up_to w windows)).spans w;
  stops = λ windows w tuples. (epochs_of f (up_to w windows)).refused;
  unfinished = λ closed w tuples. [];
  last = λ windows ending. damage_line ending ++ total_line (length windows) (Some (sent_in f (epochs_of f windows).spans));
}

-- `replan SWITCH QUERIES TRAIN CAPTURE MOST --nodes NODES`: does what `plan` does after the line of the first epoch, and then reads the
-- capture and answers it along the plans of its epochs.
abbrev pub Replans : List ℕ → List ℕ → List ℕ → List ℕ → ℕ → ℕ → Stage (Unit {0})
Replans switch queries train capture most nodes =
    Then (CertifiesAfter (epoch_line 0) switch queries train nodes) (λ found.
    Answered (replan_wording (record { queries = found.read.queries; limits = found.limits; nodes = nodes; most = most; first = found.certificate }))
    (window_ns found.read) capture)
