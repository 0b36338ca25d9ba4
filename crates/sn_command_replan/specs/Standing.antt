-- serves proofs
-- Where the epochs of windows stand before the next window.
use Rattle.std.specs.Prelude.{ℕ, suc, ◌+◌, Bool, List, [], ◌∷◌, ◌++◌, None, Some, Result, Ok, Err, if◌then◌else◌}
use Rattle.sn_command.specs.declared.fault.Fault.{Fault}
use Rattle.sn_command_run.specs.Planned.{emitted_in}
use Rattle.sn_command_search.specs.declared.certificate.Certificate.{Certificate}
use Rattle.sn_command_replan.specs.Replan.{Followed, along, entries_of, epoch_text, planned_on, sent_in}
use Rattle.sn_replan.specs.Epochs.{Span, Spans, is_over, span}
use Rattle.sn_windows.specs.Rising.{Window}
use Rattle.sn_emit.specs.Plans.{tables_of}

-- the plan of the next window, and the windows that its epoch had before
pub record Current : Type 0 where
  pub plan : Certificate
  pub before : List Window

-- the epochs that are over, and the current one, or the reason for which there is none
pub record Standing : Type 0 where
  pub front : List (Span Certificate)
  pub current : Result Current Fault

abbrev pub going : List (Span Certificate) → Certificate → List Window → Standing
going front plan before = record { front = front; current = Ok (record { plan = plan; before = before }) }

abbrev pub gone : List (Span Certificate) → Fault → Standing
gone front fault = record { front = front; current = Err fault }

abbrev pub at_first : Followed → Standing
at_first f = going [] f.first []

-- an epoch is over, and this is planned
abbrev pub turned : List (Span Certificate) → Result Certificate Fault → Standing
turned front (Ok next) = going front next []
turned front (Err fault) = gone front fault

module _ (f : Followed) where
  abbrev pub over_at : Certificate → List Window → Window → Bool
  over_at plan before w = is_over f.queries (tables_of f.limits) entries_of (planned_on f) f.most plan (before ++ w ∷ []) w.0

  -- one window more
  abbrev pub after_in : List (Span Certificate) → Result Current Fault → Window → Standing
  after_in front (Ok c) w =
      if over_at c.plan c.before w then turned (front ++ span c.plan (c.before ++ w ∷ []) ∷ []) (planned_on f w)
      else going front c.plan (c.before ++ w ∷ [])
  after_in front (Err fault) w = gone front fault

  abbrev pub after : Standing → Window → Standing
  after s w = after_in s.front s.current w

  abbrev pub stands_from : Standing → List Window → Standing
  stands_from s [] = s
  stands_from s (w ∷ ws) = stands_from (after s w) ws

  -- after these windows
  abbrev pub stands_after : List Window → Standing
  stands_after windows = stands_from (at_first f) windows

  -- how many items were sent
  abbrev pub sent_by_in : List (Span Certificate) → Result Current Fault → ℕ
  sent_by_in front (Ok c) = sent_in f front + emitted_in (along f c.plan) c.before
  sent_by_in front (Err fault) = sent_in f front

  abbrev pub sent_by : Standing → ℕ
  sent_by s = sent_by_in s.front s.current

-- the epochs, where one window more came
abbrev pub with_next_in : List (Span Certificate) → Result Current Fault → Window → Spans Certificate Fault
with_next_in front (Ok c) v = record { spans = front ++ span c.plan (c.before ++ v ∷ []) ∷ []; refused = None }
with_next_in front (Err fault) v = record { spans = front; refused = Some fault }

abbrev pub with_next : Standing → Window → Spans Certificate Fault
with_next s v = with_next_in s.front s.current v

-- what stands before the block of the next window
abbrev pub heading_next : List Window → ℕ → Certificate → List ℕ
heading_next [] (suc number) certificate = epoch_text (suc number) certificate
heading_next windows number certificate = []
