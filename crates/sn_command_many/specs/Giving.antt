-- serves proofs
-- The tuples of a window go to several switches.
use Rattle.std.specs.Prelude.{◌≡◌, ℕ, suc, List, [], ◌∷◌, ◌++◌, length}
use Rattle.std.specs.List.{AllByRecursion}
use Rattle.sn_command_captures.specs.Answered.{ending_of}
use Rattle.sn_command_captures.specs.Counted.{left_of}
use Rattle.sn_command_captures.specs.Shares.{IsSound}
use Rattle.sn_command_captures.specs.declared.share.Share.{Share}
use Rattle.sn_emit.specs.declared.tables.Tables.{Tables}
use Rattle.sn_engine_lockstep.specs.declared.source.Source.{Source}
use Rattle.sn_engine_many.specs.Phases.{AreBegun}
use Rattle.sn_engine_many.specs.Switches.{given_to}
use Rattle.sn_engine_many.specs.declared.many.Many.{Many}
use Rattle.sn_plan_grammar.specs.declared.plan.Entry.{Entry}
use Rattle.sn_refine.specs.Steps.{Set}
use Rattle.sn_types.specs.Typed.{HasWidths}
use Rattle.sn_types.specs.declared.typed_query.TypedQuery.{TypedQuery}
use Rattle.sn_windows.proofs.RunLemmas.{AtLeast}
use Rattle.sn_windows.specs.Windows.{in_window}
use Rattle.sn_windows_together.specs.Merging.{after_window}

-- these tuples more came to the switch of this number
abbrev pub given_all : ℕ → List (List ℕ) → List (List (List ℕ)) → List (List (List ℕ))
given_all i [] captures = captures
given_all i (tuple ∷ tuples) captures = given_all i tuples (given_to i tuple captures)

-- these more came to the switches from this number on, to each its own
abbrev pub given_each : ℕ → List (List (List ℕ)) → List (List (List ℕ)) → List (List (List ℕ))
given_each i [] captures = captures
given_each i (tuples ∷ others) captures = given_each (suc i) others (given_all i tuples captures)

-- of the window that is begun more tuples came to the switches
pub record HasTaken (more : List (List (List ℕ)) → List (List (List ℕ))) (before now : Many) : Type 0 where
  pub work : (queries : List TypedQuery) (tables : Tables) (entries : List Entry) (kept : Source → Set) (window : ℕ)
      (captures : List (List (List ℕ))) → AreBegun queries tables entries kept window captures before.switches.items before.engine
      → AreBegun queries tables entries kept window (more captures) now.switches.items now.engine
  pub phase : now.phase ≡ before.phase
  pub last : now.last ≡ before.last
  pub count : length now.switches.items ≡ length before.switches.items
  pub queries : now.engine.t.queries ≡ before.engine.t.queries

-- some tuples of a window came to the switch of this number, and the others are left
pub record IsTaking (switch number : ℕ) (before now : Many) (share left : Share) : Type 0 where
  pub given : List (List ℕ)
  pub taken : HasTaken (given_all switch given) before now
  pub widths : AllByRecursion HasWidths given
  pub tuples : in_window number (left_of share) ≡ given ++ in_window number (left_of left)
  pub after : after_window number (left_of share) ≡ after_window number (left_of left)
  pub least : AtLeast number (left_of left)
  pub sound : IsSound left
  pub ending : ending_of left ≡ ending_of share
