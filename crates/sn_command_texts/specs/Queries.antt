-- to be believed
-- What query texts are judged to be.
use Rattle.std.specs.Prelude.{ℕ, List, Result}
use Rattle.sn_types_read.specs.Texts.{Queries, IsRead}
use Rattle.sn_types.specs.declared.typed.Typed.{Typed}
use Rattle.sn_command.specs.declared.fault.Fault.{Fault}
use Rattle.sn_command.specs.declared.fault.Fault.TheVariants as faults
use Rattle.sn_command.specs.Stages.{ReadAs}

-- the window and the queries of a typed file
abbrev pub queries_of : Typed → Queries
queries_of t = record { window_us = t.window_us; queries = t.queries }

-- a query text is judged as it is read
abbrev pub QueriesIn : List ℕ → Result Queries Fault → Type 0
QueriesIn text = ReadAs faults.Queries (IsRead text)
