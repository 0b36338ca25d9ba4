-- to be believed
-- What a search answers, by what it is given.
use Rattle.std.specs.Prelude.{ℕ, List, Result}
use Rattle.sn_command.specs.declared.fault.Fault.{Fault}
use Rattle.sn_command_search.specs.declared.certificate.Certificate.{Certificate}
use Rattle.sn_command_search.proofs.Verdicts.{one_search}
use Rattle.sn_switch.specs.declared.switch.Switch.{Switch}
use Rattle.sn_types.specs.declared.typed_query.TypedQuery.{TypedQuery}
use Rattle.sn_windows.specs.Rising.{Window}

-- The one verdict of the search over the plans of queries on a switch, each with what it costs over these windows, where this many nodes
-- may be expanded: the certificate of the first of those that cost least, or that the nodes are used up.
abbrev pub searched_on : Switch → List TypedQuery → ℕ → List Window → Result Certificate Fault
searched_on s queries nodes given = (one_search s queries given nodes).verdict
