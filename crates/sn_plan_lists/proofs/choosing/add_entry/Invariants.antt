use Rattle.std.proofs.Common.{◌≡◌, ◌++◌, drop}
use Rattle.std.specs.List.{flat_map}
use Rattle.sn_plan_lists.specs.Chosen.{piece_choices, entry_choices}
use Rattle.sn_plan_lists.proofs.choosing.add_entry.Given as goal

abbrev pub invariant-loop-piece : goal.invariant-loop-piece
invariant-loop-piece l = l.choices ++ flat_map (piece_choices l.s l.query) (drop l.piece-index l.entry.pieces) ≡ l.fn.choices ++ entry_choices l.s l.query l.entry
