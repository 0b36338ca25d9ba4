use Rattle.std.proofs.Common.{◌≡◌, ◌-◌}
use Rattle.sn_base.specs.Groups.{same_row}
use Rattle.sn_chain.specs.Cells.{all_shown}
use Rattle.sn_chain.specs.Chain.{places_of, places_from}
use Rattle.sn_chain.specs.Registers.{held_place, empty_place}
use Rattle.sn_chain.proofs.register.look.Given as goal

abbrev pub invariant-loop-register : goal.invariant-loop-register
invariant-loop-register g l =
    let key = g.R.Columns.columns l.key in
    let cells = all_shown l.marks l.cells in
    let rest = places_from l.slots l.register (l.depth - l.register) key in
    record {
      held : held_place same_row cells rest key ≡ held_place same_row cells (places_of l.depth l.slots key) key;
      empty : empty_place cells rest ≡ empty_place cells (places_of l.depth l.slots key);
    }
