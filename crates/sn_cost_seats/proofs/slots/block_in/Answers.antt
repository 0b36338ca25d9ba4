use Rattle.std.proofs.Common.{map, sym, ◌∙◌}
use Rattle.std.proofs.lemmas.Bool.{lt-ltb, le-ltb}
use Rattle.std.proofs.lemmas.Simd.{map-map}
use Rattle.std.proofs.lemmas.List.{length-map}
use Rattle.sn_base.specs.Groups.{Row}
use Rattle.sn_base.specs.Slot.{slot}
use Rattle.sn_cost_seats.proofs.Blocks.{all_there, none_there}
use Rattle.sn_cost_seats.proofs.slots.block_in.Goals as goal

pub returns-then-register-depth : goal.returns-then-register-depth
returns-then-register-depth g c =
    let columns = g.R.Columns.columns in
    c.slots_of_eight.ensures ∙ sym (map-map (λ (key : Row). slot c.args.register key c.args.slots) columns c.args.block.now)
    ∙ all_there c.args.depth c.args.slots c.args.register (map columns c.args.block.now) (lt-ltb c.args.register c.args.depth c.if-register-depth.true)

pub returns-else-register-depth : goal.returns-else-register-depth
returns-else-register-depth g c =
    let columns = g.R.Columns.columns in
    none_there c.args.depth c.args.slots c.args.register 8 (map columns c.args.block.now) (length-map c.args.block.now columns ∙ c.requires.eight) (le-ltb c.args.register c.args.depth c.if-register-depth.false)
