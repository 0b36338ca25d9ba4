use Rattle.std.proofs.Common.{◌≡◌, ◌+◌, ◌≤◌, length, bit_and, arith}
use Rattle.sn_lanes.proofs.LaneLemmas.{block_step}
use Rattle.sn_lanes.proofs.masks.mask_all.Goals as goal

pub loop-at-preserved : goal.loop-at-preserved
loop-at-preserved c =
    let room : c.loop-at.at + 8 ≤ length c.args.column.now = omega arith in
    let long : length c.loop-at.out ≡ length c.args.column.now = omega arith in
    record {
      within = room;
      done = block_step (λ x. bit_and x c.args.bits) c.args.column.now c.loop-at.out c.mask_block.new.out c.loop-at.at room long c.loop-at.invariant.done c.mask_block.ensures;
    }
