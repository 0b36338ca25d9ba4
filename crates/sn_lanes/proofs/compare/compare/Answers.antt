use Rattle.std.proofs.Common.{◌≡◌, ◌+◌, ◌≤◌, length, arith}
use Rattle.sn_lanes.specs.Lanes.{flag}
use Rattle.sn_lanes.proofs.LaneLemmas.{block_step}
use Rattle.sn_lanes.proofs.compare.compare.Goals as goal

pub loop-at-preserved : goal.loop-at-preserved
loop-at-preserved c =
    let f = flag c.args.cmp c.args.and c.args.constant in
    let room : c.loop-at.at + 8 ≤ length c.args.column.now = omega arith in
    let long : length c.loop-at.out ≡ length c.args.column.now = omega arith in
    record {
      within = room;
      done = block_step f c.args.column.now c.loop-at.out c.compare_block.new.out c.loop-at.at room long c.loop-at.invariant.done c.compare_block.ensures;
    }
