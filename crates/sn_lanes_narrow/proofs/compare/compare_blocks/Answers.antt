use Rattle.std.proofs.Common.{◌≡◌, ◌+◌, ◌≤◌, length, arith}
use Rattle.sn_lanes_narrow.specs.Marks.{number_mark}
use Rattle.sn_lanes_narrow.proofs.BlockLemmas.{block_step}
use Rattle.sn_lanes_narrow.proofs.compare.compare_blocks.Goals as goal

pub loop-at-preserved : goal.loop-at-preserved
loop-at-preserved g c =
    let room : c.loop-at.at + 16 ≤ length c.args.column.now = omega arith in
    let long : length c.loop-at.out ≡ length c.args.column.now = omega arith in
    record {
      within = room;
      done = block_step (λ x. number_mark c.args.cmp c.args.and c.args.constant (g.L.Lane.value x)) c.args.column.now c.loop-at.out c.compare_block.new.out c.loop-at.at room long c.loop-at.invariant.done c.compare_block.ensures;
    }
