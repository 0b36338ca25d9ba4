use Rattle.std.proofs.Common.{map, bit_and, refl, ap, sym, ◌∙◌, w8}
use Rattle.std.specs.Simd.Lanes.{put_chunk}
use Rattle.std.proofs.lemmas.Simd.{put_chunk_whole}
use Rattle.sn_lanes.proofs.LaneLemmas.{length_flags}
use Rattle.sn_lanes_narrow.specs.Marks.{number_mark}
use Rattle.sn_lanes_narrow.proofs.BlockLemmas.{block_marks, masked_long}
use Rattle.sn_lanes_narrow.proofs.lane.U8Lane.compare_block.Goals as goal

pub compare_bytes-requires-clause-left : goal.compare_bytes-requires-clause-left
compare_bytes-requires-clause-left c = masked_long c.args.block.now (bit_and c.args.and 255) c.requires.block

pub returns : goal.returns
returns c =
    let made = number_mark c.args.cmp c.args.and c.args.constant in
    ap (put_chunk 0 c.args.out.now) (c.compare_bytes.ensures ∙ block_marks w8 254 c.args.cmp c.args.and c.args.constant c.args.block.now refl refl c.requires.block c.type_inv.block)
    ∙ put_chunk_whole c.args.out.now (map made c.args.block.now) (c.requires.out ∙ sym (length_flags made c.args.block.now ∙ c.requires.block))
