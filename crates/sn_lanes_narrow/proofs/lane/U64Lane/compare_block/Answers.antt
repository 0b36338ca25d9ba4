use Rattle.std.proofs.Common.{bit_and, rules, refl, sym, ◌∙◌, w64}
use Rattle.sn_types.specs.Values.{compared}
use Rattle.sn_lanes.proofs.LaneLemmas.{each_flag, stored_flags}
use Rattle.sn_lanes_narrow.proofs.BlockLemmas.{block_marks, masked_long}
use Rattle.sn_lanes_narrow.proofs.lane.U64Lane.compare_block.Goals as goal

pub compare_longs-requires-clause-left : goal.compare_longs-requires-clause-left
compare_longs-requires-clause-left c = masked_long c.args.block.now (bit_and c.args.and 18446744073709551615) c.requires.block

pub overflow_cast-out : goal.overflow_cast-out
overflow_cast-out c =
    rw (c.compare_longs.ensures ∙ block_marks w64 18446744073709551614 c.args.cmp c.args.and c.args.constant c.args.block.now refl refl c.requires.block c.type_inv.block)
    (each_flag _ (search rules) (search rules) (λ x. compared c.args.cmp (bit_and x c.args.and) c.args.constant) c.args.block.now)

pub returns : goal.returns
returns c =
    rw (c.compare_longs.ensures ∙ block_marks w64 18446744073709551614 c.args.cmp c.args.and c.args.constant c.args.block.now refl refl c.requires.block c.type_inv.block)
    (stored_flags _ refl refl (λ x. compared c.args.cmp (bit_and x c.args.and) c.args.constant) c.args.block.now c.args.out.now (c.requires.out ∙ sym c.requires.block))
