use Rattle.std.proofs.Common.{[], ◌∷◌, ◌++◌}
use Rattle.sn_ops_stream.proofs.StreamLemmas.{all_come, block_more}
use Rattle.sn_ops_stream.proofs.streams.Streams.give.Goals as goal

pub take_block-requires : goal.take_block-requires
take_block-requires c =
    let given = c.requires in
    (given.0, given.1 ++ c.args.tuple.now ∷ [], block_more given.0 given.1 c.args.tuple.now c.args.self.now c.push.new.self c.in_ok-push.ensures.ok given.2)

pub returns : goal.returns
returns c queries tuples h =
    all_come queries (tuples ++ c.args.tuple.now ∷ []) c.take_block.new.self
    (c.in_ok-take_block.ensures.taken queries (tuples ++ c.args.tuple.now ∷ []) (block_more queries tuples c.args.tuple.now c.args.self.now c.push.new.self c.in_ok-push.ensures.ok h))
    c.in_ok-take_block.ensures.empty
