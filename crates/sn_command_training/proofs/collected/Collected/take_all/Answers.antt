use Rattle.std.proofs.Common.{List, ◌++◌, map, take, ap, ◌∙◌}
use Rattle.sn_fields.specs.Tuples.{tuple}
use Rattle.sn_command_training.specs.Collecting.{Seen, shown}
use Rattle.sn_command_training.proofs.CollectLemmas.{all_many, all_more, pair_same}
use Rattle.sn_command_training.proofs.collected.Collected.take_all.Goals as goal

pub returns-in-Err : goal.returns-in-Err
returns-in-Err c = λ window seen is.
    let first : List Seen = seen ++ map (shown c.args.link c.args.file.now) (take c.loop-packet.packet-index c.args.packets.now) in
    all_many (shown c.args.link c.args.file.now) seen c.args.packets.now c.loop-packet.packet-index c.loop-packet-test.true window _ c.in_ok-many.field-0 c.in-Err.many c.take.new.self
    (c.in_ok-many.ensures window first (c.loop-packet.invariant window seen is)) c.in-Err.is

pub loop-packet-preserved : goal.loop-packet-preserved
loop-packet-preserved c = λ window seen is.
    let first : List Seen = seen ++ map (shown c.args.link c.args.file.now) (take c.loop-packet.packet-index c.args.packets.now) in
    all_more (shown c.args.link c.args.file.now) seen c.args.packets.now c.loop-packet.packet-index c.loop-packet-test.true window _ _ c.in_ok-many.field-0 c.in_default.field-0 c.take.new.self
    (c.in_ok-many.ensures window first (c.loop-packet.invariant window seen is)) c.in_default.is (pair_same _ _ _ (c.tuple_of-tuple.ensures.fields ∙ ap (tuple c.args.link _) c.bytes.ensures))
