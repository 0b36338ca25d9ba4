use Rattle.std.proofs.Common.{[], ◌∷◌, ◌++◌}
use Rattle.sn_command_capture.proofs.RisingLemmas.{rising_next}
use Rattle.sn_command_run.proofs.AlongLemmas.{rising_again}
use Rattle.sn_command_emit.proofs.answering.ReporterAnswering.pass.Goals as goal

pub end-requires : goal.end-requires
end-requires c = let h = c.requires.hand in (h.0, h.1, h.3)

pub begin-requires : goal.begin-requires
begin-requires c = let h = c.requires.hand in (h.0 ++ (c.args.at_hand, h.1) ∷ [], c.in_ok-block.ensures.closed h.0 h.1 h.3)

pub take-requires : goal.take-requires
take-requires c =
    let h = c.requires.hand in
    let closed = h.0 ++ (c.args.at_hand, h.1) ∷ [] in
    let rising = rising_next h.0 c.args.at_hand c.args.number h.1 [] (rising_again _ h.0 c.args.at_hand [] h.1 h.3.rising) c.requires.above in
    (c.args.number, (closed, [], c.in_ok-begin.ensures.begun closed (c.in_ok-block.ensures.closed h.0 h.1 h.3) rising))

pub returns-clause-begun : goal.returns-clause-begun
returns-clause-begun c = λ closed tuples some h rising.
    let whole = closed ++ (c.args.at_hand, tuples) ∷ [] in
    c.in_ok-take.ensures.given whole c.args.number [] (c.in_ok-begin.ensures.begun whole (c.in_ok-block.ensures.closed closed tuples h) rising)
