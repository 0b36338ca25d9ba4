use Rattle.std.proofs.Common.{[], ◌∷◌, ◌++◌}
use Rattle.sn_command_detect.proofs.answering.WatchAnswering.pass.Goals as goal

pub end-requires : goal.end-requires
end-requires c = let h = c.requires.hand in (h.0, h.1, h.3)

pub returns-clause-begun : goal.returns-clause-begun
returns-clause-begun c = λ closed tuples some h rising.
    let whole = closed ++ (c.args.at_hand, tuples) ∷ [] in
    c.in_ok-take.ensures.taken whole c.args.arg3 [] (c.begin.ensures.begun whole c.args.arg3 (c.in_ok-end.ensures.closed closed tuples h) rising)
