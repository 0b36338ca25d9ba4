use Rattle.std.proofs.Common.{arith, ◌-◌, ap, ◌∙◌, length, drop, length-drop, take, Option, List, ℕ}
use Rattle.std.specs.Io.KnownBytes.{append_known}
use Rattle.sn_io.proofs.Reported.{rest_is, reported_more}
use Rattle.sn_io.proofs.sink.write_all_to.Goals as goal

pub loop-done-preserved : goal.loop-done-preserved
loop-done-preserved g c =
    let done = c.loop-done.done in
    let piece = c.args.piece.now in
    let reported = g.S.Sink.written c.args.sink.now in
    record {
      within = omega (arith, c.in-Ok.ensures.within, ap length (rest_is piece done), length-drop done piece);
      front = c.in-Ok.ensures.appended ∙ ap (λ (w : Option (List ℕ)). append_known w (take c.in-Ok.taken (take (length piece - done) (drop done piece)))) c.loop-done.invariant.front ∙ reported_more reported piece done c.in-Ok.taken;
      faults = omega arith;
      empty_takes = omega arith;
    }
