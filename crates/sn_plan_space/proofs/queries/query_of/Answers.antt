use Rattle.std.proofs.Common.{◌∙◌}
use Rattle.sn_plan_choices.specs.Costs.{entry_in}
use Rattle.sn_plan_choices.specs.Planning.{PathTask, pieces_of}
use Rattle.sn_plan_space.specs.Known.{known_path, capped_path}
use Rattle.sn_plan_space.proofs.Making.{pushed, path_least}
use Rattle.sn_plan_space.proofs.queries.query_of.Goals as goal

pub loop-m-preserved : goal.loop-m-preserved
loop-m-preserved c =
    let t : PathTask = record { query = c.args.query; typed = c.args.typed.now } in
    record {
      some = pushed (known_path c.args.s.now (entry_in c.args.c.now) t) c.loop-m.m c.in_ok-path.path c.loop-m.paths c.push.new.self c.loop-m.invariant.some c.in_ok-path.ensures c.in_ok-push.ensures.ok;
      least = c.lesser-least.ensures (capped_path c.args.s.now (entry_in c.args.c.now) t) c.loop-m.invariant.least
          (path_least c.args.s.now (entry_in c.args.c.now) (pieces_of t c.loop-m.m) c.as_slice-in-loop-m.result.now c.add_least.result (c.as_slice-in-loop-m.ensures ∙ c.in_ok-path.ensures) c.add_least.ensures);
    }
