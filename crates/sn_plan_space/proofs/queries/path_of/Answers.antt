use Rattle.std.proofs.Common.{◌+◌, map, ap, length, refl, arith}
use Rattle.sn_plan_choices.specs.Costs.{entry_in}
use Rattle.sn_plan_choices.specs.Planning.{path_pieces}
use Rattle.sn_plan_space.specs.Known.{known_piece}
use Rattle.sn_plan_space.proofs.Making.{path_more, next_small}
use Rattle.sn_plan_space.proofs.queries.path_of.Goals as goal

pub loop-following-preserved : goal.loop-following-preserved
loop-following-preserved c =
    let front = ap (λ k. c.loop-following.before + k) c.bit_of.ensures.value in
    let long = ap length c.in-Some.ensures.cases.0 in
    let within = c.loop-following.invariant.within in
    record {
      done =
          path_more c.args.s.now (entry_in c.args.c.now) c.args.query c.args.typed.now.branches c.loop-following.left c.loop-following.i c.loop-following.before c.in-Some.field-0-0.now
          (c.loop-following.before + c.bit_of.result) c.after_level-before.result c.loop-following.levels.now c.in-Some.following.now c.is_chosen-chosen.result _ c.as_slice.result.now
          c.loop-following.pieces c.add_chosen.new.pieces (map (known_piece c.args.s.now (entry_in c.args.c.now)) (path_pieces c.args.query c.args.typed.now.branches c.args.m 0 0 c.args.typed.now.levels))
          c.as_slice.ensures c.in-Some.ensures.cases.0 c.is_chosen-chosen.ensures front refl c.after_level-before.ensures c.in_ok-add_chosen.ensures c.loop-following.invariant.done;
      within = omega arith;
      below = next_small c.is_chosen-chosen.result c.after_level-before.result (c.loop-following.before + c.bit_of.result) c.loop-following.before c.loop-following.i c.after_level-before.ensures front c.loop-following.invariant.below;
    }
