use Rattle.std.proofs.Common.{◌∙◌}
use Rattle.sn_cost.specs.Entries.{front_of}
use Rattle.sonata_entries.proofs.TextLemmas.{level_left, level_taken}
use Rattle.sonata_entries.proofs.table.levels_of.Goals as goal
use Rattle.sonata_entries.proofs.table.levels_of.Goals.{then-bits-eq1+in_ok-push, else-bits-eq1}

pub loop-level-preserved : goal.loop-level-preserved
loop-level-preserved c =
    let levels = c.args.levels.now in
    let whole = front_of c.args.front levels in
    elim c.if-bits-eq1.branch [
      | then-bits-eq1+in_ok-push w ↦
          level_taken c.loop-level.bits c.loop-level.level-index levels c.loop-level.found c.if-bits-eq1.found whole w.if-bits-eq1.true c.loop-level-test.true (w.found-is ∙ w.in_ok-push.ensures.ok) c.loop-level.invariant
      | else-bits-eq1 w ↦ level_left c.loop-level.bits c.loop-level.level-index levels c.loop-level.found c.if-bits-eq1.found whole w.if-bits-eq1.false c.loop-level-test.true w.found-is c.loop-level.invariant
    ]
