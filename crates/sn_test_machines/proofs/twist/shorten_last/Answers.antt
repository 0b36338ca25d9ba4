use Rattle.std.proofs.Common.{List, ap, ◌∙◌}
use Rattle.sn_base.specs.Groups.{Row}
use Rattle.sn_types.specs.declared.answers.Part.{Part}
use Rattle.sn_test_machines.specs.Twist.{shorter}
use Rattle.sn_test_machines.proofs.TwistLemmas.{last_changed, popped}
use Rattle.sn_test_machines.proofs.twist.shorten_last.Goals as goal

pub returns-then-count-gt0 : goal.returns-then-count-gt0
returns-then-count-gt0 c =
    let old = c.index_mut.result.now in
    let made : List Row → Part = λ rows. record { query = old.query; level = old.level; rows = rows } in
    last_changed shorter c.args.parts.now.items c.len-count.result old (made c.pop.new.self) (c.len-count.ensures ∙ c.args.parts.now.ok.0) c.if-count-gt0.true
    (ap made (popped old.rows c.pop.new.self c.pop.result c.pop.ensures.some c.pop.ensures.none c.pop.ensures.empty) ∙ ap shorter c.index_mut.ensures.value)
