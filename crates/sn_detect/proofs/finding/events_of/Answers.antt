use Rattle.std.proofs.Common.{◌<◌, List, ◌++◌, length, ap, ◌∙◌, arith}
use Rattle.sn_base.specs.Groups.{Row}
use Rattle.sn_ops.proofs.Steps.{flat_step}
use Rattle.sn_detect.specs.declared.look.Look.{Look}
use Rattle.sn_detect.specs.Finding.{look_events}
use Rattle.sn_detect.proofs.finding.events_of.Goals as goal

pub loop-look-preserved : goal.loop-look-preserved
loop-look-preserved c =
    let looks = c.args.looks.now in
    let i = c.loop-look.look-index in
    let look : Look = c.look-item.result in
    let within : i < length looks = omega arith in
    c.in_ok-add_look.ensures
    ∙ ap (λ (es : List Row). es ++ look_events look) c.loop-look.invariant
    ∙ flat_step look_events looks i look within c.look-item.is
