use Rattle.std.proofs.Common.{◌≡◌, List, [], ◌∷◌, ◌++◌, reverse, refl, ap, sym, ◌∙◌}
use Rattle.sn_base.specs.Groups.{Row}
use Rattle.sn_detect.specs.declared.stay.Stay.{Stay}
use Rattle.sn_detect.specs.Finding.{found_on, with_event}
use Rattle.sn_detect.proofs.finding.found.Goals as goal

found_push : (es : List Row) (e : Row) (ss : List Stay) → found_on (es ++ e ∷ []) ss ≡ found_on es (with_event e ss)
found_push [] e ss = refl
found_push (x ∷ es) e ss = ap (with_event x) (found_push es e ss)

pub events-preserved : goal.events-preserved
events-preserved c =
    let rest : List Row = c.pop.new.self in
    let before : List Stay = reverse c.events.stays in
    ap (found_on rest) c.in_ok-take-in-Some.ensures
    ∙ sym (found_push rest c.in-Some.event before)
    ∙ sym (ap (λ (es : List Row). found_on es before) c.in-Some.ensures.some)
    ∙ c.events.invariant
