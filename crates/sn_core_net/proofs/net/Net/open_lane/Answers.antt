use Rattle.std.proofs.Common.{◌≡◌, ◌∙◌, ap, sym, not, is_none, is_some, position, Option, None, Some, ℕ, refl, List}
use Rattle.sn_engine.specs.declared.intake.Intake.{Intake}
use Rattle.sn_core_net.proofs.Zips.{position_right}
use Rattle.sn_core_net.proofs.net.Net.open_lane.Goals as goal

not_some : (o : Option ℕ) → not (is_some o) ≡ is_none o
not_some None = refl
not_some (Some n) = refl

pub returns-clause-lane : goal.returns-clause-lane
returns-clause-lane c =
    let net = c.args.self.now in
    c.first_open.ensures.first ∙ ap (λ (xs : List Intake). position (λ x. is_none x.end) xs) c.deref.ensures.value
    ∙ sym (position_right (λ x. is_none x.end) (λ lane. not lane.closed) (λ h x. not_some x.end) net.lanes.items net.engine.lanes.items net.matched)
