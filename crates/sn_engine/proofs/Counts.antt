-- The number of items after frames that are taken.
use Rattle.std.proofs.Common.{◌≡◌, ℕ, ◌+◌, List, [], ◌∷◌, filter, fold, length, Option, refl, ap, ◌∙◌, arith}
use Rattle.sn_report.specs.Items.{Frame}
use Rattle.sn_report.specs.declared.frame.Frame.TheVariants.{Row, End}
use Rattle.sn_types.specs.declared.typed_query.TypedQuery.{TypedQuery}
use Rattle.sn_engine.specs.declared.intake.Intake.{Intake}
use Rattle.sn_engine.specs.Intakes.{after_frame, is_lane, is_row, total, with_end, with_item}
use Rattle.sn_base.specs.Changed.{with_first}
use Rattle.sn_engine.specs.Taking.{AreTaken}
use Rattle.sn_engine.proofs.Firsts.{sum_same}
use Rattle.sn_engine.proofs.Lanes.{item_counted}

pub counted : (queries : List TypedQuery) (closed : Option ℕ) (lanes : List Intake) (frames : List Frame) → AreTaken queries closed lanes frames
    → total (fold after_frame lanes frames) ≡ total lanes + length (filter is_row frames)
counted queries closed lanes [] taken = omega arith
counted queries closed lanes (Row lane item ∷ frames) taken =
    let one = item_counted queries lanes closed lane item taken.0 in
    let rest = counted queries closed (with_first (is_lane lane) (with_item item) lanes) frames taken.1 in
    omega (arith, one, rest)
counted queries closed lanes (End lane window ∷ frames) taken =
    counted queries closed (with_first (is_lane lane) (with_end window) lanes) frames taken.1
    ∙ ap (λ n. n + length (filter is_row frames)) (sum_same (λ (x : Intake). length x.items) (is_lane lane) (with_end window) (λ x. refl) lanes)
