use Rattle.std.proofs.Common.{◌≡◌, ℕ, suc, ◌+◌, ◌-◌, ◌++◌, Bool, length, map, drop, take, Some, ap, sym, ◌∙◌, arith}
use Rattle.sn_base.specs.Groups.{Row}
use Rattle.sn_engine_split.specs.Opened.{keeps_in}
use Rattle.sn_pipe_items.specs.Left.{keeps_at, left_of}
use Rattle.sn_report.specs.Items.{Item, item_by}
use Rattle.sn_engine.proofs.Drops.{first_drops, none_drops, rest_is}
use Rattle.sn_engine.proofs.left.left_of_kind.Goals as goal

pub returns-in_default : goal.returns-in_default
returns-in_default g c =
    let keeps : Item → Bool = λ x. keeps_at (keeps_in (Some c.args.field) c.args.branch.now (Some (c.args.bits, c.args.members.now))) x.tag x.row in
    none_drops (item_by g.R.Columns.columns) keeps c.args.items.now (sym c.first_dropped.ensures.first ∙ c.in_default.is)

pub returns : goal.returns
returns g c =
    let by = item_by g.R.Columns.columns in
    let items = c.args.items.now in
    let i : ℕ = c.in-Some.first in
    let test : ℕ → Row → Bool = keeps_in (Some c.args.field) c.args.branch.now (Some (c.args.bits, c.args.members.now)) in
    let keeps : Item → Bool = λ x. keeps_at test x.tag x.row in
    let next : i + 1 ≡ suc i = omega arith in
    c.in_ok-push_left.ensures
    ∙ ap (λ xs. map by xs ++ left_of test (map by (take (length items - (i + 1)) (drop (i + 1) items)))) c.in_ok-found.ensures.items
    ∙ ap (λ xs. map by (take i items) ++ left_of test (map by xs)) (rest_is items (i + 1))
    ∙ ap (λ (n : ℕ). map by (take i items) ++ left_of test (map by (drop n items))) next
    ∙ first_drops by keeps items i (sym c.first_dropped.ensures.first ∙ c.in-Some.is)
