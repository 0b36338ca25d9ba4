use Rattle.std.proofs.Common.{◌≡◌, Some, None, ap, sym, ◌∙◌}
use Rattle.sn_base.specs.Groups.{Row}
use Rattle.sn_ops.specs.declared.seen.Passage.{Passage}
use Rattle.sn_ops.specs.Passing.{flows, gone_as}
use Rattle.sn_ops.proofs.OneMore.{on_ok_weaker, stands_on, stands_still}
use Rattle.sn_ops.proofs.Starting.{from_first}
use Rattle.sn_ops.proofs.start.+start.Goals as goal

pub returns-in-Same : goal.returns-in-Same
returns-in-Same g t c =
    let level = c.args.level in
    let row : Row = c.args.packet.now in
    let op = c.in-Some.op.now in
    let s = c.in-Some-split_first_mut.first.now in
    let later = c.in-Some-split_first_mut.later.now in
    let flow : flows level op s.rows.keys row ≡ Some row = sym c.in_ok-begin.ensures.passed ∙ ap (λ (p : Passage). gone_as p row (g.R.Columns.columns c.begin.new.row)) c.in-Same.is in
    on_ok_weaker _ _
    (λ following rows. from_first level c.args.ops.now c.in-Some.following.now op c.args.seen.now later c.start.new.seen s c.begin.new.self rows row c.args.out.now c.start.new.out
    c.in-Some.ensures.cases.0 c.in-Some-split_first_mut.ensures.cases.0
    (stands_on level op c.in-Some.following.now s c.begin.new.self later c.start.new.seen rows row row c.args.out.now c.start.new.out
    c.in_ok-begin.ensures.rows c.in_ok-begin.ensures.groups flow following))
    c.start.result c.start.ensures

pub returns-in-Other : goal.returns-in-Other
returns-in-Other g t c =
    let level = c.args.level in
    let row : Row = c.args.packet.now in
    let next : Row = g.R.Columns.columns c.begin.new.row in
    let op = c.in-Some.op.now in
    let s = c.in-Some-split_first_mut.first.now in
    let later = c.in-Some-split_first_mut.later.now in
    let flow : flows level op s.rows.keys row ≡ Some next = sym c.in_ok-begin.ensures.passed ∙ ap (λ (p : Passage). gone_as p row next) c.in-Other.is in
    on_ok_weaker _ _
    (λ following rows. from_first level c.args.ops.now c.in-Some.following.now op c.args.seen.now later c.take.new.seen s c.begin.new.self rows row c.args.out.now c.take.new.out
    c.in-Some.ensures.cases.0 c.in-Some-split_first_mut.ensures.cases.0
    (stands_on level op c.in-Some.following.now s c.begin.new.self later c.take.new.seen rows row next c.args.out.now c.take.new.out
    c.in_ok-begin.ensures.rows c.in_ok-begin.ensures.groups flow following))
    c.take.result c.take.ensures

pub returns-in-Stays : goal.returns-in-Stays
returns-in-Stays g t c rows =
    let level = c.args.level in
    let row : Row = c.args.packet.now in
    let op = c.in-Some.op.now in
    let s = c.in-Some-split_first_mut.first.now in
    let later = c.in-Some-split_first_mut.later.now in
    let flow : flows level op s.rows.keys row ≡ None = sym c.in_ok-begin.ensures.passed ∙ ap (λ (p : Passage). gone_as p row (g.R.Columns.columns c.begin.new.row)) c.in-Stays.is in
    from_first level c.args.ops.now c.in-Some.following.now op c.args.seen.now later later s c.begin.new.self rows row c.args.out.now c.args.out.now
    c.in-Some.ensures.cases.0 c.in-Some-split_first_mut.ensures.cases.0
    (stands_still level op c.in-Some.following.now s c.begin.new.self later rows row c.args.out.now c.in_ok-begin.ensures.rows c.in_ok-begin.ensures.groups flow)
