use Rattle.std.proofs.Common.{ℕ, ◌<◌, ◌++◌, List, length, replicate, take, sym, subst, ◌∙◌, arith}
use Rattle.sn_base.specs.Columns.{IsOf}
use Rattle.sn_base.specs.Groups.{Row}
use Rattle.sn_base.proofs.Lists.{all_append}
use Rattle.sn_cost_seats.specs.Seats.{rows_at}
use Rattle.sn_cost_tally.specs.Weighed.{repeated}
use Rattle.sn_ops.specs.Packets.{packet_rows}
use Rattle.sn_types.specs.Typed.{branch_at, first_columns, query_at}
use Rattle.sn_types.proofs.RowsAfter.{AreOf}
use Rattle.sn_types.proofs.TypedRows.{of_fields, same_packet_row}
use Rattle.sn_cost_counts.specs.Coming.{ComeWeighed}
use Rattle.sn_cost_counts.proofs.Standing.{all_again, next_few, next_kept, next_left}
use Rattle.sn_cost_counts.proofs.weighed.come_weighed.Goals as goal
use Rattle.sn_cost_counts.proofs.weighed.come_weighed.Goals.{then-is_kept+in_ok-add, else-is_kept}

pub loop-number-init : goal.loop-number-init
loop-number-init g c = record { come = c.new-found.ensures c.args.at.now.level c.args.ops.now c.requires.stateless; columns = tt }

pub add-requires-clause-takes : goal.add-requires-clause-takes
add-requires-clause-takes g c =
    let a = c.args in
    let t = a.at.now.t.now in
    c.requires.takes c.row-packet.result (of_fields t.window_us t.queries a.at.now.q a.at.now.b c.packets-packets.result.fields.now c.row-packet.result t.typed a.at.now.has_query a.at.now.has_branch c.packets-packets.ensures.fields c.row-packet.ensures.columns)

pub add-requires-clause-few : goal.add-requires-clause-few
add-requires-clause-few g c =
    let a = c.args in
    let query = query_at a.at.now.t.now.queries a.at.now.q in
    let firsts = a.firsts.now in
    let i : ℕ = c.loop-number.number in
    let before : List Row = packet_rows query a.at.now.b a.at.now.level a.at.now.kept (repeated (rows_at a.at.now.tuples.now (take i firsts.places.items)) (take i firsts.times.items)) in
    let long = firsts.places.ok.0 in
    let lt : i < length firsts.places.items = omega (arith, c.loop-number-test.true, c.len-number-end.ensures, long) in
    let few = next_few query a.at.now.b a.at.now.tuples.now firsts c.requires.firsts i c.index.result.now c.index-tuples-index.result lt c.index.ensures c.index-tuples-index.is a.at.now.level a.at.now.kept c.index-then-is_kept.result.now c.index-then-is_kept.ensures in
    (before, omega (arith, few, a.at.now.few), c.loop-number.invariant.come)

pub loop-number-preserved : goal.loop-number-preserved
loop-number-preserved g c =
    let a = c.args in
    let t = a.at.now.t.now in
    let query = query_at t.queries a.at.now.q in
    let firsts = a.firsts.now in
    let tuples = a.at.now.tuples.now in
    let i : ℕ = c.loop-number.number in
    let place : ℕ = c.index.result.now in
    let tuple : List ℕ = c.index-tuples-index.result in
    let made = c.packets-packets.result in
    let same = c.packets-packets.ensures in
    let before : List Row = packet_rows query a.at.now.b a.at.now.level a.at.now.kept (repeated (rows_at tuples (take i firsts.places.items)) (take i firsts.times.items)) in
    let long = firsts.places.ok.0 in
    let lt : i < length firsts.places.items = omega (arith, c.loop-number-test.true, c.len-number-end.ensures, long) in
    let fields = (branch_at t.queries a.at.now.q a.at.now.b).fields in
    let columns = first_columns (branch_at t.queries a.at.now.q a.at.now.b) in
    record {
      come = elim c.if-is_kept.branch [
        | then-is_kept+in_ok-add w ↦
            (let row : Row = w.row-packet.result in
            let times : ℕ = w.index-then-is_kept.result.now in
            let is = w.row-packet.ensures.row ∙ same_packet_row made.refined query.field made.level a.at.now.level made.fields.now fields tuple same.refined same.level same.fields in
            subst (λ rows. ComeWeighed a.at.now.level a.ops.now rows c.if-is_kept.found.reached.seen c.if-is_kept.found.reached.passed c.if-is_kept.found.rows c.if-is_kept.found.weights.items)
            (next_kept query a.at.now.b tuples firsts c.requires.firsts i place tuple lt c.index.ensures c.index-tuples-index.is a.at.now.level a.at.now.kept row times (sym c.is_kept.ensures ∙ w.if-is_kept.true) is w.index-then-is_kept.ensures)
            (subst (λ found. ComeWeighed a.at.now.level a.ops.now (before ++ replicate times row) found.reached.seen found.reached.passed found.rows found.weights.items) (sym w.found-is) (w.in_ok-add.ensures before c.loop-number.invariant.come)))
        | else-is_kept w ↦
            (subst (λ rows. ComeWeighed a.at.now.level a.ops.now rows c.if-is_kept.found.reached.seen c.if-is_kept.found.reached.passed c.if-is_kept.found.rows c.if-is_kept.found.weights.items)
            (next_left query a.at.now.b tuples firsts c.requires.firsts i place tuple lt c.index.ensures c.index-tuples-index.is a.at.now.level a.at.now.kept (sym c.is_kept.ensures ∙ w.if-is_kept.false))
            (subst (λ found. ComeWeighed a.at.now.level a.ops.now before found.reached.seen found.reached.passed found.rows found.weights.items) (sym w.found-is) c.loop-number.invariant.come))
      ];
      columns = elim c.if-is_kept.branch [
        | then-is_kept+in_ok-add w ↦
            (let row : Row = w.row-packet.result in
            let times : ℕ = w.index-then-is_kept.result.now in
            let is = w.row-packet.ensures.row ∙ same_packet_row made.refined query.field made.level a.at.now.level made.fields.now fields tuple same.refined same.level same.fields in
            subst (AreOf columns)
            (next_kept query a.at.now.b tuples firsts c.requires.firsts i place tuple lt c.index.ensures c.index-tuples-index.is a.at.now.level a.at.now.kept row times (sym c.is_kept.ensures ∙ w.if-is_kept.true) is w.index-then-is_kept.ensures)
            (all_append (IsOf columns) before (replicate times row) c.loop-number.invariant.columns
            (all_again (IsOf columns) row (of_fields t.window_us t.queries a.at.now.q a.at.now.b made.fields.now row t.typed a.at.now.has_query a.at.now.has_branch same.fields w.row-packet.ensures.columns) times)))
        | else-is_kept w ↦
            (subst (AreOf columns) (next_left query a.at.now.b tuples firsts c.requires.firsts i place tuple lt c.index.ensures c.index-tuples-index.is a.at.now.level a.at.now.kept (sym c.is_kept.ensures ∙ w.if-is_kept.false)) c.loop-number.invariant.columns)
      ];
    }
