use Rattle.std.proofs.Common.{◌<◌, ◌∷◌, ◌++◌, ℕ, List, [], length, take, sym, subst, ◌∙◌, arith}
use Rattle.std.proofs.lemmas.List.{length-take}
use Rattle.sn_base.specs.Groups.{Row}
use Rattle.sn_ops.specs.Packets.{packet_rows}
use Rattle.sn_ops.proofs.PacketSteps.{one_kept, one_left}
use Rattle.sn_ops.proofs.OneTuple.{one_more_of}
use Rattle.sn_types.specs.Typed.{branch_at, first_columns, query_at}
use Rattle.sn_types.proofs.RowsAfter.{AreOf}
use Rattle.sn_types.proofs.TypedRows.{of_fields, same_packet_row}
use Rattle.sn_cost_counts.specs.Coming.{HaveCome}
use Rattle.sn_cost_counts.proofs.Arrivals.{few_packets}
use Rattle.sn_cost_counts.proofs.coming.come_through.Goals as goal
use Rattle.sn_cost_counts.proofs.coming.come_through.Goals.{then-is_kept+in_ok-add, else-is_kept}

pub loop-tuple-init : goal.loop-tuple-init
loop-tuple-init g c = record { come = c.new-found.ensures c.args.at.now.level c.args.ops.now c.requires.stateless; columns = tt }

pub add-requires-clause-takes : goal.add-requires-clause-takes
add-requires-clause-takes g c =
    let a = c.args in
    let t = a.at.now.t.now in
    c.requires.takes c.row-packet.result (of_fields t.window_us t.queries a.at.now.q a.at.now.b c.packets-packets.result.fields.now c.row-packet.result t.typed a.at.now.has_query a.at.now.has_branch c.packets-packets.ensures.fields c.row-packet.ensures.columns)

pub add-requires-clause-few : goal.add-requires-clause-few
add-requires-clause-few g c =
    let a = c.args in
    let query = query_at a.at.now.t.now.queries a.at.now.q in
    let before : List (List ℕ) = take c.loop-tuple.tuple-index a.at.now.tuples.now in
    let few = few_packets query a.at.now.b a.at.now.level a.at.now.kept before in
    let taken = length-take c.loop-tuple.tuple-index a.at.now.tuples.now in
    let within : c.loop-tuple.tuple-index < length a.at.now.tuples.now = c.loop-tuple-test.true in
    (packet_rows query a.at.now.b a.at.now.level a.at.now.kept before, omega (arith, few, taken, within, a.at.now.few), c.loop-tuple.invariant.come)

pub loop-tuple-preserved : goal.loop-tuple-preserved
loop-tuple-preserved g c =
    let a = c.args in
    let query = query_at a.at.now.t.now.queries a.at.now.q in
    let i = c.loop-tuple.tuple-index in
    let tuples = a.at.now.tuples.now in
    let tuple = c.tuple-item.result in
    let made = c.packets-packets.result in
    let same = c.packets-packets.ensures in
    let before : List Row = packet_rows query a.at.now.b a.at.now.level a.at.now.kept (take i tuples) in
    let within : i < length tuples = c.loop-tuple-test.true in
    let fields = (branch_at a.at.now.t.now.queries a.at.now.q a.at.now.b).fields in
    let columns = first_columns (branch_at a.at.now.t.now.queries a.at.now.q a.at.now.b) in
    record {
      come = elim c.if-is_kept.branch [
        | then-is_kept+in_ok-add w ↦
            (let row : Row = w.row-packet.result in
            let is = w.row-packet.ensures.row ∙ same_packet_row made.refined query.field made.level a.at.now.level made.fields.now fields tuple same.refined same.level same.fields in
            subst (λ rows. HaveCome a.at.now.level a.ops.now rows c.if-is_kept.found.reached.seen c.if-is_kept.found.reached.passed c.if-is_kept.found.rows)
            (one_kept query a.at.now.b a.at.now.level a.at.now.kept tuples i tuple row within c.tuple-item.is (sym c.is_kept.ensures ∙ w.if-is_kept.true) is)
            (subst (λ found. HaveCome a.at.now.level a.ops.now (before ++ row ∷ []) found.reached.seen found.reached.passed found.rows) (sym w.found-is) (w.in_ok-add.ensures before c.loop-tuple.invariant.come)))
        | else-is_kept w ↦
            (subst (λ rows. HaveCome a.at.now.level a.ops.now rows c.if-is_kept.found.reached.seen c.if-is_kept.found.reached.passed c.if-is_kept.found.rows)
            (one_left query a.at.now.b a.at.now.level a.at.now.kept tuples i tuple within c.tuple-item.is (sym c.is_kept.ensures ∙ w.if-is_kept.false))
            (subst (λ found. HaveCome a.at.now.level a.ops.now before found.reached.seen found.reached.passed found.rows) (sym w.found-is) c.loop-tuple.invariant.come))
      ];
      columns = elim c.if-is_kept.branch [
        | then-is_kept+in_ok-add w ↦
            (let row : Row = w.row-packet.result in
            let is = w.row-packet.ensures.row ∙ same_packet_row made.refined query.field made.level a.at.now.level made.fields.now fields tuple same.refined same.level same.fields in
            subst (AreOf columns) (one_kept query a.at.now.b a.at.now.level a.at.now.kept tuples i tuple row within c.tuple-item.is (sym c.is_kept.ensures ∙ w.if-is_kept.true) is)
            (one_more_of columns before row c.loop-tuple.invariant.columns (of_fields a.at.now.t.now.window_us a.at.now.t.now.queries a.at.now.q a.at.now.b made.fields.now row a.at.now.t.now.typed a.at.now.has_query a.at.now.has_branch same.fields w.row-packet.ensures.columns)))
        | else-is_kept w ↦
            (subst (AreOf columns) (one_left query a.at.now.b a.at.now.level a.at.now.kept tuples i tuple within c.tuple-item.is (sym c.is_kept.ensures ∙ w.if-is_kept.false)) c.loop-tuple.invariant.columns)
      ];
    }
