use Rattle.std.proofs.Common.{◌≡◌, ◌*◌, ◌+◌, ◌≤◌, ◌∷◌, ◌++◌, [], List, All, length, map, replicate, ap, sym, subst, ◌∙◌}
use Rattle.sn_base.specs.Groups.{Row}
use Rattle.sn_cost_seats.specs.Tallies.{marked}
use Rattle.sn_cost_tally.specs.declared.room.Homes.{Homes}
use Rattle.sn_windows.specs.Blocks.{most_records}
use Rattle.sn_cost_counts.specs.AnyFlow.{Flow}
use Rattle.sn_cost_counts.specs.Flows.{counted}
use Rattle.sn_cost_counts.specs.Passing.{Passing, flows_of}
use Rattle.sn_cost_counts.proofs.Sharing.{counted_each, each_kept, each_sent}
use Rattle.sn_cost_counts.proofs.Together.{counted_same, on_ok}
use Rattle.sn_cost_counts.proofs.passing.Passing+RowSeq+R.add_counts.Goals as goal

pub returns-in_ok-push-in-Together : goal.returns-in_ok-push-in-Together
returns-in_ok-push-in-Together g c =
    let rows : List Row = c.in-Together.rows in
    let more = c.in-Together.more in
    on_ok c.add_repeated_count.result (c.add_repeated_count.new.counts ≡ c.push.new.self ++ replicate more c.len-count.result) _
    (λ is.
    counted_same rows more c.args.counts.now c.push.new.self c.add_repeated_count.new.counts
    (c.in_ok-push-in-Together.ensures.ok ∙ ap (λ n. c.args.counts.now ++ n ∷ []) c.len-count.ensures)
    (is ∙ ap (λ n. c.push.new.self ++ replicate more n) c.len-count.ensures)
    ∙ ap (λ (p : Passing). c.args.counts.now ++ map counted (flows_of p)) (sym c.in-Together.is))
    c.add_repeated_count.ensures

pub add_marked-requires-clause-sent : goal.add_marked-requires-clause-sent
add_marked-requires-clause-sent g c =
    let shared = c.in-Marked.shared in
    subst (λ (hs : List Homes). All (λ (h : Homes). h.over ≤ 13 * most_records) hs) (sym c.as_slice.ensures.value)
    (each_sent shared.distinct shared.rows shared.homes.items (13 * most_records) (subst (λ (p : Passing). All (λ (f : Flow). f.sent ≤ 13 * most_records) (flows_of p)) c.in-Marked.is c.requires.sent))

pub add_marked-requires-clause-few : goal.add_marked-requires-clause-few
add_marked-requires-clause-few g c =
    let shared = c.in-Marked.shared in
    subst (λ (hs : List Homes). All (λ (h : Homes). length (marked h.marks.items shared.rows) ≤ most_records) hs) (sym c.as_slice.ensures.value)
    (each_kept shared.distinct shared.rows shared.homes.items most_records (subst (λ (p : Passing). All (λ (f : Flow). length f.rows ≤ most_records) (flows_of p)) c.in-Marked.is c.requires.few))

pub returns-in-Marked : goal.returns-in-Marked
returns-in-Marked g c =
    let shared = c.in-Marked.shared in
    let old = c.args.counts.now in
    let each : Homes → _ = λ h. h.over + length (marked h.marks.items shared.rows) in
    on_ok c.add_marked.result (c.add_marked.new.counts ≡ old ++ map each c.as_slice.result.now) _
    (λ is.
    is ∙ ap (λ (hs : List Homes). old ++ map each hs) c.as_slice.ensures.value ∙ ap (λ ns. old ++ ns) (counted_each shared.distinct shared.rows shared.homes.items)
    ∙ ap (λ (p : Passing). old ++ map counted (flows_of p)) (sym c.in-Marked.is))
    c.add_marked.ensures
