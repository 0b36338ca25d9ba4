use Rattle.std.proofs.Common.{◌≡◌, ◌+◌, filter, rules, sym, ap, ◌∙◌}
use Rattle.sn_pipe.specs.Windows.{goes_up, rows_left}
use Rattle.sn_pipe.proofs.ReadOuts.{rows_over}
use Rattle.sn_pipe.proofs.reading.first_up.Goals as goal

pub loop-at-init : goal.loop-at-init
loop-at-init g c =
    let a = c.args in
    let next = c.next_held-at.ensures in
    ap (filter (goes_up a.level a.spilled a.following.now)) (sym (rows_over a.chain.now a.place c.next_held-at.result next.no_less next.empty))

pub loop-at-preserved : goal.loop-at-preserved
loop-at-preserved g c =
    let a = c.args in
    let t = goes_up a.level a.spilled a.following.now in
    let next = c.next_held-at-in-loop-at.ensures in
    let before : filter t (rows_left a.chain.now (c.loop-at.at + 1)) ≡ filter t (rows_left a.chain.now a.place) = search rules in
    ap (filter t) (sym (rows_over a.chain.now (c.loop-at.at + 1) c.next_held-at-in-loop-at.result next.no_less next.empty)) ∙ before
