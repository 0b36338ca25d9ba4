use Rattle.std.proofs.Common.{◌≡◌, ◌∙◌, ap, sym, not, nat_lt, position, arith}
use Rattle.std.proofs.lemmas.List.{length-map}
use Rattle.sn_core.specs.Needs.{first_full, has_room}
use Rattle.sn_core_net.specs.Marks.{is_full}
use Rattle.sn_core_net.specs.Nets.{state}
use Rattle.sn_core_net.specs.Reports.{frame_of}
use Rattle.sn_core_net.specs.declared.net.Net.{Net}
use Rattle.sn_core_net.proofs.MarkLemmas.{lowest_mark, no_mark}
use Rattle.sn_core_net.proofs.Zips.{position_left}
use Rattle.sn_core_net.proofs.net.Net.full_lane.Goals as goal

first_is : (net : Net) → first_full (state net).room (state net).lanes ≡ position (is_full net.room) net.lanes.items
first_is net = position_left (is_full net.room) (λ lane. not (has_room net.room lane)) (λ h x. ap (λ m. not (nat_lt m net.room)) (length-map h.ring.items frame_of)) net.lanes.items net.engine.lanes.items net.matched

pub returns-then-self-eq0 : goal.returns-then-self-eq0
returns-then-self-eq0 c =
    let net : Net = c.args.self.now in
    sym (first_is net ∙ no_mark (is_full net.room) net.marks.full net.lanes.items net.few net.marked.full c.if-self-eq0.true)

pub returns-else-self-eq0 : goal.returns-else-self-eq0
returns-else-self-eq0 c =
    let net : Net = c.args.self.now in
    sym (first_is net ∙ lowest_mark (is_full net.room) net.marks.full net.lanes.items net.few net.marked.full (omega arith) (omega (arith, c.if-self-eq0.false)))
