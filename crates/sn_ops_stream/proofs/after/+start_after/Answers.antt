use Rattle.std.proofs.Common.{◌<◌, arith}
use Rattle.sn_base.specs.Groups.{Row}
use Rattle.sn_ops.proofs.OneMore.{on_ok_weaker, stands_on}
use Rattle.sn_ops.proofs.Starting.{from_first}
use Rattle.sn_ops_stream.proofs.FrontLemmas.{admitted_flow, admitted_groups, admitted_rows, passed_first}
use Rattle.sn_ops_stream.proofs.after.+start_after.Goals as goal

pub returns : goal.returns
returns g t c =
    let level = c.args.level in
    let row : Row = c.args.packet.now in
    let op = c.in-Some._first.now in
    let following = c.in-Some.following.now in
    let s = c.in-Some-split_first_mut._seen.now in
    let later = c.in-Some-split_first_mut.later.now in
    let some : 0 < c.args.front = omega (arith, c.if-front-eq0.false) in
    let gone = passed_first level c.args.front c.args.ops.now following op row c.in-Some.ensures.cases.0 some c.requires.front in
    on_ok_weaker _ _
    (λ step rows. from_first level c.args.ops.now following op c.args.seen.now later c.start_after.new.seen s s rows row c.args.out.now c.start_after.new.out
    c.in-Some.ensures.cases.0 c.in-Some-split_first_mut.ensures.cases.0
    (stands_on level op following s s later c.start_after.new.seen rows row row c.args.out.now c.start_after.new.out
    (admitted_rows level op s.rows.keys row gone.first) (admitted_groups level op s.groups.entries row gone.first) (admitted_flow level op s.rows.keys row gone.first) step))
    c.start_after.result c.start_after.ensures
