use Rattle.std.proofs.Common.{◌≡◌, List, map, sym, subst}
use Rattle.sn_base.specs.Groups.{Row}
use Rattle.sn_base.specs.Operators.{through}
use Rattle.sn_ops.proofs.Ends.{Ready}
use Rattle.sn_ops.proofs.Steps.{ok_weaker}
use Rattle.sn_ops.specs.SeenStates.{SeenState}
use Rattle.sn_ops.specs.Standing.{Stands}
use Rattle.sn_types.specs.Values.{op_at}
use Rattle.sn_ops_stream.specs.States.{BranchState}
use Rattle.sn_ops_stream.specs.Streams.{GivesRows, HasTaken}
use Rattle.sn_ops_stream.proofs.BranchLemmas.{gives, ready}
use Rattle.sn_ops_stream.proofs.branch.BranchStream.finish.Goals as goal

pub finish-requires : goal.finish-requires
finish-requires g c =
    let given = c.requires in
    let inside = c.self.inside in
    let s : BranchState = record { refined = inside.packets.refined; level = inside.packets.level; fields = inside.packets.fields.now; ops = inside.ops.now; seen = inside.seen.items; out = inside.out } in
    let taken : HasTaken given.0 given.1 given.2 given.3 given.4 s = subst (HasTaken given.0 given.1 given.2 given.3 given.4) (sym c.self.view_is) given.5 in
    subst (λ (seen : List SeenState). Ready s.level s.ops seen s.out) (sym c.deref.ensures.value) (ready given.0 given.1 given.2 given.3 given.4 s taken)

pub returns : goal.returns
returns g c =
    let inside = c.self.inside in
    let s : BranchState = record { refined = inside.packets.refined; level = inside.packets.level; fields = inside.packets.fields.now; ops = inside.ops.now; seen = inside.seen.items; out = inside.out } in
    ok_weaker (λ (found : List Row). (rows : List Row) → Stands s.level s.ops c.deref.result.now rows s.out → found ≡ through (map (op_at s.level) s.ops) rows) (GivesRows c.args.self)
    (λ found step. subst (λ (v : BranchState). GivesRows v found) c.self.view_is
    (gives s found (λ rows stands. step rows (subst (λ (seen : List SeenState). Stands s.level s.ops seen rows s.out) (sym c.deref.ensures.value) stands))))
    c.finish.result c.finish.ensures
