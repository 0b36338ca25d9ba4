use Rattle.std.proofs.Common.{◌≡◌, ◌∷◌, [], ◌++◌, List, length, ap, refl, sym, subst, arith}
use Rattle.std.proofs.lemmas.List.{with_items_is}
use Rattle.std.specs.Vec.{with_items}
use Rattle.sn_base.specs.Groups.{Row}
use Rattle.sn_ops.proofs.OneMore.{on_ok_weaker}
use Rattle.sn_ops.specs.Passing.{CanTake}
use Rattle.sn_ops.specs.SeenStates.{SeenState}
use Rattle.sn_ops.specs.Standing.{Stands}
use Rattle.sn_lanes_narrow.specs.Marks.{mark}
use Rattle.sn_ops_stream.specs.Fronts.{AreFilters}
use Rattle.sn_ops_stream.specs.States.{BranchState}
use Rattle.sn_ops_stream.specs.Streams.{HasTaken, HasTakenMore, IsSameBranch, admits_tuple}
use Rattle.sn_ops_stream.proofs.BranchLemmas.{can_take_one, taken_one}
use Rattle.sn_ops_stream.proofs.FrontLemmas.{goes_past, stays, stays_there}
use Rattle.sn_ops_stream.proofs.branch.BranchStream.give.Goals as goal

pub start_after-requires-clause-front : goal.start_after-requires-clause-front
start_after-requires-clause-front g c =
    let inside = c.self.inside in
    let s : BranchState = record { refined = inside.packets.refined; level = inside.packets.level; fields = inside.packets.fields.now; ops = inside.ops.now; seen = inside.seen.items; out = inside.out } in
    goes_past s c.args.front c.args.marked c.args.tuple.now c.row-packet-2.result c.row-packet-2.ensures.row
    (subst (λ (v : BranchState). c.args.marked ≡ mark (admits_tuple v c.args.front c.args.tuple.now)) (sym c.self.view_is) c.requires.marked) c.if-marked-eq0.false

pub start_after-requires-clause-can : goal.start_after-requires-clause-can
start_after-requires-clause-can g c =
    let given = c.requires.taking in
    let inside = c.self.inside in
    let s : BranchState = record { refined = inside.packets.refined; level = inside.packets.level; fields = inside.packets.fields.now; ops = inside.ops.now; seen = inside.seen.items; out = inside.out } in
    let taken : HasTaken given.0 given.1 given.2 given.3 given.4 s = subst (HasTaken given.0 given.1 given.2 given.3 given.4) (sym c.self.view_is) given.5 in
    subst (λ (seen : List SeenState). CanTake s.level s.ops seen c.row-packet-2.result) (sym c.deref_mut.ensures.value)
    (can_take_one given.0 given.1 given.2 given.3 given.4 c.row-packet-2.result s taken c.row-packet-2.ensures.columns)

pub returns-then-marked-eq0-clause-taken : goal.returns-then-marked-eq0-clause-taken
returns-then-marked-eq0-clause-taken g c queries q b level tuples taken =
    let row : Row = c.row-packet.result in
    let inside = c.self.inside in
    let s : BranchState = record { refined = inside.packets.refined; level = inside.packets.level; fields = inside.packets.fields.now; ops = inside.ops.now; seen = inside.seen.items; out = inside.out } in
    let filters : AreFilters c.args.front s.ops = subst (λ (v : BranchState). AreFilters c.args.front v.ops) (sym c.self.view_is) c.requires.filters in
    let stayed = stays_there s c.args.front c.args.marked c.args.tuple.now row c.row-packet.ensures.row
    (subst (λ (v : BranchState). c.args.marked ≡ mark (admits_tuple v c.args.front c.args.tuple.now)) (sym c.self.view_is) c.requires.marked) c.if-marked-eq0.true in
    subst (HasTaken queries q b level (tuples ++ c.args.tuple.now ∷ [])) c.self.view_is
    (taken_one queries q b level tuples c.args.tuple.now row s s (subst (HasTaken queries q b level tuples) (sym c.self.view_is) taken) refl refl refl refl c.row-packet.ensures.row c.row-packet.ensures.columns
    (λ (rows : List Row) stands. stays s.level c.args.front s.ops s.seen rows row s.out filters stayed stands))

pub returns-clause-taken : goal.returns-clause-taken
returns-clause-taken g c =
    let inside = c.self.inside in
    let row : Row = c.row-packet-2.result in
    let s : BranchState = record { refined = inside.packets.refined; level = inside.packets.level; fields = inside.packets.fields.now; ops = inside.ops.now; seen = inside.seen.items; out = inside.out } in
    let s' : BranchState = record s { seen = (with_items inside.seen c.start_after.new.seen).items; out = c.start_after.new.out } in
    let as_long : length c.start_after.new.seen ≡ inside.seen.len = omega (arith, c.start_after.auto.seen, c.deref_mut.ensures.len) in
    let Steps : Type 0 = (rows : List Row) → Stands s.level s.ops c.deref_mut.result.now rows s.out → Stands s.level s.ops c.start_after.new.seen (rows ++ row ∷ []) c.start_after.new.out in
    on_ok_weaker Steps (HasTakenMore (c.args.tuple.now ∷ []) c.args.self.now s')
    (λ step queries q b level tuples taken.
    taken_one queries q b level tuples c.args.tuple.now row s s' (subst (HasTaken queries q b level tuples) (sym c.self.view_is) taken) refl refl refl refl c.row-packet-2.ensures.row c.row-packet-2.ensures.columns
    (λ (rows : List Row) stands.
    subst (λ (seen : List SeenState). Stands s.level s.ops seen (rows ++ row ∷ []) c.start_after.new.out) (sym (with_items_is inside.seen c.start_after.new.seen as_long))
    (step rows (subst (λ (seen : List SeenState). Stands s.level s.ops seen rows s.out) (sym c.deref_mut.ensures.value) stands))))
    c.start_after.result c.start_after.ensures

pub returns-clause-same : goal.returns-clause-same
returns-clause-same g c =
    let inside = c.self.inside in
    let row : Row = c.row-packet-2.result in
    let s : BranchState = record { refined = inside.packets.refined; level = inside.packets.level; fields = inside.packets.fields.now; ops = inside.ops.now; seen = inside.seen.items; out = inside.out } in
    let s' : BranchState = record s { seen = (with_items inside.seen c.start_after.new.seen).items; out = c.start_after.new.out } in
    let Steps : Type 0 = (rows : List Row) → Stands s.level s.ops c.deref_mut.result.now rows s.out → Stands s.level s.ops c.start_after.new.seen (rows ++ row ∷ []) c.start_after.new.out in
    on_ok_weaker Steps (IsSameBranch c.args.self.now s')
    (λ _. record {
      same_refined = ap (λ (v : BranchState). v.refined) c.self.view_is;
      same_level = ap (λ (v : BranchState). v.level) c.self.view_is;
      same_fields = ap (λ (v : BranchState). v.fields) c.self.view_is;
      same_ops = ap (λ (v : BranchState). v.ops) c.self.view_is;
    })
    c.start_after.result c.start_after.ensures
