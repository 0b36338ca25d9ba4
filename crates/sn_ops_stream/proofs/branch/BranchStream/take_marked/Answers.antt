use Rattle.std.proofs.Common.{◌<◌, ◌++◌, ◌∙◌, List, ℕ, ap, length, refl, sym, take, subst}
use Rattle.std.proofs.lemmas.List.{take_all}
use Rattle.sn_lanes_narrow.specs.Marks.{mark}
use Rattle.sn_types.specs.declared.typed_op.TOp.{TOp}
use Rattle.sn_ops_stream.specs.Fronts.{AreFilters}
use Rattle.sn_ops_stream.specs.Streams.{HasTaken, admits_tuple}
use Rattle.sn_ops_stream.proofs.BranchLemmas.{more_taken, none_taken}
use Rattle.sn_ops_stream.proofs.FrontLemmas.{at_tuple, mark_at, past_tuples, same_admits, same_on}
use Rattle.sn_ops_stream.proofs.branch.BranchStream.take_marked.Goals as goal

pub loop-place-init : goal.loop-place-init
loop-place-init g c = record { taken = none_taken c.args.self.now; same = record { same_refined = refl; same_level = refl; same_fields = refl; same_ops = refl } }

pub bounds-tuples-place : goal.bounds-tuples-place
bounds-tuples-place g c = at_tuple c.args.tuples.now c.args.marks.now c.loop-place.place (λ (t : List ℕ). mark (admits_tuple c.args.self.now c.args.front t)) c.requires.marks c.loop-place-test.true

pub give-requires-clause-taking : goal.give-requires-clause-taking
give-requires-clause-taking g c =
    let given = c.requires.taking in
    let before = given.4 ++ take c.loop-place.place c.args.tuples.now in
    (given.0, given.1, given.2, given.3, before, c.loop-place.invariant.taken given.0 given.1 given.2 given.3 given.4 given.5)

pub give-requires-clause-filters : goal.give-requires-clause-filters
give-requires-clause-filters g c = subst (λ (ops : List TOp). AreFilters c.args.front ops) (sym c.loop-place.invariant.same.same_ops) c.requires.filters

pub give-requires-clause-marked : goal.give-requires-clause-marked
give-requires-clause-marked g c =
    let l = c.loop-place in
    let within : l.place < length c.args.tuples.now = at_tuple c.args.tuples.now c.args.marks.now l.place (λ (t : List ℕ). mark (admits_tuple c.args.self.now c.args.front t)) c.requires.marks c.loop-place-test.true in
    let tuple : List ℕ = c.index-tuples-place.result in
    mark_at (λ (t : List ℕ). mark (admits_tuple c.args.self.now c.args.front t)) c.args.tuples.now c.args.marks.now l.place tuple c.requires.marks within c.index-tuples-place.is
    ∙ ap mark (same_admits c.args.self.now l.self c.args.front tuple l.invariant.same)

pub loop-place-preserved : goal.loop-place-preserved
loop-place-preserved g c =
    let l = c.loop-place in
    let within : l.place < length c.args.tuples.now = at_tuple c.args.tuples.now c.args.marks.now l.place (λ (t : List ℕ). mark (admits_tuple c.args.self.now c.args.front t)) c.requires.marks c.loop-place-test.true in
    record {
      taken = more_taken c.args.tuples.now l.place c.index-tuples-place.result c.args.self.now l.self c.give.new.self within c.index-tuples-place.is l.invariant.taken c.in_ok-give.ensures.taken;
      same = same_on c.args.self.now l.self c.give.new.self l.invariant.same c.in_ok-give.ensures.same;
    }

pub returns : goal.returns
returns g c queries q b level tuples h =
    let l = c.loop-place in
    let end = c.loop-place-test.false in
    subst (λ (taken : List (List ℕ)). HasTaken queries q b level (tuples ++ taken) l.self) (take_all l.place c.args.tuples.now (past_tuples c.args.tuples.now c.args.marks.now l.place (λ (t : List ℕ). mark (admits_tuple c.args.self.now c.args.front t)) c.requires.marks end)) (l.invariant.taken queries q b level tuples h)
