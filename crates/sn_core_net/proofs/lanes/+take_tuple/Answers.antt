use Rattle.std.proofs.Common.{◌<◌, ◌∷◌, List, arith, subst}
use Rattle.sn_core_net.specs.Marks.{AreMarksFrom, Sees}
use Rattle.sn_core_net.specs.declared.holder.Holder.{Holder}
use Rattle.sn_core_net.specs.declared.marks.Marks.{Marks}
use Rattle.sn_core_net.proofs.MarkLemmas.{is_seen, marks_both, marks_rest, same_below}
use Rattle.sn_core_net.proofs.lanes.+take_tuple.Goals as goal

pub returns-in-Some-clause-marks : goal.returns-in-Some-clause-marks
returns-in-Some-clause-marks t c = λ are.
    let first = c.args.first in
    let room = c.args.room in
    let h : Holder = c.in-Some.lane.now in
    let hs : List Holder = c.in-Some.rest.now in
    let next : Holder = c.take_in.new.lane in
    let old : Marks = c.args.marks.now in
    let mid : Marks = c.take_in.new.marks in
    let cases = c.in-Some.ensures.cases in
    let whole : AreMarksFrom first room (h ∷ hs) old = subst (λ (xs : List Holder). AreMarksFrom first room xs old) cases.0 are in
    let few : first < 64 = omega (arith, c.requires.few, cases.1) in
    let sees : Sees first room next old mid = c.take_in.ensures.marks (is_seen first room h next hs old mid few whole) in
    let rest = marks_rest first room h next hs old mid few whole sees in
    marks_both first room h next hs old mid few whole sees c.take_tuple.new.marks (c.take_tuple.ensures.others rest) c.take_tuple.new.lanes (c.take_tuple.ensures.marks rest)

pub returns-in-Some-clause-others : goal.returns-in-Some-clause-others
returns-in-Some-clause-others t c = λ are.
    let first = c.args.first in
    let room = c.args.room in
    let h : Holder = c.in-Some.lane.now in
    let hs : List Holder = c.in-Some.rest.now in
    let next : Holder = c.take_in.new.lane in
    let old : Marks = c.args.marks.now in
    let mid : Marks = c.take_in.new.marks in
    let cases = c.in-Some.ensures.cases in
    let whole : AreMarksFrom first room (h ∷ hs) old = subst (λ (xs : List Holder). AreMarksFrom first room xs old) cases.0 are in
    let few : first < 64 = omega (arith, c.requires.few, cases.1) in
    let sees : Sees first room next old mid = c.take_in.ensures.marks (is_seen first room h next hs old mid few whole) in
    let rest = marks_rest first room h next hs old mid few whole sees in
    same_below first room h next hs old mid few whole sees c.take_tuple.new.marks (c.take_tuple.ensures.others rest)
