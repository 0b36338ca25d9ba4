use Rattle.std.proofs.Common.{◌≡◌, length, map, ap, sym, ◌∙◌, arith}
use Rattle.std.proofs.lemmas.List.{with_items_is}
use Rattle.sn_fields.specs.Fields.{number_of}
use Rattle.std.specs.Prelude.{slice_index}
use Rattle.sn_lanes.proofs.LaneLemmas.{length_flags, map_map}
use Rattle.sn_lanes_narrow.specs.Marks.{number_mark}
use Rattle.sn_lanes_narrow.proofs.asked.marks_into.Goals as goal

pub compare-requires : goal.compare-requires
compare-requires c =
    let condition = c.args.condition.now in
    ap length (c.in-Some.ensures c.args.tuples.now c.requires)
    ∙ length_flags (λ tuple. slice_index tuple (number_of condition.field)) c.args.tuples.now
    ∙ sym (c.as_mut_slice.ensures.len ∙ c.in_ok-resize.ensures.len)

pub returns-in-Some : goal.returns-in-Some
returns-in-Some c =
    let condition = c.args.condition.now in
    let held = c.resize.new.self in
    let long : length c.compare.new.out ≡ held.len = omega (arith, c.compare.auto.out, c.as_mut_slice.ensures.len) in
    with_items_is held c.compare.new.out long
    ∙ c.compare.ensures
    ∙ ap (map (number_mark condition.cmp condition.and condition.constant)) (c.in-Some.ensures c.args.tuples.now c.requires)
    ∙ map_map (number_mark condition.cmp condition.and condition.constant) (λ tuple. slice_index tuple (number_of condition.field)) c.args.tuples.now
