use Rattle.std.proofs.Common.{List, sym, ap, ◌∙◌}
use Rattle.std.specs.List.{flat_map}
use Rattle.sn_types_faults.specs.Walk.{branch_places, join_places, first_fault}
use Rattle.sn_types_faults.proofs.WalkLemmas.{refine_stops, branches_stop, join_decides}
use Rattle.sn_query_grammar.specs.declared.ast.Branch.{Branch}
use Rattle.sn_types_faults.proofs.walk.query_fault.Goals as goal

pub returns-in-Some : goal.returns-in-Some
returns-in-Some c = refine_stops c.args.query.now c.in-Some.found (sym c.refine_line_fault-of_refine.ensures ∙ c.in-Some.is)

pub returns-in-Some-of_branches : goal.returns-in-Some-of_branches
returns-in-Some-of_branches c = branches_stop c.args.query.now c.in-Some-of_branches.found (sym c.refine_line_fault-of_refine.ensures ∙ c.in-None.is) (ap (λ (bs : List Branch). first_fault (flat_map (λ b. branch_places c.args.query.now.refine b.ops) bs)) (sym c.as_slice.ensures) ∙ sym c.in_ok-of_branches.ensures ∙ c.in-Some-of_branches.is)

pub returns : goal.returns
returns c = c.in_ok-of_join.ensures ∙ ap (λ (bs : List Branch). first_fault (join_places c.args.query.now.refine bs c.args.query.now.join)) c.as_slice-2.ensures ∙ join_decides c.args.query.now (sym c.refine_line_fault-of_refine.ensures ∙ c.in-None.is) (ap (λ (bs : List Branch). first_fault (flat_map (λ b. branch_places c.args.query.now.refine b.ops) bs)) (sym c.as_slice.ensures) ∙ sym c.in_ok-of_branches.ensures ∙ c.in-None-of_branches.is)
