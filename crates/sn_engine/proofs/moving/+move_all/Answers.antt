use Rattle.std.proofs.Common.{rules, ◌≡◌, ◌∷◌, List, true, map, ap, ◌∙◌, subst}
use Rattle.std.specs.List.{list_all}
use Rattle.std.proofs.lemmas.Bool.{and_parts}
use Rattle.std.proofs.lemmas.Result.{err_from_is_err_and}
use Rattle.sn_engine.specs.Intakes.{AreIntakes, emptied, is_lane}
use Rattle.sn_engine.specs.Moving.{has_name, name_of}
use Rattle.sn_engine.specs.Turns.{lane_tag, turn}
use Rattle.sn_engine.specs.declared.intake.Intake.{Intake}
use Rattle.sn_engine.proofs.Moves.{emptied_kept, names_kept}
use Rattle.sn_engine.proofs.moving.+move_all.Goals as goal

pub move_all-requires : goal.move_all-requires
move_all-requires t c =
    let lanes : List Intake = c.args.lanes.now.items in
    let given = c.args.given.now.queries in
    let first : Intake = c.in-Some.first.now in
    let rest : List Intake = c.in-Some.rest.now in
    let was = c.in-Some.ensures.cases.0 in
    let named : list_all (has_name lanes) (first ∷ rest) ≡ true = subst (λ (xs : List Intake). list_all (has_name lanes) xs ≡ true) was c.requires.lanes in
    let are : AreIntakes given (first ∷ rest) = subst (AreIntakes given) was c.requires.others in
    let parts = and_parts (has_name lanes first) (list_all (has_name lanes) rest) named in (
      search rules,
      (
        ap (λ (ls : List Intake). list_all (has_name ls) rest) c.in_ok-move_lane.ensures.ok ∙ names_kept given lanes first rest ∙ parts.1,
        are.1,
      ),
    )

pub returns-in_err-move_all-clause-err : goal.returns-in_err-move_all-clause-err
returns-in_err-move_all-clause-err t c =
    let x : Intake = c.in-Some.first.now in
    let p = err_from_is_err_and c.from_residual-in_err-move_all.result c.from_residual-in_err-move_all.ensures.1 in
    rw p.1 (c.in_err-move_all.ensures.err ∙ ap (map emptied) c.in_ok-move_lane.ensures.ok
    ∙ emptied_kept (is_lane (name_of x)) (map (turn (lane_tag c.args.given.now.queries x)) x.items) c.args.lanes.now.items)
