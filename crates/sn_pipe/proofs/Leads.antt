-- A row comes through the filters at the front of stages, or stops at one.
use Rattle.std.proofs.Common.{◌≡◌, ℕ, suc, ◌+◌, ◌<◌, List, [], ◌∷◌, ◌++◌, take, drop, length, append_assoc, take-append-drop, true, false, cond, Some, None, get_or, refl, ap, sym, subst, ◌∙◌, arith}
use Rattle.std.specs.List.{list_all}
use Rattle.std.specs.Option.{option_and_then, option_map_or}
use Rattle.std.proofs.Math.Seq.{drop-cons}
use Rattle.std.proofs.lemmas.List.{take_more}
use Rattle.sn_base.specs.Groups.{Row}
use Rattle.sn_types.specs.Values.{holds}
use Rattle.sn_pipe.specs.AnyStage.{Stage}
use Rattle.sn_pipe.specs.declared.stage.Stage.TheVariants.{Filter}
use Rattle.sn_pipe.specs.Leading.{Leads, StopsAhead}
use Rattle.sn_pipe.specs.Passing.{CanPass, CanTake}
use Rattle.sn_pipe.specs.Stages.{item_from, stages_after}
use Rattle.sn_types.specs.declared.typed_op.TCond.{TCond}

pub leads_none : (level : ℕ) (stages : List Stage) (row : Row) → CanPass level stages row → Leads level stages row 0
leads_none level stages row can = record {
  within = omega arith;
  item = λ first. let same : first ≡ first + 0 = omega arith in ap (λ (n : ℕ). item_from level n stages row) same;
  after = refl;
  can = can;
}

module _ (level : ℕ) (stages : List Stage) (row : Row) (place : ℕ) (conds : List TCond) (leads : Leads level stages row place) (within : place < length stages) (is : Filter conds ≡ get_or stages place (Filter conds)) where
  abbrev rest : List Stage
  rest = drop (suc place) stages

  here : drop place stages ≡ Filter conds ∷ rest
  here = drop-cons stages place (Filter conds) within ∙ ap (λ (s : Stage). s ∷ rest) (sym is)

  pub filter_taken : CanTake (Filter conds) row
  filter_taken = (subst (λ (ss : List Stage). CanPass level ss row) here leads.can).0

  -- the row passes one filter more
  pub leads_more : list_all (λ c. holds level c row) conds ≡ true → Leads level stages row (place + 1)
  leads_more passes = record {
    within = omega arith;
    item = λ first.
        let next : suc (first + place) ≡ first + (place + 1) = omega arith in
        let one : suc place ≡ place + 1 = omega arith in
        leads.item first ∙ ap (λ (ss : List Stage). item_from level (first + place) ss row) here
        ∙ ap (λ b. option_and_then (item_from level (suc (first + place)) rest) (cond b (Some row) None)) passes
        ∙ ap (λ (n : ℕ). item_from level n rest row) next ∙ ap (λ (n : ℕ). item_from level (first + (place + 1)) (drop n stages) row) one;
    after =
        let one : suc place ≡ place + 1 = omega arith in
        leads.after ∙ ap (λ (ss : List Stage). take place stages ++ stages_after level ss row) here
        ∙ ap (λ b. take place stages ++ Filter conds ∷ option_map_or (stages_after level rest) (cond b (Some row) None) rest) passes
        ∙ ap (λ (s : Stage). take place stages ++ s ∷ stages_after level rest row) is
        ∙ sym (append_assoc (take place stages) (get_or stages place (Filter conds) ∷ []) (stages_after level rest row))
        ∙ ap (λ (front : List Stage). front ++ stages_after level rest row) (sym (take_more stages place (Filter conds) within))
        ∙ ap (λ (n : ℕ). take (place + 1) stages ++ stages_after level (drop n stages) row) one;
    can = let one : suc place ≡ place + 1 = omega arith in subst (λ (n : ℕ). CanPass level (drop n stages) row) one ((subst (λ (ss : List Stage). CanPass level ss row) here leads.can).1 passes);
  }

  -- it fails at one
  pub stops_here : list_all (λ c. holds level c row) conds ≡ false → StopsAhead level stages row
  stops_here fails = record {
    item = λ first.
        leads.item first ∙ ap (λ (ss : List Stage). item_from level (first + place) ss row) here
        ∙ ap (λ b. option_and_then (item_from level (suc (first + place)) rest) (cond b (Some row) None)) fails;
    after =
        leads.after ∙ ap (λ (ss : List Stage). take place stages ++ stages_after level ss row) here
        ∙ ap (λ b. take place stages ++ Filter conds ∷ option_map_or (stages_after level rest) (cond b (Some row) None) rest) fails
        ∙ ap (λ (ss : List Stage). take place stages ++ ss) (sym here) ∙ take-append-drop place stages;
  }
